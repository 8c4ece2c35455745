-- What a request is refused for by what stays the same while the service runs, and by the moment.
use Rattle.std.specs.Prelude.{ℤ, int_le, Bool, false, ◌||◌, nat_lt, Option, Some, None}
use Rattle.chpw_rules.specs.declared.policy.Policy.{Policy}
use Rattle.chpw_table.specs.declared.times.Moment.{Moment}
use Rattle.chpw_table.specs.declared.digest.Digest.{Digest}
use Rattle.chpw_table.specs.declared.request.Body.{Body}
use Rattle.chpw_table.specs.declared.request.Opened.{Opened}
use Rattle.chpw_table.specs.Requests.{digest_of, is_bad_private, is_bad_data}
use Rattle.chpw_table.specs.State.{Fixed}
use Rattle.chpw_table.specs.Times.{is_later}
use Rattle.chpw_table.specs.Decision.{is_denied, needs_initial}

-- there is a timestamp, and the time is later than it by more than the skew
abbrev pub is_past : ℤ → Option ℤ → Bool
is_past time None = false
is_past time (Some stamp) = is_later time stamp

-- too late for the authenticator, the ticket or the KRB-PRIV, at this time and at each later one
abbrev pub is_too_late : ℤ → Opened → Bool
is_too_late time o = is_later time o.ctime || is_later time o.ends || is_past time o.stamp

-- there is no new password
abbrev pub is_bad : Body → Bool
is_bad body = is_bad_private body || is_bad_data body

-- the new password is too short, or has too few classes
abbrev pub is_weak : Policy → Digest → Bool
is_weak policy digest = nat_lt digest.length policy.min_length || nat_lt digest.classes policy.min_classes

-- A row before those on the new password's keys applies, whatever ids are used and whatever keys are held. The clock of
-- a decision is no earlier than its moment, so what is too late for the moment is too late for it. What is too early
-- for the moment may not be too early for it: so those tests are left out.
abbrev pub refused_anyway : Fixed → Moment → Opened → Bool
refused_anyway f now o =
    int_le o.ctime f.quiet_until
    || is_too_late now.seconds o
    || o.invalid
    || is_bad o.body
    || is_denied f o
    || needs_initial f o
    || is_weak f.policy (digest_of o)
