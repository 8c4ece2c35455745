-- The limits of the kinds of messages that anybody can send without end, each by itself.
use Rattle.std.specs.Prelude.{◌≡◌, ℕ, ◌+◌, ◌<◌, ◌≤◌, List, Bool, true, false, IfSome}
use Rattle.std.specs.declared.net.ip_addr.IpAddr.{IpAddr}
use Rattle.chpw_log.specs.declared.held_count.HeldCount.{HeldCount}
use Rattle.chpw_log.specs.declared.kind.HeldKind.{HeldKind}
use Rattle.chpw_log.specs.declared.kind.HeldKind.TheVariants.{Unopened, Skewed, Replayed}
use Rattle.chpw_log.specs.declared.limit.LineLimit.{LineLimit}
use Rattle.chpw_log.specs.declared.limits.HeldCounts.{HeldCounts}
use Rattle.chpw_log.specs.declared.limits.LineLimits.{LineLimits}
use Rattle.chpw_log.specs.Limits.{held_after, is_free, left_at, lines_after, rest_of, told_at}

-- the kind of a message is that of the limit
abbrev pub is_unopened : HeldKind → Bool
is_unopened Unopened = true
is_unopened Skewed = false
is_unopened Replayed = false

abbrev pub is_skewed : HeldKind → Bool
is_skewed Unopened = false
is_skewed Skewed = true
is_skewed Replayed = false

abbrev pub is_replayed : HeldKind → Bool
is_replayed Unopened = false
is_replayed Skewed = false
is_replayed Replayed = true

abbrev pub limit_of : HeldKind → LineLimits → LineLimit
limit_of Unopened limits = limits.unopened
limit_of Skewed limits = limits.skewed
limit_of Replayed limits = limits.replayed

-- a message of this kind has a line by its own kind's lines alone
abbrev pub is_line : ℕ → HeldKind → LineLimits → Bool
is_line now kind limits = is_free now (limit_of kind limits).lines

-- the summaries that are due, whatever came
abbrev pub IsTold : ℕ → LineLimits → HeldCounts → Type 0
IsTold now limits told =
    (told.unopened ≡ told_at now limits.unopened.held)
    × (told.skewed ≡ told_at now limits.skewed.held)
    × (told.replayed ≡ told_at now limits.replayed.held)

-- at the end those of whatever is held
abbrev pub IsRest : LineLimits → HeldCounts → Type 0
IsRest limits told =
    (told.unopened ≡ rest_of limits.unopened.held)
    × (told.skewed ≡ rest_of limits.skewed.held)
    × (told.replayed ≡ rest_of limits.replayed.held)

-- a limit of another kind than the message's: only a summary may have been due
abbrev pub IsLeft : ℕ → LineLimit → LineLimit → Type 0
IsLeft now before after = (after.lines ≡ before.lines) × (after.held ≡ left_at now before.held)

-- a limit after a message, which is of its kind or isn't
abbrev pub IsAfter : Bool → ℕ → IpAddr → LineLimit → LineLimit → Type 0
IsAfter true now peer before after =
    (after.lines ≡ lines_after now before.lines) × (after.held ≡ held_after now peer before.lines before.held)
IsAfter false now peer before after = IsLeft now before after

abbrev pub IsFew : HeldCount → Type 0
IsFew held = held.loopback + held.other ≤ 1000000

abbrev pub AreFew : HeldCounts → Type 0
AreFew told = IfSome told.unopened IsFew × IfSome told.skewed IsFew × IfSome told.replayed IsFew

-- one more can be counted
abbrev pub HasRoom : LineLimit → Type 0
HasRoom limit = limit.held.loopback + limit.held.other < 1000000

abbrev pub HaveRoom : LineLimits → Type 0
HaveRoom limits = HasRoom limits.unopened × HasRoom limits.skewed × HasRoom limits.replayed

abbrev pub IsNoneHeldOf : LineLimit → Type 0
IsNoneHeldOf limit = (limit.held.loopback ≡ 0) × (limit.held.other ≡ 0)

abbrev pub IsNoneHeld : LineLimits → Type 0
IsNoneHeld limits = IsNoneHeldOf limits.unopened × IsNoneHeldOf limits.skewed × IsNoneHeldOf limits.replayed
