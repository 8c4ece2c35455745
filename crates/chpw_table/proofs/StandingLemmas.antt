-- What is refused whatever else a table holds.
use Rattle.std.proofs.Common.{◌≡◌, [], Bool, true, false, ◌||◌, if◌then◌else◌, is_none, unwrap_or, Option, Some, None, refl, sym, ◌∙◌, arith}
use Rattle.std.specs.Prelude.{nat_lt, ◌==◌, ℤ, int_le}
use Rattle.std.specs.Int.{int_max}
use Rattle.std.proofs.lemmas.Int.{ints, clamps}
use Rattle.chpw_table.specs.declared.times.Moment.{Moment}
use Rattle.chpw_table.specs.declared.request.Opened.{Opened}
use Rattle.chpw_table.specs.declared.verdict.Verdict.{Verdict}
use Rattle.chpw_table.specs.declared.verdict.Verdict.TheVariants.{Skew, Replay, NotYet, Expired, BadPrivate}
use Rattle.chpw_table.specs.declared.verdict.Verdict.TheVariants.{BadBody, Denied, NeedInitial, Unknown, Short}
use Rattle.chpw_table.specs.declared.verdict.Verdict.TheVariants.{Classes, Reused, LastVersion, Broken, Done}
use Rattle.chpw_table.specs.Requests.{id_of, target_of, digest_of, is_bad_private, is_bad_data}
use Rattle.chpw_table.specs.State.{State, keys_held, is_used}
use Rattle.chpw_table.specs.Verdicts.{reads_keys}
use Rattle.chpw_table.specs.Wanted.{compared_keys}
use Rattle.chpw_table.specs.Times.{clock_at, is_far, is_later, is_stale}
use Rattle.chpw_table.specs.Decision.{verdict, key_row, newest_kvno, is_denied, needs_initial, is_reused}
use Rattle.chpw_table.specs.Standing.{is_past, is_too_late, is_bad, is_weak, refused_anyway}
use Rattle.chpw_table.specs.Laws.{RefusedAnyway}

neither : (a b : Bool) → (a || b) ≡ false → (a ≡ false) × (b ≡ false)
neither true b h = cc
neither false b h = (refl, h)

none : (a b : Bool) → a ≡ false → b ≡ false → (a || b) ≡ false
none a b h k = rw (h, k) refl

-- ---- what is not too late for the clock is not too late for the moment

near_now : (clock now time : ℤ) → is_far (int_max clock now) time ≡ false → is_later now time ≡ false
near_now clock now time h = grind (arith, ints, clamps)

not_over_now : (clock now time : ℤ) → is_later (int_max clock now) time ≡ false → is_later now time ≡ false
not_over_now clock now time h = grind (arith, ints, clamps)

not_past_now : (clock now : ℤ) (stamp : Option ℤ) → is_stale (int_max clock now) stamp ≡ false → is_past now stamp ≡ false
not_past_now clock now None h = refl
not_past_now clock now (Some stamp) h = near_now clock now stamp h

in_time : (s : State) (now : Moment) (o : Opened) → is_far (clock_at s now) o.ctime ≡ false
    → is_later (clock_at s now) o.ends ≡ false → is_stale (clock_at s now) o.stamp ≡ false
    → is_too_late now.seconds o ≡ false
in_time s now o far over stale =
    none (is_later now.seconds o.ctime || is_later now.seconds o.ends) (is_past now.seconds o.stamp)
    (none (is_later now.seconds o.ctime) (is_later now.seconds o.ends)
    (near_now s.clock now.seconds o.ctime far) (not_over_now s.clock now.seconds o.ends over))
    (not_past_now s.clock now.seconds o.stamp stale)

-- ---- where keys are looked at, no row before applies

past_message : (a b c d e f g h : Bool) (v : Verdict)
    → reads_keys (if a then Skew else if b then Replay else if c then NotYet else if d then Expired
    else if e then BadPrivate else if f then BadBody else if g then Denied else if h then NeedInitial else v) ≡ true
    → (a ≡ false) × (c ≡ false) × (d ≡ false) × (e ≡ false) × (f ≡ false) × (g ≡ false) × (h ≡ false) × (reads_keys v ≡ true)
past_message true b c d e f g h v k = cc
past_message false true c d e f g h v k = cc
past_message false false true d e f g h v k = cc
past_message false false false true e f g h v k = cc
past_message false false false false true f g h v k = cc
past_message false false false false false true g h v k = cc
past_message false false false false false false true h v k = cc
past_message false false false false false false false true v k = cc
past_message false false false false false false false false v k = (refl, refl, refl, refl, refl, refl, refl, k)

past_weak : (a b c : Bool) (v : Verdict) → reads_keys (if a then Unknown else if b then Short else if c then Classes else v) ≡ true → (b || c) ≡ false
past_weak true b c v k = cc
past_weak false true c v k = cc
past_weak false false true v k = cc
past_weak false false false v k = refl

strong : (s : State) (o : Opened) (io : Bool) → reads_keys (key_row s o io) ≡ true → is_weak s.fixed.policy (digest_of o) ≡ false
strong s o io h =
    past_weak (is_none (keys_held s (target_of o).name)) (nat_lt (digest_of o).length s.fixed.policy.min_length)
    (nat_lt (digest_of o).classes s.fixed.policy.min_classes)
    (if is_reused (digest_of o) (compared_keys s (target_of o).name)
    then Reused else if newest_kvno (unwrap_or (keys_held s (target_of o).name) []) == 4294967295
    then LastVersion else if s.broken || io then Broken else Done) h

none_before : (s : State) (now : Moment) (o : Opened) (io : Bool) → reads_keys (verdict s now o io) ≡ true → refused_anyway s.fixed now o ≡ false
none_before s now o io h =
    let clock = clock_at s now in
    let past = past_message (is_far clock o.ctime || int_le o.ctime s.fixed.quiet_until)
    (is_used s (id_of o)) (is_later o.starts clock || o.invalid) (is_later clock o.ends)
    (is_bad_private o.body || is_stale clock o.stamp) (is_bad_data o.body) (is_denied s.fixed o) (needs_initial s.fixed o) (key_row s o io) h in
    let skew = neither (is_far clock o.ctime) (int_le o.ctime s.fixed.quiet_until) past.0 in
    let early = neither (is_later o.starts clock) o.invalid past.1 in
    let private = neither (is_bad_private o.body) (is_stale clock o.stamp) past.3 in
    let late = in_time s now o skew.0 past.2 private.1 in
    let weak = strong s o io past.7 in
    let bad = none (is_bad_private o.body) (is_bad_data o.body) private.0 past.4 in
    none _ (is_weak s.fixed.policy (digest_of o))
    (none _ (needs_initial s.fixed o)
    (none _ (is_denied s.fixed o)
    (none _ (is_bad o.body)
    (none _ o.invalid
    (none (int_le o.ctime s.fixed.quiet_until) (is_too_late now.seconds o) skew.1 late)
    early.1) bad) past.5) past.6) weak

-- the law on what is refused anyway
pub refused_anyway_law : RefusedAnyway
refused_anyway_law s now o io h = (unread io, rw (unread false) refl)
  where
    at : (b : Bool) → (b ≡ true → refused_anyway s.fixed now o ≡ false) → b ≡ false
    at true k = sym h ∙ k refl
    at false k = refl

    unread : (io : Bool) → reads_keys (verdict s now o io) ≡ false
    unread io = at (reads_keys (verdict s now o io)) (none_before s now o io)
