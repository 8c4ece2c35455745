-- The times of the decision.
use Rattle.std.proofs.Common.{◌≡◌, ◌≢◌, Bool, true, false, ◌||◌, if◌then◌else◌, inl, inr, refl, ap, arith}
use Rattle.std.specs.Prelude.{ℤ, pos, ◌+ℤ◌, ◌-ℤ◌, ◌≤ℤ◌, ◌<ℤ◌, int_le}
use Rattle.std.proofs.lemmas.Int.{ints}
use Rattle.chpw_table.specs.declared.times.Moment.{Moment}
use Rattle.chpw_table.specs.declared.request.Opened.{Opened}
use Rattle.chpw_table.specs.declared.verdict.Verdict.{Verdict}
use Rattle.chpw_table.specs.declared.verdict.Verdict.TheVariants.{Skew, Replay, NotYet, Expired, BadPrivate}
use Rattle.chpw_table.specs.declared.verdict.Verdict.TheVariants.{BadBody, Denied, NeedInitial, Unknown, Short}
use Rattle.chpw_table.specs.declared.verdict.Verdict.TheVariants.{Classes, Reused, LastVersion, Broken, Done}
use Rattle.chpw_table.specs.State.{State, is_used}
use Rattle.chpw_table.specs.Requests.{id_of}
use Rattle.chpw_table.specs.Times.{clock_at, is_far}
use Rattle.chpw_table.specs.Decision.{verdict, message_row}
use Rattle.chpw_laws.specs.Seconds.{AreNear, AreApart, PassesIfNear, Apart300IsIn, Apart301IsOut, MicrosAreNotRead}
use Rattle.chpw_laws.specs.Seconds.{LaterIsBy300, QuietIs300, QuietNever, LastSecondIsOf9999}

pub later_is_by_300 : LaterIsBy300
later_is_by_300 time other = (λ h. grind (arith, ints), λ h. grind (arith, ints))

pub last_second_is_of_9999 : LastSecondIsOf9999
last_second_is_of_9999 = refl

-- ---- the first row

-- no other row is Skew
others_not_skew : (b c d e f g h i j k r l x : Bool)
    → (if b then Replay else if c then NotYet else if d then Expired else if e then BadPrivate else if f then BadBody
    else if g then Denied else if h then NeedInitial else if i then Unknown else if j then Short else if k then Classes
    else if r then Reused else if l then LastVersion else if x then Broken else Done) ≢ Skew
others_not_skew false false false false false false false false false false false false false skew = cc
others_not_skew b c d e f g h i j k r l x skew = cc

-- the test of the first row
abbrev is_out : ℤ → ℤ → ℤ → Bool
is_out clock time quiet = is_far clock time || int_le time quiet

first_row : (out : Bool) (v : Verdict) → v ≢ Skew → ((if out then Skew else v) ≢ Skew → out ≡ false) × (out ≡ false → (if out then Skew else v) ≢ Skew)
first_row true v h = (λ k. absurd (k refl), λ e skew. cc)
first_row false v h = (λ k. refl, λ e. h)

in_row : (s : State) (now : Moment) (o : Opened) (io : Bool)
    → (verdict s now o io ≢ Skew → is_out (clock_at s now) o.ctime s.fixed.quiet_until ≡ false)
    × (is_out (clock_at s now) o.ctime s.fixed.quiet_until ≡ false → verdict s now o io ≢ Skew)
in_row s now o io =
    first_row (is_out (clock_at s now) o.ctime s.fixed.quiet_until) (if is_used s (id_of o) then Replay else message_row s (clock_at s now) o io)
    (others_not_skew _ _ _ _ _ _ _ _ _ _ _ _ _)

out_row : (s : State) (now : Moment) (o : Opened) (io : Bool) → is_out (clock_at s now) o.ctime s.fixed.quiet_until ≡ true → verdict s now o io ≡ Skew
out_row s now o io h = ap (λ (b : Bool). if b then Skew else if is_used s (id_of o) then Replay else message_row s (clock_at s now) o io) h

was_out : (s : State) (now : Moment) (o : Opened) (io : Bool) → verdict s now o io ≡ Skew → is_out (clock_at s now) o.ctime s.fixed.quiet_until ≡ true
was_out s now o io h = either (is_out (clock_at s now) o.ctime s.fixed.quiet_until) (λ e. (in_row s now o io).1 e h)
  where
    either : (b : Bool) → (b ≡ false → ⊥) → b ≡ true
    either true h = refl
    either false h = absurd (h refl)

-- ---- its test in digits

is_in : (clock time quiet : ℤ) → AreNear clock time → quiet <ℤ time → is_out clock time quiet ≡ false
is_in clock time quiet near h = grind (arith, ints)

was_in : (clock time quiet : ℤ) → is_out clock time quiet ≡ false → AreNear clock time × (quiet <ℤ time)
was_in clock time quiet h = ((grind (arith, ints), grind (arith, ints)), grind (arith, ints))

near_300 : (clock time : ℤ) → AreApart 300 clock time → AreNear clock time
near_300 clock time (inl e) = (omega (arith, ints), omega (arith, ints))
near_300 clock time (inr e) = (omega (arith, ints), omega (arith, ints))

out_301 : (clock time quiet : ℤ) → AreApart 301 clock time → is_out clock time quiet ≡ true
out_301 clock time quiet (inl e) = grind (arith, ints)
out_301 clock time quiet (inr e) = grind (arith, ints)

out_quiet : (start clock time quiet : ℤ) → quiet ≡ start +ℤ pos 300 → time ≤ℤ (start +ℤ pos 300) → is_out clock time quiet ≡ true
out_quiet start clock time quiet e h = grind (arith, ints)

behind_quiet : (start time quiet : ℤ) → quiet ≡ start +ℤ pos 300 → (start +ℤ pos 301) ≤ℤ time → quiet <ℤ time
behind_quiet start time quiet e h = omega (arith, ints)

never_quiet : (start clock time quiet : ℤ) → quiet ≡ start -ℤ pos 301 → start ≤ℤ clock → AreNear clock time → quiet <ℤ time
never_quiet start clock time quiet e h near = omega (arith, ints)

-- ---- the laws

pub passes_if_near : PassesIfNear
passes_if_near s now o io = (
  λ near quiet. (in_row s now o io).1 (is_in (clock_at s now) o.ctime s.fixed.quiet_until near quiet),
  λ passes. was_in (clock_at s now) o.ctime s.fixed.quiet_until ((in_row s now o io).0 passes),
)

pub apart_300_is_in : Apart300IsIn
apart_300_is_in s now o io apart quiet = (passes_if_near s now o io).0 (near_300 (clock_at s now) o.ctime apart) quiet

pub apart_301_is_out : Apart301IsOut
apart_301_is_out s now o io apart = out_row s now o io (out_301 (clock_at s now) o.ctime s.fixed.quiet_until apart)

pub quiet_is_300 : QuietIs300
quiet_is_300 start s now o io quiet = (
  λ early. out_row s now o io (out_quiet start (clock_at s now) o.ctime s.fixed.quiet_until quiet early),
  λ late near. (passes_if_near s now o io).0 near (behind_quiet start o.ctime s.fixed.quiet_until quiet late),
)

pub quiet_never : QuietNever
quiet_never start s now o io quiet after near =
    (passes_if_near s now o io).0 near (never_quiet start (clock_at s now) o.ctime s.fixed.quiet_until quiet after near)

pub micros_are_not_read : MicrosAreNotRead
micros_are_not_read s now o io micros = (refl, λ skew. out_row s now (record o { cusec = micros }) io (was_out s now o io skew))
