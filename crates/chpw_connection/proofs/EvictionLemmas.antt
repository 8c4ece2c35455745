-- Who gives way where room is made.
use Rattle.std.proofs.Common.{◌≡◌, ℕ, ◌≤◌, refl, ◌∙◌, ap, arith, Bool, true, false, ◌&&◌, not, nat_lt, cond, Option, Some, None, ◌<◌}
use Rattle.std.proofs.lemmas.Bool.Decides.{nat_tests}
use Rattle.chpw_connection.specs.Stages.{Stage, reading, queued, answering, confirming, writing, lingering, abandoned, ended, failed, after, stage, stage_of}
use Rattle.chpw_connection.specs.Holding.{held_by, begun_of, held_at}
use Rattle.chpw_connection.specs.Slot.{waits, Comes}
use Rattle.chpw_connection.specs.Eviction.{is_held_back, is_among, gives_way, gives_way_at, gives_way_since, given_at}
use Rattle.chpw_connection.specs.declared.connection.Connection.{Connection}
use Rattle.chpw_connection.specs.declared.eviction.EvictionRule.{EvictionRule}
use Rattle.chpw_connection.specs.declared.connection.Phase.{Phase}
use Rattle.chpw_connection.specs.declared.connection.Phase.TheVariants as phase

-- what gives way since a moment gives way
pub waits_from : (who : EvictionRule) (o : Option Connection) (since : ℕ) → gives_way_since who o ≡ Some since → gives_way_at who o ≡ true
waits_from who None since is = absurd cc
waits_from who (Some c) since is = by_test (gives_way who c) is
  where
    by_test : (t : Bool) → cond t (Some (begun_of c)) None ≡ Some since → t ≡ true
    by_test true e = refl
    by_test false e = absurd cc

pub and_left : (a b : Bool) → (a && b) ≡ true → a ≡ true
and_left true b e = refl
and_left false b e = e

-- who waits for its client ends, and waits no more
pub ends_waiting : (count : ℕ) (s : Stage) → waits s ≡ true → after count s failed ≡ ended
ends_waiting count (reading bytes) is = refl
ends_waiting count (queued message) is = absurd cc
ends_waiting count (answering m) is = absurd cc
ends_waiting count (confirming reply last ticket) is = absurd cc
ends_waiting count (writing left last) is = refl
ends_waiting count lingering is = refl
ends_waiting count abandoned is = absurd cc
ends_waiting count ended is = absurd cc

pub out_waits_not : (who : EvictionRule) (old new : Option Connection) → gives_way_at who old ≡ true → Comes 0 failed old new → gives_way_at who new ≡ false
out_waits_not who None new is comes = absurd cc
out_waits_not who (Some c) None is comes = absurd comes
out_waits_not who (Some c) (Some d) is comes =
    let waited : waits (stage c) ≡ true = and_left (waits (stage c)) (nat_lt 0 (held_by c.phase) && (not (is_held_back c) && is_among who c)) is in
    let over : waits (stage d) ≡ false = ap waits (comes.stage_is ∙ ends_waiting c.answered (stage c) waited) in
    ap (λ (b : Bool). b && (nat_lt 0 (held_by d.phase) && (not (is_held_back d) && is_among who d))) over

-- what is let go of was held
pub given_le : (who : EvictionRule) (o : Option Connection) → given_at who o ≤ held_at o
given_le who None = omega arith
given_le who (Some c) = by_test (gives_way who c)
  where
    by_test : (t : Bool) → cond t (held_by c.phase) 0 ≤ held_by c.phase
    by_test true = omega arith
    by_test false = omega arith

pub gives_none : (who : EvictionRule) (o : Option Connection) → gives_way_since who o ≡ None → given_at who o ≡ 0
gives_none who None is = refl
gives_none who (Some c) is = by_test (gives_way who c) is
  where
    by_test : (t : Bool) → cond t (Some (begun_of c)) None ≡ None → cond t (held_by c.phase) 0 ≡ 0
    by_test true e = absurd cc
    by_test false e = refl

-- who gives way lets go of all that it holds, and that is something
pub gives_held : (who : EvictionRule) (o : Option Connection) → gives_way_at who o ≡ true → (given_at who o ≡ held_at o) × (0 < held_at o)
gives_held who None is = absurd cc
gives_held who (Some c) is = (
  ap (λ (t : Bool). cond t (held_by c.phase) 0) is,
  holds_some (waits (stage c)) (not (is_held_back c) && is_among who c) is,
)
  where
    holds_some : (a b : Bool) → (a && (nat_lt 0 (held_by c.phase) && b)) ≡ true → 0 < held_by c.phase
    holds_some true b e = let some = and_left (nat_lt 0 (held_by c.phase)) b e in grind (arith, nat_tests)
    holds_some false b e = absurd cc

-- what has ended holds nothing
ended_empty : (p : Phase) → stage_of p ≡ ended → held_by p ≡ 0
ended_empty (phase.Reading bytes) e = absurd cc
ended_empty (phase.Queued message) e = absurd cc
ended_empty (phase.Answering m) e = refl
ended_empty (phase.Confirming waiting) e = absurd cc
ended_empty (phase.Writing outgoing) e = absurd cc
ended_empty phase.Lingering e = refl
ended_empty phase.Abandoned e = refl
ended_empty phase.Ended e = refl

pub lets_go : (who : EvictionRule) (old new : Option Connection) → gives_way_at who old ≡ true → Comes 0 failed old new
    → (held_at new ≡ 0) × (given_at who new ≡ 0)
lets_go who None new is comes = absurd cc
lets_go who (Some c) None is comes = absurd comes
lets_go who (Some c) (Some d) is comes =
    let waited : waits (stage c) ≡ true = and_left (waits (stage c)) (nat_lt 0 (held_by c.phase) && (not (is_held_back c) && is_among who c)) is in
    let over : stage d ≡ ended = comes.stage_is ∙ ends_waiting c.answered (stage c) waited in
    let none : held_by d.phase ≡ 0 = ended_empty d.phase over in
    let few : given_at who (Some d) ≤ held_by d.phase = given_le who (Some d) in
    (none, omega arith)
