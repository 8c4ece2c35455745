use Rattle.std.proofs.Common.{◌≤◌, length, arith, subst, ℕ, Option}
use Rattle.chpw_control.proofs.SeatLemmas.{IsFirstBelow, first_of_all}
use Rattle.chpw_control.proofs.callers.Callers.first_waiting.Goals as goal

pub returns-in-Some-clause-first : goal.returns-in-Some-clause-first
returns-in-Some-clause-first c =
    let seats = c.args.self.now.seats in
    let few : length seats.slots ≤ c.loop-slot.slot = omega (arith, c.capacity-slot-end.ensures.slots) in
    let P : Option (ℕ × ℕ) → Type 0 = λ l. IsFirstBelow seats c.args.order l c.loop-slot.slot in
    first_of_all seats c.args.order (c.in-Some.field-0-0, c.in-Some.slot) c.loop-slot.slot few (subst P c.in-Some.is c.loop-slot.invariant)
