use Rattle.std.proofs.Common.{◌+◌, ◌≤◌, length, arith, subst, sym, ℕ, Option}
use Rattle.chpw_slots.proofs.WaitLemmas.{IsLongestOfBelow, longest_of_next, longest_of_peer}
use Rattle.chpw_slots.proofs.slots.Slots.longest_of.Goals as goal

pub returns-in-Some-clause-found : goal.returns-in-Some-clause-found
returns-in-Some-clause-found c =
    let slots = c.args.self.now.connections in
    let few : length slots.slots ≤ c.loop-slot.slot = omega (arith, c.capacity-slot-end.ensures.slots) in
    let P : Option (ℕ × ℕ) → Type 0 = λ l. IsLongestOfBelow slots c.args.peer l c.loop-slot.slot in
    longest_of_peer slots c.args.peer (c.in-Some.field-0-0, c.in-Some.slot) c.loop-slot.slot few (subst P c.in-Some.is c.loop-slot.invariant)

pub loop-slot-preserved : goal.loop-slot-preserved
loop-slot-preserved c =
    let slots = c.args.self.now.connections in
    let P : Option (ℕ × ℕ) → Type 0 = λ l. IsLongestOfBelow slots c.args.peer l (c.loop-slot.slot + 1) in
    subst P (sym c.earlier_of-longest.ensures.value)
    (longest_of_next slots c.args.peer c.loop-slot.longest c.loop-slot.slot c.waits_of.result (sym c.waits_of.ensures.value) c.loop-slot.invariant)
