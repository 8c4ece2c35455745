use Rattle.std.proofs.Common.{rules, ◌≡◌, ℕ, List, ◌++◌, take, true, refl, sym, ◌∙◌, ap, subst}
use Rattle.chpw_connection.specs.Messages.{wanted_after, whole_after}
use Rattle.chpw_connection.specs.Reading.{is_unfinished}
use Rattle.chpw_connection.specs.declared.connection.Phase.{Phase}
use Rattle.chpw_connection.proofs.ReadingLemmas.{covered_by, goes_on_reading}
use Rattle.chpw_connection.proofs.connection.Connection.receive.Goals as goal

pub invariant_of-self-in-Reading-clause-covered : goal.invariant_of-self-in-Reading-clause-covered
invariant_of-self-in-Reading-clause-covered c =
    let old = c.in-Reading.field-0.received.items in
    covered_by old c.args.bytes.now c.extend_from_slice.new.self.items c.whole_after-room.result
    (subst (λ (p : Phase). is_unfinished p ≡ true) (sym c.replace.ensures.value ∙ c.in-Reading.is) c.args.self.now.unfinished)
    (c.in_ok-extend_from_slice-in-Reading.ensures.items
    ∙ ap (λ (l : List ℕ). old ++ l) (c.at_most-fitting.ensures.value
    ∙ ap (λ (n : ℕ). take n c.args.bytes.now) (c.wanted_after.ensures.value ∙ ap wanted_after c.deref-in-Reading.ensures.value)))
    (c.whole_after-room.ensures.value ∙ ap whole_after c.deref.ensures.value)

pub returns-else-wanted_after-eq0-clause-goes : goal.returns-else-wanted_after-eq0-clause-goes
returns-else-wanted_after-eq0-clause-goes c =
    let old = c.in-Reading.field-0.received.items in
    goes_on_reading c.args.now c.args.self.now _ c.in-Reading.field-0 _ c.args.bytes.now
    (sym c.replace.ensures.value ∙ c.in-Reading.is) refl
    (c.in_ok-extend_from_slice-in-Reading.ensures.items
    ∙ ap (λ (l : List ℕ). old ++ l) (c.at_most-fitting.ensures.value
    ∙ ap (λ (n : ℕ). take n c.args.bytes.now) (c.wanted_after.ensures.value ∙ ap wanted_after c.deref-in-Reading.ensures.value)))
    (search rules)
    (c.whole_after-room.ensures.value ∙ ap whole_after c.deref.ensures.value)
    (search rules) refl refl refl refl refl
