use Rattle.std.proofs.Common.{◌≡◌, [], sym, ◌∙◌}
use Rattle.chpw_table.specs.Agreement.{Held}
use Rattle.chpw_table.specs.History.{missing}
use Rattle.chpw_table.proofs.AgreementLemmas.{same_missing}
use Rattle.chpw_book.proofs.deciding.prepare.Goals as goal

-- it was ready, so nothing is missing and there is room
pub returns-else-was_shown-clause-refused : goal.returns-else-was_shown-clause-refused
returns-else-was_shown-clause-refused g c =
    let t : Held = c.args.table.now in
    let ready = c.in_ok-prepared.ensures.ready in
    let parts = c.in_ok-prepared.ensures.parts in
    let none : missing t.state c.args.now c.args.opened ≡ [] = rw (← parts.0, ← parts.1) ready.derived in
    rw c.given_up.ensures.value (record {
      first = λ s a. (ready.room, sym (same_missing t.state s c.args.now c.args.opened a) ∙ none);
      positive = tt;
      opened = parts.1;
    })
