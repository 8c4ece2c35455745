use Rattle.std.proofs.Common.{◌≡◌, ◌+◌, ◌++◌, ◌∷◌, [], ℕ, List, refl, sym, ap, subst, ◌∙◌, arith}
use Rattle.std.specs.Prelude.{if◌then◌else◌}
use Rattle.chpw_table.specs.declared.history.Event.{Event}
use Rattle.chpw_table.specs.declared.history.Event.TheVariants.{Update}
use Rattle.chpw_table.specs.declared.history.Receipt.{Receipt}
use Rattle.chpw_table.specs.Agreement.{Held}
use Rattle.chpw_table.specs.History.{is_accepted}
use Rattle.chpw_table.specs.Outcomes.{StepsBy, WritesBy}
use Rattle.chpw_decider.specs.Keeping.{Kept, IsKept, basis_after}
use Rattle.chpw_decider.specs.Entered.{receipt_after}
use Rattle.chpw_decider.proofs.KeepingLemmas.{kept_next, basis_next, basis_few, still_room}
use Rattle.chpw_decider.proofs.alone.Alone.update.Goals as goal

pub note-requires-clause-fewer : goal.note-requires-clause-fewer
note-requires-clause-fewer g c =
    let few = basis_few c.self.inside.receipts.items in
    let same = ap (λ (t : Held). t.events) c.prepare_update.ensures.unchanged in
    let steps = c.finish_update-verdict.ensures.steps in
    omega (arith, c.self.invariant.1, few, c.self.invariant.0.events, steps.events, steps.few, same)

pub invariant_of-self-2 : goal.invariant_of-self-2
invariant_of-self-2 g c =
    let before : List Receipt = c.self.inside.receipts.items in
    let table : Held = c.self.inside.table in
    let made = c.finish_update-verdict.result in
    let event : Event = Update made.update made.verdict in
    let later : Held = c.finish_update-verdict.new.self in
    let sink = c.finish_update-verdict.new.sink in
    let k : Kept = record {
      opening = c.self.inside.opening.value;
      table = table;
      receipts = before;
      told = g.S.JournalSink.told c.self.inside.sink;
    } in
    let pushed : c.note.new.receipts.items ≡ before ++ receipt_after before c.args.now made.io_failed event ∷ [] =
    c.note.ensures.receipt ∙ ap (λ (rs : List Receipt). rs ++ receipt_after rs c.args.now made.io_failed event ∷ []) c.reserve.ensures.items in
    let steps : StepsBy table later c.args.now made.io_failed event =
    rw (← c.prepare_update.ensures.unchanged, ← c.in_ok-prepared.ensures.parts.0, c.finish_update-verdict.ensures.returned)
    c.finish_update-verdict.ensures.steps in
    let writes : WritesBy g.S.JournalSink.failed g.S.JournalSink.told table.state c.self.inside.sink sink made.io_failed event =
    rw (← c.prepare_update.ensures.unchanged, c.finish_update-verdict.ensures.returned) c.finish_update-verdict.ensures.writes in
    let kept = kept_next g.S.JournalSink.failed g.S.JournalSink.told k later c.self.inside.sink
    sink c.args.now made.io_failed event c.self.invariant.0 refl steps writes in (
      subst (λ (rs : List Receipt). IsKept (record {
        opening = c.self.inside.opening.value;
        table = later;
        receipts = rs;
        told = g.S.JournalSink.told sink;
      })) (sym pushed) kept,
      c.note.ensures.changes ∙ (ap (λ (n : ℕ). if is_accepted event then n + 1 else n) c.self.invariant.1
          ∙ (sym (basis_next before c.args.now made.io_failed event) ∙ ap (basis_after 0) (sym pushed))),
      still_room table.state.broken later.state.broken made.io_failed _ _ c.self.invariant.2 steps.broken writes.io,
    )
