use Rattle.std.proofs.Common.{◌≡◌, ◌+◌, ◌++◌, ◌∷◌, [], ℕ, List, refl, sym, ap, subst, ◌∙◌, arith, rules}
use Rattle.std.specs.Prelude.{if◌then◌else◌}
use Rattle.chpw_table.specs.declared.history.Receipt.{Receipt}
use Rattle.chpw_table.specs.declared.history.Event.{Event}
use Rattle.chpw_table.specs.declared.history.Event.TheVariants.{Ask}
use Rattle.chpw_table.specs.declared.outcome.DecideFault.TheVariants.{Memory}
use Rattle.chpw_table.specs.Agreement.{Held}
use Rattle.chpw_table.specs.History.{missing, is_accepted}
use Rattle.chpw_table.specs.Outcomes.{Steps, Writes}
use Rattle.chpw_table.proofs.AgreementLemmas.{agrees_itself}
use Rattle.chpw_table.proofs.DecideLemmas.{refused_for_all}
use Rattle.chpw_decider.specs.Keeping.{Kept, IsKept, basis_after}
use Rattle.chpw_decider.specs.Entered.{receipt_after}
use Rattle.chpw_decider.proofs.KeepingLemmas.{kept_next, decision_steps, decision_writes, may_be_full, basis_next, basis_few, still_room}
use Rattle.chpw_decider.proofs.alone.AloneDecider.decide.Goals as goal

pub returns-in_err-prepared-clause-fault : goal.returns-in_err-prepared-clause-fault
returns-in_err-prepared-clause-fault g c =
    let k : Kept = record {
      opening = c.self.inside.opening.value;
      table = c.self.inside.table;
      receipts = c.self.inside.receipts.items;
      told = g.S.JournalSink.told c.self.inside.sink;
    } in
    let first = c.in_err-prepared.ensures.refused.first k.table.state (agrees_itself k.table.state) in
    let may = may_be_full k _ c.in_err-prepared.field-0.0.fault c.self.invariant.0 first in
    search (rules, may)

pub returns-then-is_err-clause-first : goal.returns-then-is_err-clause-first
returns-then-is_err-clause-first g c =
    let table : Held = c.self.inside.table in
    let ready = c.in_ok-prepared.ensures.ready in
    let parts = c.in_ok-prepared.ensures.parts in
    let derived : missing table.state c.args.now c.args.opened ≡ [] = rw (← parts.0, ← parts.1) ready.derived in
    rw (← c.self.view_is) (refused_for_all table c.args.now c.args.opened (record { fault = Memory; opened = c.abandon.result })
    (ready.room, derived) tt (c.abandon.ensures.value ∙ parts.1))

pub note-requires-clause-fewer : goal.note-requires-clause-fewer
note-requires-clause-fewer g c =
    let few = basis_few c.self.inside.receipts.items in
    let same = ap (λ (t : Held). t.events) c.prepare.ensures.unchanged in
    let steps = c.finish-verdict.ensures.steps in
    omega (arith, c.self.invariant.1, few, c.self.invariant.0.events, steps.events, steps.few, same)

pub invariant_of-self-2 : goal.invariant_of-self-2
invariant_of-self-2 g c =
    let before : List Receipt = c.self.inside.receipts.items in
    let table : Held = c.self.inside.table in
    let made = c.finish-verdict.result in
    let event : Event = Ask made.opened made.verdict in
    let later : Held = c.finish-verdict.new.self in
    let sink = c.finish-verdict.new.sink in
    let k : Kept = record {
      opening = c.self.inside.opening.value;
      table = table;
      receipts = before;
      told = g.S.JournalSink.told c.self.inside.sink;
    } in
    let pushed : c.note.new.receipts.items ≡ before ++ receipt_after before c.args.now made.io_failed event ∷ [] =
    c.note.ensures.receipt ∙ ap (λ (rs : List Receipt). rs ++ receipt_after rs c.args.now made.io_failed event ∷ []) c.reserve.ensures.items in
    let steps : Steps table later c.args.now c.args.opened made =
    rw (← c.prepare.ensures.unchanged, ← c.in_ok-prepared.ensures.parts.0, ← c.in_ok-prepared.ensures.parts.1) c.finish-verdict.ensures.steps in
    let writes : Writes g.S.JournalSink.failed g.S.JournalSink.told table.state c.self.inside.sink sink c.args.opened made =
    rw (← c.prepare.ensures.unchanged, ← c.in_ok-prepared.ensures.parts.1) c.finish-verdict.ensures.writes in
    let kept = kept_next g.S.JournalSink.failed g.S.JournalSink.told k later c.self.inside.sink
    sink c.args.now made.io_failed event c.self.invariant.0 refl (decision_steps table later c.args.now c.args.opened made steps)
    (decision_writes g.S.JournalSink.failed g.S.JournalSink.told table.state c.self.inside.sink sink c.args.opened made steps.opened writes) in (
      subst (λ (rs : List Receipt). IsKept (record {
        opening = c.self.inside.opening.value;
        table = later;
        receipts = rs;
        told = g.S.JournalSink.told sink;
      })) (sym pushed) kept,
      c.note.ensures.changes ∙ (ap (λ (n : ℕ). if is_accepted event then n + 1 else n) c.self.invariant.1
          ∙ (sym (basis_next before c.args.now made.io_failed event) ∙ ap (basis_after 0) (sym pushed))),
      still_room table.state.broken later.state.broken made.io_failed _ _ c.self.invariant.2 steps.broken writes.io,
    )
