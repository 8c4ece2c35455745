use Rattle.std.proofs.Common.{◌≡◌, ℕ, ◌≤◌, List, Option, IfSome, length, sym, ap, subst, arith}
use Rattle.std.specs.Io.KnownBytes.{Consumes}
use Rattle.std.proofs.lemmas.Result.{IfOk-weaker}
use Rattle.chpw_record.specs.Records.{framed}
use Rattle.chpw_record.proofs.LengthLemmas.{length_most}
use Rattle.chpw_journal.specs.declared.explaining.RefusedRecord.{RefusedRecord}
use Rattle.chpw_journal.specs.Explaining.{IsToldIn, IsToldOf}
use Rattle.chpw_journal.proofs.ExplainingLemmas.{told_if_any}
use Rattle.chpw_journal.proofs.RestoringLemmas.{so_far_next}
use Rattle.chpw_journal.proofs.explaining.record_numbered.Goals as goal

pub returns-then-restored-number : goal.returns-then-restored-number
returns-then-restored-number g c =
    let old = g.R.Read.remaining c.args.reader.now in
    let now = g.R.Read.remaining c.loop-restored.reader in
    let new = g.R.Read.remaining c.next_record.new.reader in
    let body = c.as_slice.result.now in
    let next = rw c.in-Record.is at c.in_ok-body.ensures.next in
    let read : Consumes now new (framed body) = subst (λ (xs : List ℕ). Consumes now new (framed xs)) (sym c.as_slice.ensures.value) next.0 in
    record {
      told = IfOk-weaker c.record_in.result (λ (found : Option RefusedRecord). IfSome found (IsToldIn c.loop-restored.restored.table.state body))
          (λ (found : Option RefusedRecord). IfSome found (IsToldOf c.args.table old c.args.number))
          (told_if_any c.args.table old now new c.loop-restored.restored body c.args.number c.loop-restored.invariant.0 read
          (sym c.if-restored-number.true))
          c.record_in.ensures.told;
    }

pub loop-restored-preserved : goal.loop-restored-preserved
loop-restored-preserved g c =
    let old = g.R.Read.remaining c.args.reader.now in
    let now = g.R.Read.remaining c.loop-restored.reader in
    let new = g.R.Read.remaining c.next_record.new.reader in
    let body = c.as_slice-in-Record.result.now in
    let next = rw c.in-Record.is at c.in_ok-body.ensures.next in
    let count = rw c.in-Record.is at c.in_ok-body.ensures.count in
    let step = c.in-Ok.ensures.step in
    let read : Consumes now new (framed body) = subst (λ (xs : List ℕ). Consumes now new (framed xs)) (sym c.as_slice-in-Record.ensures.value) next.0 in
    let most : length c.in-Record.body.items ≤ 1090 = length_most (length c.in-Record.body.items) next.1 in
    let size : length body ≡ length c.in-Record.body.items = ap length c.as_slice-in-Record.ensures.value in (
      so_far_next c.args.table old now new c.loop-restored.restored c.take_record.new.self body c.loop-restored.invariant.0 read step,
      omega (arith, step.records, count, c.loop-restored.invariant.1),
      omega (arith, step.records, step.kept, most, size, c.loop-restored.invariant.2),
    )
