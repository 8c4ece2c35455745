use Rattle.std.proofs.Common.{◌≡◌, ℕ, ◌≤◌, List, length, true, sym, ◌∙◌, ap, subst, arith}
use Rattle.std.specs.Io.KnownBytes.{Consumes}
use Rattle.std.proofs.lemmas.Result.{err_from_is_err_and}
use Rattle.chpw_record.specs.Records.{is_record_length, framed}
use Rattle.chpw_record.proofs.LengthLemmas.{length_most}
use Rattle.chpw_journal.proofs.RestoringLemmas.{so_far_next, ended, bad_length, cannot_read, record_fault}
use Rattle.chpw_journal.proofs.restoring.restore.Goals as goal

pub loop-restored-preserved : goal.loop-restored-preserved
loop-restored-preserved g c =
    let old = g.R.Read.remaining c.args.reader.now in
    let now = g.R.Read.remaining c.loop-restored.reader in
    let new = g.R.Read.remaining c.next_record.new.reader in
    let body = c.as_slice.result.now in
    let next = rw c.in-Record.is at c.in_ok-body.ensures.next in
    let count = rw c.in-Record.is at c.in_ok-body.ensures.count in
    let step = c.in_ok-take_record-in-Record.ensures.step in
    let read : Consumes now new (framed body) = subst (λ (xs : List ℕ). Consumes now new (framed xs)) (sym c.as_slice.ensures.value) next.0 in
    let most : length c.in-Record.body.items ≤ 1090 = length_most (length c.in-Record.body.items) next.1 in
    let size : length body ≡ length c.in-Record.body.items = ap length c.as_slice.ensures.value in (
      so_far_next c.args.table old now new c.loop-restored.restored c.take_record.new.self body c.loop-restored.invariant.0 read step,
      omega (arith, step.records, count, c.loop-restored.invariant.1),
      omega (arith, step.records, step.kept, most, size, c.loop-restored.invariant.2),
    )

pub returns-in_err-take_record-in-Record-clause-first : goal.returns-in_err-take_record-in-Record-clause-first
returns-in_err-take_record-in-Record-clause-first g c =
    let old = g.R.Read.remaining c.args.reader.now in
    let now = g.R.Read.remaining c.loop-restored.reader in
    let new = g.R.Read.remaining c.next_record.new.reader in
    let body = c.as_slice.result.now in
    let next = rw c.in-Record.is at c.in_ok-body.ensures.next in
    let read : Consumes now new (framed body) = subst (λ (xs : List ℕ). Consumes now new (framed xs)) (sym c.as_slice.ensures.value) next.0 in
    let range : is_record_length (length body) ≡ true = ap (λ (xs : List ℕ). is_record_length (length xs)) c.as_slice.ensures.value ∙ next.1 in
    let fault =
    record_fault c.args.table old now new c.loop-restored.restored body c.in_err-take_record-in-Record.field-0.0
    c.loop-restored.invariant.0 read range c.in_err-take_record-in-Record.ensures.fault in
    let p = err_from_is_err_and c.from_residual-in_err-take_record-in-Record.result c.from_residual-in_err-take_record-in-Record.ensures.1 in
    rw (p.1, p.2) fault

pub returns-in-BadLength-clause-first : goal.returns-in-BadLength-clause-first
returns-in-BadLength-clause-first g c =
    let next = rw c.in-BadLength.is at c.in_ok-body.ensures.next in
    bad_length c.args.table (g.R.Read.remaining c.args.reader.now)
    (g.R.Read.remaining c.loop-restored.reader) (g.R.Read.remaining c.next_record.new.reader)
    c.loop-restored.restored next.0 c.loop-restored.invariant.0 next.1 next.2

pub returns-in-CannotRead-clause-first : goal.returns-in-CannotRead-clause-first
returns-in-CannotRead-clause-first g c =
    let next = rw c.in-CannotRead.is at c.in_ok-body.ensures.next in
    cannot_read c.args.table (g.R.Read.remaining c.args.reader.now)
    (g.R.Read.remaining c.loop-restored.reader) (g.R.Read.remaining c.next_record.new.reader)
    c.loop-restored.restored next.0 c.loop-restored.invariant.0 next.1 next.2

pub returns-in-Ended-clause-restored : goal.returns-in-Ended-clause-restored
returns-in-Ended-clause-restored g c =
    let next = rw c.in-Ended.is at c.in_ok-body.ensures.next in
    ended c.args.table (g.R.Read.remaining c.args.reader.now) (g.R.Read.remaining c.loop-restored.reader)
    (g.R.Read.remaining c.next_record.new.reader) c.loop-restored.restored c.loop-restored.invariant.0 next.0 next.1
