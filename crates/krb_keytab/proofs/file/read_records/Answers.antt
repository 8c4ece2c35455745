use Rattle.std.proofs.Common.{◌≡◌, ℕ, ◌+◌, ◌-◌, ◌<◌, ◌≤◌, ◌++◌, ◌∷◌, [], List, length, Option, Some, Ok, Err, sym, ap, subst, ◌∙◌, arith}
use Rattle.std.proofs.lemmas.Result.{err_from_is_err_and}
use Rattle.std.proofs.lemmas.List.{map_push}
use Rattle.krb_keytab.specs.declared.records.KeytabRecord.{KeytabRecord}
use Rattle.krb_keytab.specs.Keytabs.{Piece, record_at, from_place}
use Rattle.krb_keytab.specs.Answers.{view, views, piece_of, piece_at}
use Rattle.krb_keytab.proofs.RecordLemmas.{IsBegun, begins, whole, past_entry, past_hole, record_fails, entry_fails}
use Rattle.krb_keytab.proofs.file.read_records.Goals as goal
use Rattle.krb_keytab.proofs.file.read_records.Goals.{then-record+in_ok-entry_in+in_ok-push, else-record}

pub loop-entries-init : goal.loop-entries-init
loop-entries-init c = record {
  within = c.requires.within;
  begun = rw c.new-entries.ensures.items (begins c.args.file.now _ c.args.records.now c.requires.within);
}

pub returns-in_err-record : goal.returns-in_err-record
returns-in_err-record c =
    let p = err_from_is_err_and c.from_residual.result c.from_residual.ensures.1 in
    let total = from_place (length c.args.file.now) (length c.args.file.now - length c.args.records.now) c.args.records.now in
    let failed : total ≡ Err c.in_err-record.field-0.0 =
    record_fails (views c.loop-entries.entries.items) (length c.args.file.now - length c.loop-entries.rest.now)
    c.loop-entries.rest.now total _ c.loop-entries.invariant.begun (sym c.in_err-record.ensures.value) in
    rw (p.1, p.2) (record { value = failed })

pub returns-in_err-entry_in : goal.returns-in_err-entry_in
returns-in_err-entry_in c =
    let p = err_from_is_err_and c.from_residual-in_err-entry_in.result c.from_residual-in_err-entry_in.ensures.1 in
    let piece : Piece = piece_at c.in-Some.record in
    let place : ℕ = length c.args.file.now - length c.loop-entries.rest.now in
    let total = from_place (length c.args.file.now) (length c.args.file.now - length c.args.records.now) c.args.records.now in
    let next : record_at place c.loop-entries.rest.now ≡ Ok (Some piece) =
    sym c.in_ok-record.ensures.value ∙ ap (λ (o : Option KeytabRecord). piece_of (Ok o)) c.in-Some.is in
    rw (p.1, p.2) (record {
      value =
          entry_fails c.in_err-entry_in.field-0.0 (views c.loop-entries.entries.items) place c.loop-entries.rest.now total
          piece c.loop-entries.invariant.begun next c.if-record.true c.in_err-entry_in.ensures.value;
    })

pub loop-entries-smaller : goal.loop-entries-smaller
loop-entries-smaller c =
    let piece : Piece = piece_at c.in-Some.record in
    let place : ℕ = length c.args.file.now - length c.loop-entries.rest.now in
    let next : record_at place c.loop-entries.rest.now ≡ Ok (Some piece) =
    sym c.in_ok-record.ensures.value ∙ ap (λ (o : Option KeytabRecord). piece_of (Ok o)) c.in-Some.is in
    let parts = whole place c.loop-entries.rest.now piece next in
    let less : length c.in-Some.record.rest.now < length c.loop-entries.rest.now = omega (arith, parts) in
    less

pub loop-entries-preserved : goal.loop-entries-preserved
loop-entries-preserved c =
    let piece : Piece = piece_at c.in-Some.record in
    let rest : List ℕ = c.loop-entries.rest.now in
    let place : ℕ = length c.args.file.now - length rest in
    let total = from_place (length c.args.file.now) (length c.args.file.now - length c.args.records.now) c.args.records.now in
    let next : record_at place rest ≡ Ok (Some piece) = sym c.in_ok-record.ensures.value ∙ ap (λ (o : Option KeytabRecord). piece_of (Ok o)) c.in-Some.is in
    let parts = whole place rest piece next in
    let within : length rest ≤ length c.args.file.now = c.loop-entries.invariant.within in
    let behind : place + (4 + length piece.bytes) ≡ length c.args.file.now - length c.in-Some.record.rest.now = omega (arith, parts, within) in
    record {
      within = omega (arith, parts, within);
      begun = subst (λ (p : ℕ). IsBegun (views c.if-record.entries.items) p c.in-Some.record.rest.now total) behind (elim c.if-record.branch [
        | then-record+in_ok-entry_in+in_ok-push w ↦
            let one = w.in_ok-entry_in.field-0 in
            let more : views c.if-record.entries.items ≡ views c.loop-entries.entries.items ++ view one ∷ [] =
            rw (w.entries-is, w.in_ok-push.ensures.items) (map_push view c.loop-entries.entries.items one) in
            rw more (past_entry (views c.loop-entries.entries.items) place rest total piece
            (view one) c.loop-entries.invariant.begun next w.if-record.true w.in_ok-entry_in.ensures.value)
        | else-record w ↦ rw w.entries-is (past_hole (views c.loop-entries.entries.items)
            place rest total piece c.loop-entries.invariant.begun next w.if-record.false)
      ]);
    }
