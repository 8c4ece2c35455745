use Rattle.std.proofs.Common.{◌≡◌, ℕ, List, length, true, false, sym, ◌∙◌, ap, arith, rules}
use Rattle.std.specs.Int.{from_be_bytes, w16}
use Rattle.std.proofs.lemmas.List.{take_all}
use Rattle.std.proofs.lemmas.Result.{IfOk-weaker}
use Rattle.chpw_journal.specs.declared.reading.Next.{Next}
use Rattle.chpw_record.specs.Records.{is_record_length, stated_length}
use Rattle.chpw_journal.specs.NextRecord.{IsNext, IsBody}
use Rattle.chpw_journal.proofs.reading.next_record.Goals as goal

pub returns-clause-next : goal.returns-clause-next
returns-clause-next g c =
    let old = g.R.Read.remaining c.args.reader.now in
    let mid = g.R.Read.remaining c.fill.new.reader in
    let new = g.R.Read.remaining c.read_body.new.reader in
    let inside : is_record_length c.length_in-length.result ≡ true = sym c.is_record_length.ensures.value ∙ c.if-not-is_record_length.false in
    IfOk-weaker c.read_body.result (λ (x : Next). IsBody c.length_in-length.result x mid new) (λ (x : Next). IsNext x old new)
    (λ x h. h old c.fill.new.buffer (c.length_in-length.ensures.header, inside) c.in-Whole.ensures.bytes) c.read_body.ensures.body

pub returns-then-not-is_record_length-clause-next : goal.returns-then-not-is_record_length-clause-next
returns-then-not-is_record_length-clause-next g c =
    let header = c.fill.new.buffer in
    let two : length header ≡ 2 = search rules in
    let whole = take_all 2 header (omega (arith, two)) in
    let outside : is_record_length (stated_length header) ≡ false =
    ap (λ (xs : List ℕ). is_record_length (from_be_bytes w16 xs)) whole
    ∙ (ap is_record_length (sym c.length_in-length.ensures.value)
    ∙ (sym c.is_record_length.ensures.value ∙ c.if-not-is_record_length.true)) in
    (header, c.in-Whole.ensures.bytes, (omega (arith, two), outside))
