use Rattle.std.proofs.Common.{◌≡◌, ◌++◌, ◌∙◌, List, ℕ, OnOk, ap, codes, subst}
use Rattle.std.specs.Fmt.{decimal, signed_decimal}
use Rattle.chpw_printing.specs.Quoting.{words_text}
use Rattle.chpw_log.specs.Lines.{or_dash, party_text}
use Rattle.chpw_log.specs.Tellings.{said}
use Rattle.chpw_log.proofs.LineLemmas.{told_joined}
use Rattle.chpw_log.proofs.writing.put_told.Goals as goal

pub returns-clause-value : goal.returns-clause-value
returns-clause-value c =
    let o = said c.args.told.now in
    let a = or_dash party_text o.client in
    let b = or_dash party_text o.target in
    let d = decimal o.code in
    let e = or_dash signed_decimal o.error in
    let f = or_dash decimal o.kvno in
    let g = words_text o.text in
    let after_codes : List ℕ → List ℕ = λ xs. xs ++ codes " kvno " ++ f ++ codes " text " ++ g in
    let after_parties : List ℕ → List ℕ = λ xs. xs ++ codes " code " ++ d ++ codes " error " ++ e in
    let before = c.in_ok-put_codes.ensures.value ∙ ap after_parties c.in_ok-put_parties.ensures.value in
    subst (λ (xs : List ℕ). OnOk c.put_end.result (c.put_end.new.text.items ≡ xs))
    (ap after_codes before ∙ told_joined c.args.text.now.items a b d e f g)
    c.put_end.ensures.value
