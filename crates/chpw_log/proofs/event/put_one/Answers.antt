use Rattle.std.proofs.Common.{◌≡◌, ◌++◌, ◌∙◌, List, ℕ, OnOk, ap, arith, subst}
use Rattle.std.specs.Fmt.{decimal}
use Rattle.chpw_log.proofs.LineLemmas.{number_printed, one_joined}
use Rattle.chpw_log.proofs.event.put_one.Goals as goal

pub returns-clause-value : goal.returns-clause-value
returns-clause-value c =
    let old = c.args.text.now.items in
    let words = c.args.words.now in
    let number = decimal c.args.number in
    let front : c.extend_from_slice.new.self.items ≡ old ++ words =
    c.in_ok-extend_from_slice.ensures.items ∙ ap (λ (xs : List ℕ). old ++ xs) c.as_bytes.ensures.value in
    subst (λ (xs : List ℕ). OnOk c.put_number.result (c.put_number.new.text.items ≡ xs))
    (ap (λ (xs : List ℕ). xs ++ number) front ∙ one_joined old words number) c.put_number.ensures.value

pub returns-clause-printed : goal.returns-clause-printed
returns-clause-printed c h = number_printed c.args.words.now c.args.number (omega arith) h

pub returns-in_err-extend_from_slice-clause-printed : goal.returns-in_err-extend_from_slice-clause-printed
returns-in_err-extend_from_slice-clause-printed c h = number_printed c.args.words.now c.args.number (omega arith) h
