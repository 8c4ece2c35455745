use Rattle.std.proofs.Common.{◌≡◌, ◌++◌, ◌∙◌, ◌<◌, ◌^◌, List, ℕ, OnOk, ap, arith, codes, refl, subst}
use Rattle.std.specs.Fmt.{decimal}
use Rattle.chpw_log.specs.Updates.{name_words}
use Rattle.chpw_log.proofs.LineLemmas.{always, both_printed, number_printed, version_joined}
use Rattle.chpw_log.proofs.updates.put_version.Goals as goal

pub returns-clause-value : goal.returns-clause-value
returns-clause-value c =
    let old = c.args.text.now.items in
    let named = name_words c.args.word.now c.args.name.now in
    let front : c.put_named.new.text.items ≡ old ++ named = c.in_ok-put_named.ensures.value in
    let middle : c.extend_from_slice.new.self.items ≡ c.put_named.new.text.items ++ codes " kvno " = c.in_ok-extend_from_slice.ensures.items in
    subst (λ (xs : List ℕ). OnOk c.put_number.result (c.put_number.new.text.items ≡ xs))
    (ap (λ (xs : List ℕ). xs ++ decimal c.args.kvno) (middle ∙ ap (λ (xs : List ℕ). xs ++ codes " kvno ") front) ∙ version_joined old named
    (decimal c.args.kvno))
    c.put_number.ensures.value

pub returns-clause-printed : goal.returns-clause-printed
returns-clause-printed c =
    let named = name_words c.args.word.now c.args.name.now in
    let small : c.args.kvno < 2 ^ 64 = omega arith in
    always c.put_number.result (λ h. number_printed (named ++ codes " kvno ") c.args.kvno small
    (both_printed named (codes " kvno ") (c.in_ok-put_named.ensures.printed h) refl))
