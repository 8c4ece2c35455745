use Rattle.std.proofs.Common.{◌≡◌, ◌++◌, ◌∙◌, List, ℕ, OnOk, ap, arith, subst}
use Rattle.std.specs.Fmt.{decimal}
use Rattle.chpw_log.proofs.LineLemmas.{both_joined, both_printed_too, number_printed}
use Rattle.chpw_log.proofs.event.put_both.Goals as goal

pub returns-clause-value : goal.returns-clause-value
returns-clause-value c =
    let old = c.args.text.now.items in
    let two = c.args.further.now ++ decimal c.args.other in
    subst (λ (xs : List ℕ). OnOk c.put_one-2.result (c.put_one-2.new.text.items ≡ xs))
    (ap (λ (xs : List ℕ). xs ++ two) c.in_ok-put_one.ensures.value
    ∙ both_joined old c.args.words.now (decimal c.args.number) c.args.further.now (decimal c.args.other)) c.put_one-2.ensures.value

pub returns-clause-printed : goal.returns-clause-printed
returns-clause-printed c h k =
    both_printed_too c.args.words.now (decimal c.args.number) c.args.further.now (decimal c.args.other)
    (number_printed c.args.words.now c.args.number (omega arith) h) (number_printed c.args.further.now c.args.other (omega arith) k)

pub returns-in_err-put_one-clause-printed : goal.returns-in_err-put_one-clause-printed
returns-in_err-put_one-clause-printed c h k =
    both_printed_too c.args.words.now (decimal c.args.number) c.args.further.now (decimal c.args.other)
    (number_printed c.args.words.now c.args.number (omega arith) h) (number_printed c.args.further.now c.args.other (omega arith) k)
