use Rattle.std.proofs.Common.{◌≡◌, ◌++◌, ◌∙◌, List, ℕ, OnOk, ap, subst}
use Rattle.chpw_printing.specs.Quoting.{name_text}
use Rattle.chpw_log.proofs.LineLemmas.{named_printed, one_joined}
use Rattle.chpw_log.proofs.updates.put_named.Goals as goal

pub returns-clause-value : goal.returns-clause-value
returns-clause-value c =
    let old = c.args.text.now.items in
    let word = c.args.word.now in
    let name = name_text c.args.name.now in
    let front : c.extend_from_slice.new.self.items ≡ old ++ word =
    c.in_ok-extend_from_slice.ensures.items ∙ ap (λ (xs : List ℕ). old ++ xs) c.as_bytes.ensures.value in
    subst (λ (xs : List ℕ). OnOk c.put_name.result (c.put_name.new.text.items ≡ xs))
    (ap (λ (xs : List ℕ). xs ++ name) front ∙ one_joined old word name) c.put_name.ensures.value

pub returns-clause-printed : goal.returns-clause-printed
returns-clause-printed c =
    named_printed c.put_name.result c.args.word.now (name_text c.args.name.now) c.put_name.ensures.graphic
