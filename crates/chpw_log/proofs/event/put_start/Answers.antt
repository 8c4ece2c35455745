use Rattle.std.proofs.Common.{◌≡◌, ◌++◌, ◌∙◌, List, ℕ, OnOk, ap, codes, refl, subst, true}
use Rattle.chpw_printing.specs.Quoting.{are_printed}
use Rattle.chpw_log.specs.Events.{both_words, quiet_words}
use Rattle.chpw_log.proofs.LineLemmas.{start_joined, with_quiet}
use Rattle.chpw_log.proofs.event.put_start.Goals as goal

pub returns-clause-value : goal.returns-clause-value
returns-clause-value c =
    let old = c.args.text.now.items in
    let both = both_words (codes "started principals ") c.args.principals (codes " iterations ") c.args.iterations in
    let quiet = quiet_words c.args.quiet_until in
    let front : c.put_both.new.text.items ≡ old ++ both = c.in_ok-put_both.ensures.value in
    let middle : c.extend_from_slice.new.self.items ≡ c.put_both.new.text.items ++ codes " quiet-until " = c.in_ok-extend_from_slice.ensures.items in
    subst (λ (xs : List ℕ). OnOk c.put_quiet.result (c.put_quiet.new.text.items ≡ xs))
    (ap (λ (xs : List ℕ). xs ++ quiet) (middle ∙ ap (λ (xs : List ℕ). xs ++ codes " quiet-until ") front) ∙ start_joined old both quiet)
    c.put_quiet.ensures.value

pub returns-clause-printed : goal.returns-clause-printed
returns-clause-printed c =
    let both = both_words (codes "started principals ") c.args.principals (codes " iterations ") c.args.iterations in
    let printed : are_printed both ≡ true = c.put_both.ensures.printed refl refl in
    with_quiet c.put_quiet.result both (quiet_words c.args.quiet_until) printed c.put_quiet.ensures.printed
