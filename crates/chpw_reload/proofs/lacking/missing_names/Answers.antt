use Rattle.std.proofs.Common.{◌≡◌, ℕ, ◌+◌, ◌++◌, ◌∷◌, List, [], Some, None, filter, take, sym, ◌∙◌, ap, rules}
use Rattle.std.specs.Prelude.{slice_get}
use Rattle.std.proofs.lemmas.List.Elements.{filter-append}
use Rattle.chpw_rules.specs.declared.name.Name.{Name}
use Rattle.chpw_journal.proofs.ListLemmas.{take_more, take_whole}
use Rattle.chpw_report.specs.Configurations.{names_of}
use Rattle.chpw_reload.specs.Next.{is_unknown}
use Rattle.chpw_reload.proofs.lacking.missing_names.Goals as goal

pub loop-name-preserved : goal.loop-name-preserved
loop-name-preserved c =
    let names : List Name = names_of c.args.closed.now.state in
    let test = is_unknown c.args.renewed.now.state in
    let place : ℕ = c.loop-name.place in
    let found : slice_get names place ≡ Some c.in-Some.name.now = search rules in
    let more = take_more names place c.in-Some.name.now found in
    let next : c.in-Some-checked_add.next ≡ place + 1 = search rules in
    let grown = c.in_ok-add_unknown.ensures.value ∙ (ap (λ (xs : List Name). xs ++ filter test (c.in-Some.name.now ∷ [])) c.loop-name.invariant.0
    ∙ (sym (filter-append test (take place names) (c.in-Some.name.now ∷ [])) ∙ ap (filter test) (sym more.1))) in (
      rw next grown,
      rw next more.0,
    )

pub returns : goal.returns
returns c =
    let found : slice_get (names_of c.args.closed.now.state) c.loop-name.place ≡ None = search rules in
    record {
      value = c.loop-name.invariant.0 ∙ ap (filter (is_unknown c.args.renewed.now.state))
          (take_whole (names_of c.args.closed.now.state) c.loop-name.place found).1;
    }
