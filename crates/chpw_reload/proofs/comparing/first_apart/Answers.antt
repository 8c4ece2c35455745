use Rattle.std.proofs.Common.{◌≡◌, ℕ, ◌+◌, ◌∷◌, List, [], Some, None, All, take, sym, subst, rules}
use Rattle.std.specs.Prelude.{slice_get}
use Rattle.std.proofs.lemmas.List.Elements.{All-append}
use Rattle.chpw_rules.specs.declared.name.Name.{Name}
use Rattle.chpw_journal.proofs.ListLemmas.{take_more}
use Rattle.chpw_report.specs.Configurations.{names_of}
use Rattle.chpw_reload.specs.Comparing.{HoldAlike}
use Rattle.chpw_reload.proofs.WalkLemmas.{all_of_one, all_alike}
use Rattle.chpw_reload.proofs.comparing.first_apart.Goals as goal

pub loop-name-preserved : goal.loop-name-preserved
loop-name-preserved c =
    let s = c.args.closed.now.state in
    let t = c.args.renewed.now.state in
    let names : List Name = names_of s in
    let P : Name → Type 0 = λ name. HoldAlike s t name in
    let place : ℕ = c.loop-name.place in
    let found : slice_get names place ≡ Some c.in-Some.name.now = search rules in
    let more = take_more names place c.in-Some.name.now found in
    let next : c.in-Some-checked_add.next ≡ place + 1 = search rules in
    let alike : HoldAlike s t c.in-Some.name.now = c.are_apart.ensures.alike c.if-are_apart.false in
    let grown : All P (take (place + 1) names) = subst (All P) (sym more.1) (All-append P (take place names)
    (c.in-Some.name.now ∷ []) c.loop-name.invariant.0 (all_of_one P c.in-Some.name.now alike)) in (
      rw next grown,
      rw next more.0,
    )

pub returns : goal.returns
returns c =
    let s = c.args.closed.now.state in
    let found : slice_get (names_of s) c.loop-name.place ≡ None = search rules in
    record { value = all_alike s c.args.renewed.now.state c.loop-name.place found c.loop-name.invariant.0 }
