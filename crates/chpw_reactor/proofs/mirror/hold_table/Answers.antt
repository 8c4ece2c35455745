use Rattle.std.proofs.Common.{◌≡◌, ℕ, ◌≤◌, List, None, Some, take, length, sym, ◌∙◌, subst, rules, arith}
use Rattle.std.specs.Prelude.{slice_get}
use Rattle.std.proofs.lemmas.List.{take_all}
use Rattle.chpw_rules.specs.declared.name.Name.{Name}
use Rattle.chpw_journal.proofs.ListLemmas.{take_more, take_whole}
use Rattle.chpw_reactor.specs.Tasks.{AreToldInTurn, names_of}
use Rattle.chpw_reactor.proofs.MirrorLemmas.{told_one_more}
use Rattle.chpw_reactor.proofs.mirror.hold_table.Goals as goal

pub loop-place-preserved : goal.loop-place-preserved
loop-place-preserved c =
    let table = c.args.table.now.state in
    let place : ℕ = c.loop-place.place in
    let name : Name = c.in-Some.name.now in
    let found : slice_get (names_of table) place ≡ Some name = search rules in
    let more = take_more (names_of table) place name found in
    subst (λ (names : List Name). AreToldInTurn table names c.args.kdc.now c.hold_newest.new.kdc) (sym more.1)
    (told_one_more table (take place (names_of table)) name c.args.kdc.now c.loop-place.kdc c.hold_newest.new.kdc
    c.loop-place.invariant c.hold_newest.ensures.told)

pub returns-in_default : goal.returns-in_default
returns-in_default c =
    let table = c.args.table.now.state in
    let place : ℕ = c.loop-place.place in
    let found : slice_get (names_of table) place ≡ None = search rules in
    let whole = take_whole (names_of table) place found in
    let few : length (names_of table) ≤ 4294967295 = omega (arith, whole.0, c.loop-place.auto.place-end) in
    record {
      told = subst (λ (names : List Name). AreToldInTurn table names c.args.kdc.now c.loop-place.kdc)
          (whole.1 ∙ sym (take_all 4294967295 (names_of table) few)) c.loop-place.invariant;
    }

pub returns : goal.returns
returns c =
    let table = c.args.table.now.state in
    let last : c.loop-place.place ≡ 4294967295 = omega (arith, c.loop-place.auto.place-end, c.loop-place-test.false) in
    record {
      told = subst (λ (n : ℕ). AreToldInTurn table (take n (names_of table)) c.args.kdc.now c.loop-place.kdc) last c.loop-place.invariant;
    }
