use Rattle.std.proofs.Common.{◌≡◌, ℕ, ◌+◌, ◌++◌, ◌∷◌, List, [], Some, map, take, sym, ◌∙◌, ap, rules}
use Rattle.std.specs.Prelude.{slice_get}
use Rattle.chpw_rules.specs.declared.config.PrincipalRow.{PrincipalRow}
use Rattle.chpw_report.specs.Configurations.{names_of, row_of}
use Rattle.chpw_report.proofs.RowLemmas.{rows_more}
use Rattle.chpw_report.proofs.configuration.held_config.Goals as goal

pub loop-name-preserved : goal.loop-name-preserved
loop-name-preserved c =
    let s = c.args.table.now.state in
    let place : ℕ = c.loop-name.place in
    let found : slice_get (names_of s) place ≡ Some c.in-Some.name.now = search rules in
    let more = rows_more (row_of s) (names_of s) place c.in-Some.name.now found in
    let next : c.in-Some-checked_add.next ≡ place + 1 = search rules in
    let row : PrincipalRow = c.in_ok-held_row.field-0 in
    let pushed : c.push.new.self.items ≡ c.loop-name.rows.items ++ row ∷ [] = search rules in
    let front : List PrincipalRow = map (row_of s) (take place (names_of s)) in
    let grown = pushed ∙ (ap (λ (xs : List PrincipalRow). xs ++ row ∷ []) c.loop-name.invariant.0
    ∙ (ap (λ (x : PrincipalRow). front ++ x ∷ []) c.in_ok-held_row.ensures.value ∙ sym more.1)) in (
      rw next grown,
      rw next more.0,
    )
