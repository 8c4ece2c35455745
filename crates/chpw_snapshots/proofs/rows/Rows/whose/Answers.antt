use Rattle.std.proofs.Common.{◌≡◌, ◌∙◌, sym, ap, find, Bool, Some, None}
use Rattle.std.specs.Prelude.{option_copied}
use Rattle.chpw_rules.specs.Names.{is_same_name}
use Rattle.chpw_snapshots.specs.declared.row.Row.{Row}
use Rattle.chpw_snapshots.specs.Rows.{place_in}
use Rattle.chpw_snapshots.proofs.RowLemmas.{found_there, unfound_missing}
use Rattle.chpw_snapshots.proofs.rows.Rows.whose.Goals as goal

pub returns-in-Some-added_row : goal.returns-in-Some-added_row
returns-in-Some-added_row c =
    let named : Row → Bool = λ r. is_same_name r.name c.args.name.now in
    let none : place_in c.args.self.now.rows c.args.name.now ≡ None = sym c.number_of.ensures.value ∙ c.in-None.is in
    let found : find named c.args.self.now.added ≡ Some c.in-Some-added_row.row.now =
    sym c.added_row.ensures.value ∙ ap (λ o. option_copied o) c.in-Some-added_row.is in
    let there = found_there c.args.self.now.added c.args.name.now c.in-Some-added_row.row.now found in
    record { value = (none, c.name.ensures.value ∙ there.0, there.1) }

pub returns-in-None-added_row : goal.returns-in-None-added_row
returns-in-None-added_row c =
    let named : Row → Bool = λ r. is_same_name r.name c.args.name.now in
    let none : place_in c.args.self.now.rows c.args.name.now ≡ None = sym c.number_of.ensures.value ∙ c.in-None.is in
    let missing : find named c.args.self.now.added ≡ None =
    sym c.added_row.ensures.value ∙ ap (λ o. option_copied o) c.in-None-added_row.is in
    record { value = (none, unfound_missing c.args.self.now.added c.args.name.now missing) }
