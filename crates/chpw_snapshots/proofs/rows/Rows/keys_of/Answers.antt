use Rattle.std.proofs.Common.{◌≡◌, ◌∙◌, sym, ap, find, Bool, Some, None}
use Rattle.std.specs.Prelude.{option_copied}
use Rattle.chpw_rules.specs.Names.{is_same_name}
use Rattle.chpw_snapshots.specs.declared.row.Row.{Row}
use Rattle.chpw_snapshots.specs.Rows.{found_keys}
use Rattle.chpw_snapshots.proofs.RowLemmas.{found_first, found_second}
use Rattle.chpw_snapshots.proofs.rows.Rows.keys_of.Goals as goal

pub returns-in-Some : goal.returns-in-Some
returns-in-Some c =
    let named : Row → Bool = λ r. is_same_name r.name c.args.name.now in
    let found : find named c.args.self.now.rows ≡ Some c.in-Some.row.now =
    sym c.opening_row.ensures.value ∙ ap (λ o. option_copied o) c.in-Some.is in
    record {
      value = c.as_ref.ensures.value
          ∙ sym (ap found_keys (found_first named c.args.self.now.rows c.args.self.now.added c.in-Some.row.now found));
    }

pub returns-in-Some-added_row : goal.returns-in-Some-added_row
returns-in-Some-added_row c =
    let named : Row → Bool = λ r. is_same_name r.name c.args.name.now in
    let none : find named c.args.self.now.rows ≡ None =
    sym c.opening_row.ensures.value ∙ ap (λ o. option_copied o) c.in-None.is in
    let found : find named c.args.self.now.added ≡ Some c.in-Some-added_row.row.now =
    sym c.added_row.ensures.value ∙ ap (λ o. option_copied o) c.in-Some-added_row.is in
    record {
      value = c.shown.ensures.value
          ∙ sym (ap found_keys (found_second named c.args.self.now.rows c.args.self.now.added none ∙ found));
    }

pub returns-in-None-added_row : goal.returns-in-None-added_row
returns-in-None-added_row c =
    let named : Row → Bool = λ r. is_same_name r.name c.args.name.now in
    let none : find named c.args.self.now.rows ≡ None =
    sym c.opening_row.ensures.value ∙ ap (λ o. option_copied o) c.in-None.is in
    let missing : find named c.args.self.now.added ≡ None =
    sym c.added_row.ensures.value ∙ ap (λ o. option_copied o) c.in-None-added_row.is in
    record {
      value = sym (ap found_keys (found_second named c.args.self.now.rows c.args.self.now.added none ∙ missing));
    }
