use mathlib.Core.Path.{fun_ext}
use Rattle.std.proofs.Common.{rules, ◌∙◌, ap, Option, subst, List}
use Rattle.chpw_import.specs.declared.slot.Slot.{Slot}
use Rattle.chpw_import.specs.declared.slot.Found.{Found}
use Rattle.std.specs.List.{AllByRecursion}
use Rattle.krb_keytab.specs.declared.entry.KeytabEntry.{KeytabEntry}
use Rattle.chpw_import.specs.Tables.{HasKvno, Holds}
use Rattle.chpw_import.specs.Rows.{first_principals}
use Rattle.chpw_import.proofs.FitLemmas.{keys_fit, rows_fit}
use Rattle.chpw_import.proofs.LeftLemmas.{left_is}
use Rattle.chpw_import.proofs.keytab.brought_of.Goals as goal

pub returns-clause-principals : goal.returns-clause-principals
returns-clause-principals c =
    let t = c.in_ok-table.table in
    let realm = c.args.realm.now in
    let es = c.args.entries.items in
    let holds : Holds realm es t = subst (λ (zs : List KeytabEntry). Holds realm zs t) c.as_slice.ensures.value c.in_ok-table.ensures.value in
    record {
      names = t.newest.entries;
      sorted = c.in_ok-principals.ensures.ordered;
      versions = holds.newest;
      first = c.in_ok-principals.ensures.value
          ∙ ap (λ (keys : Slot → Option Found). first_principals keys c.args.iterations t.newest.entries) (fun_ext holds.found);
    }

pub returns-clause-left : goal.returns-clause-left
returns-clause-left c =
    let t = c.in_ok-table.table in
    let holds : Holds c.args.realm.now c.args.entries.items t = subst (λ (zs : List KeytabEntry).
    Holds c.args.realm.now zs t) c.as_slice.ensures.value c.in_ok-table.ensures.value in
    left_is c.args.realm.now c.args.entries.items _ t c.in_ok-service.service.items _ c.in_ok-principals.principals.items _ c.in_ok-left.left.items
    holds (search rules) (search rules) (search rules) c.in_ok-left.ensures.value

pub returns-clause-service_fits : goal.returns-clause-service_fits
returns-clause-service_fits c =
    let small : AllByRecursion HasKvno c.args.entries.items = subst (AllByRecursion HasKvno) c.as_slice.ensures.value c.in_ok-table.ensures.kvnos in
    keys_fit c.args.realm.now c.args.entries.items c.in_ok-service.service.items small (search rules)

pub returns-clause-principals_fit : goal.returns-clause-principals_fit
returns-clause-principals_fit c = λ within.
    let small : AllByRecursion HasKvno c.args.entries.items = subst (AllByRecursion HasKvno) c.as_slice.ensures.value c.in_ok-table.ensures.kvnos in
    rows_fit c.args.realm.now c.args.iterations c.args.entries.items c.in_ok-principals.principals.items small within (returns-clause-principals c)
