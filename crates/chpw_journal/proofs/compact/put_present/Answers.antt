use Rattle.std.proofs.Common.{◌≡◌, ℕ, ◌+◌, ◌++◌, List, take, Some, None, sym, ◌∙◌, ap, subst, rules}
use Rattle.std.specs.Prelude.{slice_get}
use Rattle.std.specs.List.{flat_map}
use Rattle.chpw_rules.specs.declared.name.Name.{Name}
use Rattle.chpw_record.specs.declared.record.Record.{Record}
use Rattle.chpw_record.specs.Records.{records_text}
use Rattle.chpw_journal.specs.Compact.{name_records, names_of, AreWholeRecords}
use Rattle.chpw_journal.proofs.ListLemmas.{take_more, take_whole}
use Rattle.chpw_journal.proofs.CompactTextLemmas.{names_more, text_more, whole_more}
use Rattle.chpw_journal.proofs.compact.put_present.Goals as goal

pub loop-name-preserved : goal.loop-name-preserved
loop-name-preserved c =
    let opening = c.args.opening.now.state in
    let held = c.args.held.now.state in
    let names : List Name = names_of opening in
    let records : Name → List Record = name_records opening held in
    let place : ℕ = c.loop-name.place in
    let name : Name = c.in-Some.name.now in
    let found : slice_get names place ≡ Some name = search rules in
    let more = take_more names place name found in
    let next : c.in-Some-checked_add.next ≡ place + 1 = search rules in
    let front : List Record = flat_map records (take place names) in
    let added : List Record = records name in
    let together : front ++ added ≡ flat_map records (take (place + 1) names) =
    names_more records (take place names) name ∙ ap (λ (ns : List Name). flat_map records (ns)) (sym more.1) in
    record {
      text_is = rw next (c.in_ok-put_principal.ensures.value ∙ (ap (λ (xs : List ℕ). xs ++ records_text added) c.loop-name.invariant.text_is
          ∙ text_more c.args.text.now.items front added (flat_map records (take (place + 1) names)) together));
      within = rw next more.0;
      whole = rw next (whole_more front added (flat_map records (take (place + 1) names)) together c.loop-name.invariant.whole
          c.in_ok-put_principal.ensures.whole);
    }

pub returns : goal.returns
returns c =
    let opening = c.args.opening.now.state in
    let held = c.args.held.now.state in
    let names : List Name = names_of opening in
    let records : Name → List Record = name_records opening held in
    let found : slice_get names c.loop-name.place ≡ None = search rules in
    let all = (take_whole names c.loop-name.place found).1 in
    record {
      value = c.loop-name.invariant.text_is ∙ ap (λ (ns : List Name). c.args.text.now.items ++ records_text (flat_map records (ns))) all;
      whole = subst (λ (ns : List Name). AreWholeRecords (flat_map records (ns))) all c.loop-name.invariant.whole;
    }
