use Rattle.std.proofs.Common.{◌∙◌, sym, ap}
use Rattle.std.specs.Option.{option_copied}
use Rattle.std.specs.BTreeMap.{get}
use mir.Facts.{to_z-of_z}
use Rattle.chpw_import.specs.Tables.{slot_cmp}
use Rattle.chpw_import.proofs.RowLemmas.{key_is}
use Rattle.chpw_import.proofs.rows.key_at.Goals as goal

pub returns-in-Some : goal.returns-in-Some
returns-in-Some c = record {
  value = key_is (get slot_cmp c.args.found.now) c.args.name c.args.kvno c.args.etype _
      (to_z-of_z c.ranges.etype) _ (ap option_copied (sym c.in-Some.is) ∙ c.get.ensures.value);
}

pub returns : goal.returns
returns c = record {
  value = key_is (get slot_cmp c.args.found.now) c.args.name c.args.kvno c.args.etype _
      (to_z-of_z c.ranges.etype) _ (ap option_copied (sym c.in-None.is) ∙ c.get.ensures.value);
}
