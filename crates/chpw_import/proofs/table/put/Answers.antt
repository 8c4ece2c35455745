use Rattle.std.proofs.Common.{◌∙◌, sym, ap, Option}
use Rattle.std.specs.BTreeMap.{get}
use Rattle.chpw_import.specs.declared.slot.Found.{Found}
use Rattle.chpw_import.specs.Tables.{is_older, slot_cmp}
use Rattle.chpw_import.proofs.SlotLemmas.{put_there, not_put}
use Rattle.chpw_import.proofs.table.put.Goals as goal

pub returns-then-is_older : goal.returns-then-is_older
returns-then-is_older c = record {
  step = not_put (get slot_cmp c.args.found.now) c.args.slot c.args.next
      (ap (λ (held : Option Found). is_older held c.args.next) (sym c.get.ensures.value) ∙ (sym c.is_older.ensures.value ∙ c.if-is_older.true));
}

pub returns : goal.returns
returns c = record {
  step = put_there (get slot_cmp c.args.found.now) (get slot_cmp c.insert.new.self) c.args.slot c.args.next c.in_ok-insert.ensures.updates.0
      (ap (λ (held : Option Found). is_older held c.args.next) (sym c.get.ensures.value) ∙ (sym c.is_older.ensures.value ∙ c.if-is_older.false));
}
