use Rattle.std.specs.BTreeMap.{get}
use Rattle.std.proofs.Common.{subst, ◌≤◌, ◌<◌, ℕ}
use Rattle.chpw_rules.specs.Names.{name_cmp}
use Rattle.chpw_import.proofs.SlotLemmas.{raised, kept}
use Rattle.chpw_import.proofs.table.raise.Goals as goal

pub returns-in_ok-insert : goal.returns-in_ok-insert
returns-in_ok-insert c = record {
  step = raised (get name_cmp c.args.newest.now) (get name_cmp c.insert.new.self) c.args.name c.args.kvno c.in_ok-insert.ensures.updates.0
      (subst (λ (k : ℕ). k < c.args.kvno) c.newest_version.ensures.value c.if-newest_version-kvno.true);
}

pub returns-else-newest_version-kvno : goal.returns-else-newest_version-kvno
returns-else-newest_version-kvno c = record {
  step = kept (get name_cmp c.args.newest.now) c.args.name c.args.kvno
      (subst (λ (k : ℕ). c.args.kvno ≤ k) c.newest_version.ensures.value c.if-newest_version-kvno.false);
}
