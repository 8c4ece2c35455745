use Rattle.std.proofs.Common.{OnOk, IfErr, refl, sym, subst, length}
use Rattle.std.proofs.lemmas.Result.{on_ok_weaker, IfErr-weaker}
use Rattle.chpw_record.specs.declared.record.KeyKind.{KeyKind}
use Rattle.chpw_record.specs.declared.record.KeyKind.TheVariants as kind
use Rattle.chpw_record.specs.declared.record.Record.TheVariants as record_of
use Rattle.chpw_table.specs.declared.table.restoring.KeyFault.{KeyFault}
use Rattle.chpw_table.specs.Agreement.{Agrees}
use Rattle.chpw_table.specs.BaseKeys.{IsBaseRefused}
use Rattle.chpw_table.specs.Restoring.{IsKeyRefused, IsUpdateKeyRefused}
use Rattle.chpw_table.specs.State.{State}
use Rattle.chpw_table.specs.Updates.{blank_key}
use Rattle.chpw_journal.specs.JournalText.{IsNextRecord, with_record}
use Rattle.chpw_journal.specs.Taking.{IsRecordRefused}
use Rattle.chpw_journal.proofs.KindLemmas.{agrees_base, agrees_change, next_base, next_change, next_lift, next_remove}
use Rattle.chpw_journal.proofs.KindLemmas.{refused_adopt, refused_base, refused_change, refused_lift, refused_remove}
use Rattle.chpw_journal.proofs.restoring.put_key.Goals as goal

pub returns-in-Change-clause-step : goal.returns-in-Change-clause-step
returns-in-Change-clause-step c =
    subst (λ (k : KeyKind). OnOk c.restore_key.result ((s : State) → Agrees c.args.table.now.state s
    → IsNextRecord s (record_of.Key k c.args.change.now) × Agrees c.restore_key.new.self.state (with_record (record_of.Key k c.args.change.now) s)))
    (sym c.in-Change.is) (on_ok_weaker c.restore_key.result (λ h s a. let g = h s a in (
      next_change s c.args.change.now g.0,
      agrees_change
          c.restore_key.new.self.state s c.args.change.now g.1,
    )) c.restore_key.ensures.step)

pub returns-in-Change-clause-first : goal.returns-in-Change-clause-first
returns-in-Change-clause-first c =
    subst (λ (k : KeyKind). IfErr c.restore_key.result (λ fault. IsRecordRefused c.args.table.now (record_of.Key k c.args.change.now) fault))
    (sym c.in-Change.is) (IfErr-weaker c.restore_key.result (λ (fault : KeyFault). (s : State) → Agrees c.args.table.now.state s →
    IsKeyRefused s c.args.change.now.name c.args.change.now.key fault)
    (λ (fault : KeyFault). IsRecordRefused c.args.table.now (record_of.Key kind.Change c.args.change.now) fault) (λ fault h. refused_change
    c.args.table.now c.args.change.now fault h) c.restore_key.ensures.first)

pub returns-in-Base-clause-step : goal.returns-in-Base-clause-step
returns-in-Base-clause-step c =
    subst (λ (k : KeyKind). OnOk c.restore_base.result ((s : State) → Agrees c.args.table.now.state s
    → IsNextRecord s (record_of.Key k c.args.change.now) × Agrees c.restore_base.new.self.state (with_record (record_of.Key k c.args.change.now) s)))
    (sym c.in-Base.is) (on_ok_weaker c.restore_base.result (λ h s a. let g = h s a in (
      next_base s c.args.change.now g.0,
      agrees_base
          c.restore_base.new.self.state s c.args.change.now g.1,
    )) c.restore_base.ensures.step)

pub returns-in-Base-clause-first : goal.returns-in-Base-clause-first
returns-in-Base-clause-first c =
    subst (λ (k : KeyKind). IfErr c.restore_base.result (λ fault. IsRecordRefused c.args.table.now (record_of.Key k c.args.change.now) fault))
    (sym c.in-Base.is) (IfErr-weaker c.restore_base.result (λ (fault : KeyFault). (s : State) → Agrees c.args.table.now.state s →
    IsBaseRefused s c.args.change.now.name fault)
    (λ (fault : KeyFault). IsRecordRefused c.args.table.now (record_of.Key kind.Base c.args.change.now) fault) (λ fault h. refused_base
    c.args.table.now c.args.change.now fault h) c.restore_base.ensures.first)

pub returns-in-Adopt-clause-step : goal.returns-in-Adopt-clause-step
returns-in-Adopt-clause-step c =
    subst (λ (k : KeyKind). OnOk c.restore_adopted.result ((s : State) → Agrees c.args.table.now.state s
    → IsNextRecord s (record_of.Key k c.args.change.now) × Agrees c.restore_adopted.new.self.state (with_record (record_of.Key k c.args.change.now) s)))
    (sym c.in-Adopt.is) (on_ok_weaker c.restore_adopted.result (λ h s a. let g = h s a in ((refl, g.0), g.1)) c.restore_adopted.ensures.step)

pub returns-in-Adopt-clause-first : goal.returns-in-Adopt-clause-first
returns-in-Adopt-clause-first c =
    subst (λ (k : KeyKind). IfErr c.restore_adopted.result (λ fault. IsRecordRefused c.args.table.now (record_of.Key k c.args.change.now) fault))
    (sym c.in-Adopt.is) (IfErr-weaker c.restore_adopted.result (λ (fault : KeyFault). (s : State) → Agrees c.args.table.now.state s →
    IsUpdateKeyRefused (length c.args.table.now.state.principals) kind.Adopt s c.args.change.now.name c.args.change.now.key fault)
    (λ (fault : KeyFault). IsRecordRefused c.args.table.now (record_of.Key kind.Adopt c.args.change.now) fault) (λ fault h. refused_adopt
    c.args.table.now c.args.change.now (length c.args.table.now.state.principals) fault refl h) c.restore_adopted.ensures.first)

pub returns-in-Lift-clause-step : goal.returns-in-Lift-clause-step
returns-in-Lift-clause-step c =
    subst (λ (k : KeyKind). OnOk c.restore_lifted.result ((s : State) → Agrees c.args.table.now.state s
    → IsNextRecord s (record_of.Key k c.args.change.now) × Agrees c.restore_lifted.new.self.state (with_record (record_of.Key k c.args.change.now) s)))
    (sym c.in-Lift.is) (on_ok_weaker c.restore_lifted.result (λ h s a. let g = h s a in (next_lift s c.args.change.now g.0, g.1)) c.restore_lifted.ensures.step)

pub returns-in-Lift-clause-first : goal.returns-in-Lift-clause-first
returns-in-Lift-clause-first c =
    subst (λ (k : KeyKind). IfErr c.restore_lifted.result (λ fault. IsRecordRefused c.args.table.now (record_of.Key k c.args.change.now) fault))
    (sym c.in-Lift.is) (IfErr-weaker c.restore_lifted.result (λ (fault : KeyFault). (s : State) → Agrees c.args.table.now.state s →
    IsUpdateKeyRefused (length c.args.table.now.state.principals) kind.Lift s c.args.change.now.name c.args.change.now.key fault)
    (λ (fault : KeyFault). IsRecordRefused c.args.table.now (record_of.Key kind.Lift c.args.change.now) fault) (λ fault h. refused_lift
    c.args.table.now c.args.change.now (length c.args.table.now.state.principals) fault h) c.restore_lifted.ensures.first)

pub returns-in-Remove-clause-step : goal.returns-in-Remove-clause-step
returns-in-Remove-clause-step c =
    subst (λ (k : KeyKind). OnOk c.restore_removed.result ((s : State) → Agrees c.args.table.now.state s
    → IsNextRecord s (record_of.Key k c.args.change.now) × Agrees c.restore_removed.new.self.state (with_record (record_of.Key k c.args.change.now) s)))
    (sym c.in-Remove.is) (on_ok_weaker c.restore_removed.result (λ h s a. let g = h s a in (next_remove s c.args.change.now g.0, g.1))
    c.restore_removed.ensures.step)

pub returns-in-Remove-clause-first : goal.returns-in-Remove-clause-first
returns-in-Remove-clause-first c =
    subst (λ (k : KeyKind). IfErr c.restore_removed.result (λ fault. IsRecordRefused c.args.table.now (record_of.Key k c.args.change.now) fault))
    (sym c.in-Remove.is) (IfErr-weaker c.restore_removed.result (λ (fault : KeyFault). (s : State) → Agrees c.args.table.now.state s →
    IsUpdateKeyRefused (length c.args.table.now.state.principals) kind.Remove s c.args.change.now.name blank_key fault)
    (λ (fault : KeyFault). IsRecordRefused c.args.table.now (record_of.Key kind.Remove c.args.change.now) fault) (λ fault h. refused_remove
    c.args.table.now c.args.change.now (length c.args.table.now.state.principals) blank_key fault h) c.restore_removed.ensures.first)
