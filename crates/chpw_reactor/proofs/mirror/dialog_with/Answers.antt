use Rattle.std.proofs.Common.{subst}
use Rattle.chpw_kdc.specs.Dialogs.{State as Dialog}
use Rattle.chpw_reactor.specs.Tasks.{IsTableTold}
use Rattle.chpw_reactor.proofs.mirror.dialog_with.Goals as goal

pub returns : goal.returns
returns g c = record {
  told = (
    c.milliseconds.result,
    subst (λ (d : Dialog). IsTableTold c.args.table.now.state d c.hold_table.new.kdc) c.new-kdc.ensures.value c.hold_table.ensures.told,
  );
}
