use Rattle.chpw_table.proofs.DecideLemmas.{raise_for_all, raised_for_all}
use Rattle.chpw_table.proofs.RaisingLemmas.{entered_raise}
use Rattle.chpw_table.proofs.table.Table.raise.Goals as goal

pub returns-clause-legal : goal.returns-clause-legal
returns-clause-legal g c s a = raise_for_all c.args.self.now.state s c.args.count _ _ c.enter_raise.ensures.entered.legal a

pub returns-clause-step : goal.returns-clause-step
returns-clause-step g c s a =
    let e = c.enter_raise.ensures.entered in
    raised_for_all c.args.self.now.state c.enter_raise.new.self.state s c.args.now c.args.count _
    (entered_raise c.args.self.now c.enter_raise.new.self c.args.now c.args.count _ _ e) a
