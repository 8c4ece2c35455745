use Rattle.std.proofs.Common.{sym, subst}
use Rattle.chpw_table.specs.Agreement.{Held, Agrees}
use Rattle.chpw_table.specs.BaseKeys.{with_base_key}
use Rattle.chpw_table.proofs.BaseLemmas.{known_for_all, based_for_all}
use Rattle.chpw_table.proofs.table.Table.restore_base.Goals as goal

pub returns-clause-step : goal.returns-clause-step
returns-clause-step c = λ s a. (
  known_for_all c.args.self.now.state s c.args.name.now c.in_ok-place.ensures.known a,
  subst (λ (t : Held). Agrees t.state (with_base_key c.args.name.now c.args.key s)) (sym c.put_kept.ensures.value)
      (based_for_all c.args.self.now.state s c.in_ok-place.place c.in_ok-place.keys c.args.name.now c.args.key c.in_ok-place.ensures.keys a),
)
