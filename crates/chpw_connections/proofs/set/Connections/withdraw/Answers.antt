use Rattle.std.proofs.Common.{rules, arith}
use Rattle.chpw_connections.specs.Held.{slots_of}
use Rattle.chpw_connection.specs.Confirming.{Withdraws}
use Rattle.chpw_connections.proofs.ConfirmLemmas.{happened_next}
use Rattle.chpw_connections.proofs.set.Connections.withdraw.Goals as goal

pub loop-slot-preserved : goal.loop-slot-preserved
loop-slot-preserved c = record {
  withdrawn = happened_next (Withdraws c.args.ticket) c.loop-slot.slot (slots_of c.args.self.now) (slots_of c.loop-slot.self)
      (slots_of c.withdraw_slot.new.self) c.loop-slot.invariant.withdrawn c.withdraw_slot.ensures.withdrawn c.withdraw_slot.ensures.others;
  held = omega arith;
  rest = search rules;
}
