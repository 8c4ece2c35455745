use Rattle.std.proofs.Common.{refl, Some, false}
use Rattle.chpw_sockets.specs.declared.sockets.Transport.TheVariants as place
use Rattle.chpw_transfers.proofs.ListLemmas.{written}
use Rattle.chpw_sockets.proofs.sockets.put_stream.Goals as goal

pub returns-then-slot-by_slot-clause-placed : goal.returns-then-slot-by_slot-clause-placed
returns-then-slot-by_slot-clause-placed g c within = (
  record { stream = c.args.stream; is_shut = false },
  written c.args.by_slot.now c.args.slot (Some (place.Stream (record { stream = c.args.stream; is_shut = false }))) within,
  refl,
)
