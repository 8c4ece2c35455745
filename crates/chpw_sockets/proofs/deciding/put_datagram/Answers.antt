use Rattle.std.proofs.Common.{refl, Some}
use Rattle.chpw_sockets.specs.declared.sockets.Transport.TheVariants as place
use Rattle.chpw_transfers.proofs.ListLemmas.{written}
use Rattle.chpw_sockets.proofs.deciding.put_datagram.Goals as goal

pub returns-then-slot-by_slot-clause-placed : goal.returns-then-slot-by_slot-clause-placed
returns-then-slot-by_slot-clause-placed g c within = (
  record { sender = c.args.sender; message = c.args.message },
  written c.args.by_slot.now c.args.slot (Some (place.Datagram (record { sender = c.args.sender; message = c.args.message }))) within,
  refl,
  refl,
)
