use Rattle.std.proofs.Common.{◌≤◌, length, rules, arith, length-take, subst}
use Rattle.slab.specs.Slab.{get}
use Rattle.chpw_connections.specs.Held.{slots_of, bounds_of}
use Rattle.chpw_connection.specs.Slot.{wanted_at}
use Rattle.chpw_connections.specs.declared.set.Connections.{Connections}
use Rattle.chpw_transfers.specs.Transfers.{ComesOfMessageRead}
use Rattle.chpw_transfers.proofs.TransferLemmas.{is_read, reads}
use Rattle.chpw_transfers.proofs.state.State.read.Goals as goal

pub returns-clause-read : goal.returns-clause-read
returns-clause-read g c =
    let few : length c.read.new.buf ≤ wanted_at (get (slots_of c.args.self.now.connections) c.args.slot) = search (rules, arith, length-take) in
    reads c.of-read.result (bounds_of c.args.self.now.connections) c.args.now c.read.new.buf
    (slots_of c.args.self.now.connections) (slots_of c.note_read.new.self.connections) c.args.slot
    (g.I.Read.remaining c.args.reader.now) (g.I.Read.remaining c.read.new.self) c.note_read.result few
    (is_read c.of-read.result c.read.result (g.I.Read.remaining c.args.reader.now) (g.I.Read.remaining c.read.new.self) c.read.new.buf
    c.of-read.ensures.value c.read.ensures.bytes)
    (subst (λ (s : Connections). ComesOfMessageRead c.of-read.result (bounds_of s) c.args.now c.read.new.buf
    (slots_of s) (slots_of c.note_read.new.self.connections) c.args.slot c.note_read.result) c.may_read.ensures.same c.note_read.ensures.comes)
