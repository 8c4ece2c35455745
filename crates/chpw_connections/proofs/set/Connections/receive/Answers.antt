use Rattle.std.proofs.Common.{ℕ, take, ◌∙◌, ap, rules}
use Rattle.slab.specs.Slab.{get}
use Rattle.chpw_connections.specs.Held.{slots_of, bounds_of}
use Rattle.chpw_connections.specs.Room.{for_message}
use Rattle.chpw_connections.specs.Noting.{noted_by}
use Rattle.chpw_connections.proofs.ComesLemmas.{queued_happens, read_happens}
use Rattle.chpw_connections.proofs.EndsLemmas.{unread_noted}
use Rattle.chpw_connections.proofs.set.Connections.receive.Goals as goal

pub returns-then-not-is_reading-clause-notes : goal.returns-then-not-is_reading-clause-notes
returns-then-not-is_reading-clause-notes c =
    unread_noted (for_message (bounds_of c.args.self.now) c.args.now (get (slots_of c.args.self.now) c.args.slot)) (slots_of c.args.self.now)
    c.args.slot (noted_by c.args.self.now) (search rules)

pub returns-clause-queued : goal.returns-clause-queued
returns-clause-queued c =
    queued_happens (for_message (bounds_of c.args.self.now) c.args.now (get (slots_of c.args.self.now) c.args.slot)) c.args.now
    (slots_of c.args.self.now) (slots_of c.receive_wanted.new.self) c.args.slot c.args.bytes.now c.at_most-wanted.result.now c.receive_wanted.result
    (c.at_most-wanted.ensures.value ∙ ap (λ (n : ℕ). take n c.args.bytes.now) c.bytes_to_read.ensures.value)
    c.receive_wanted.ensures.queued

pub returns-clause-read : goal.returns-clause-read
returns-clause-read c =
    read_happens (for_message (bounds_of c.args.self.now) c.args.now (get (slots_of c.args.self.now) c.args.slot)) c.args.now
    (slots_of c.args.self.now) (slots_of c.receive_wanted.new.self) c.args.slot c.args.bytes.now c.at_most-wanted.result.now c.receive_wanted.result
    (c.at_most-wanted.ensures.value ∙ ap (λ (n : ℕ). take n c.args.bytes.now) c.bytes_to_read.ensures.value)
    c.receive_wanted.ensures.read
