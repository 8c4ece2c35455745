use Rattle.std.proofs.Common.{◌≡◌, ℕ, ◌≤◌}
use Rattle.slab.specs.Slab.{get}
use Rattle.chpw_connection.specs.Late.{is_late_in}
use Rattle.chpw_slots.specs.Slots.{held_in}
use Rattle.chpw_connections.specs.Held.{slots_of, bounds_of, accepted_by, removed_by, expired_by, Counts}
use Rattle.chpw_connections.specs.Queues.{queue_of, workers_of}
use Rattle.chpw_connections.proofs.PassLemmas.{PassedBelow, left_below}
use Rattle.chpw_connections.specs.Noting.{noted_by, NotesEach, slots_below}
use Rattle.chpw_connections.specs.Expiry.{and_more}
use Rattle.chpw_connections.proofs.ExpiryLemmas.{dropped_below}
use Rattle.chpw_connections.proofs.set.Connections.pass.Given as goal

abbrev pub invariant-loop-slot : goal.invariant-loop-slot
invariant-loop-slot l = record {
  passed : PassedBelow (bounds_of l.fn.self) l.now (slots_of l.fn.self) (slots_of l.self) l.slot;
  queues : (worker : ℕ) → queue_of l.self worker
      ≡ left_below (λ slot. is_late_in (bounds_of l.fn.self) l.now (get (slots_of l.fn.self) slot)) l.slot (queue_of l.fn.self worker);
  notes : NotesEach (noted_by l.fn.self) (noted_by l.self) (slots_below (is_late_in (bounds_of l.fn.self) l.now) (slots_of l.fn.self) l.slot);
  workers : workers_of l.self ≡ workers_of l.fn.self;
  held : held_in (slots_of l.self) ≤ held_in (slots_of l.fn.self);
  counts : Counts l.self (accepted_by l.fn.self) (removed_by l.fn.self);
  expired : expired_by l.self ≡ and_more (dropped_below (bounds_of l.fn.self) l.now (slots_of l.fn.self) l.slot) (expired_by l.fn.self);
  bounds : bounds_of l.self ≡ bounds_of l.fn.self;
}
