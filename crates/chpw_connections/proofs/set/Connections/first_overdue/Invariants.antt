use Rattle.std.proofs.Common.{◌≡◌, ℕ, ◌<◌, None}
use Rattle.slab.specs.Slab.{get}
use Rattle.chpw_connections.specs.Held.{slots_of}
use Rattle.chpw_connection.specs.Confirming.{overdue_in}
use Rattle.chpw_connections.proofs.set.Connections.first_overdue.Given as goal

abbrev pub invariant-loop-slot : goal.invariant-loop-slot
invariant-loop-slot l = (k : ℕ) → k < l.slot → overdue_in l.wait l.now (get (slots_of l.self) k) ≡ None
