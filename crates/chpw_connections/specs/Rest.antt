-- What most calls leave as it is.
use Rattle.std.specs.Prelude.{◌≡◌}
use Rattle.chpw_connections.specs.Held.{bounds_of, accepted_by, removed_by, expired_by}
use Rattle.chpw_connections.specs.Queues.{workers_of}
use Rattle.chpw_connections.specs.declared.set.Connections.{Connections}

-- nobody was accepted or removed, no message was dropped for having waited too long, and bounds and workers are the same
pub record Rest (old new : Connections) : Type 0 where
  pub bounds : bounds_of new ≡ bounds_of old
  pub workers : workers_of new ≡ workers_of old
  pub accepted : accepted_by new ≡ accepted_by old
  pub removed : removed_by new ≡ removed_by old
  pub expired : expired_by new ≡ expired_by old
