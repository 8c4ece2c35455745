-- The queues of a set of connections: which messages wait for which worker, in the order in which they came.
use Rattle.std.specs.Prelude.{◌≡◌, ℕ, true, List, [], ◌∷◌, length}
use Rattle.slab.specs.Slab.{get}
use Rattle.chpw_slots.specs.Waiting.{lists_of, queue_in, times, times_for, waits_for}
use Rattle.chpw_connections.specs.Held.{slots_of, bounds_of, expired_by}
use Rattle.chpw_connections.specs.Expiry.{and_more}
use Rattle.chpw_connections.specs.Noting.{noted_by, NotesEach}
use Rattle.chpw_connection.specs.Stages.{failed}
use Rattle.chpw_slots.specs.Slots.{Happens}
use Rattle.chpw_connection.specs.Late.{is_late_in}
use Rattle.chpw_connections.specs.declared.set.Connections.{Connections}

-- the queues of all workers: the slots whose messages wait, the next one first
abbrev pub queues_of : Connections → List (List ℕ)
queues_of c = lists_of c.queues

-- how many workers there are
abbrev pub workers_of : Connections → ℕ
workers_of c = length (queues_of c)

-- the queue of one worker
abbrev pub queue_of : Connections → ℕ → List ℕ
queue_of c worker = queue_in (queues_of c) worker

-- each worker's queue holds the slots whose messages wait for that worker, each once, and no others
abbrev pub EachWaits : Connections → Type 0
EachWaits c = (worker slot : ℕ) → times slot (queue_of c worker) ≡ times_for worker (waits_for (workers_of c) (get (slots_of c) slot))

-- the first message of a worker's queue has waited too long: its connection ends, the queue loses exactly its slot,
-- which is noted, and one more is counted
pub record DropsLate (now : ℕ) (old new : Connections) (worker : ℕ) : Type 0 where
  pub slot : ℕ
  pub first : queue_of old worker ≡ slot ∷ queue_of new worker
  pub late : is_late_in (bounds_of old) now (get (slots_of old) slot) ≡ true
  pub ends : Happens 0 (slots_of old) (slots_of new) slot failed
  pub counted : expired_by new ≡ and_more 1 (expired_by old)
  pub noted : NotesEach (noted_by old) (noted_by new) (slot ∷ [])
