-- Which slots wait for which worker: a queue of slots for each worker, and the connections in the slots.
use Rattle.std.specs.Prelude.{◌≡◌, ◌≢◌, ℕ, ◌<◌, ◌%◌, ◌==◌, List, [], length, map, filter, count_by, slice_index_or, Option, Some, None, option_map, not}
use Rattle.std.specs.Prelude.{if◌then◌else◌}
use Rattle.std.specs.VecDeque.{deque_items, deque_len, deque_capacity}
use Rattle.std.specs.declared.collections.VecDeque.{VecDeque}
use Rattle.std.specs.declared.alloc.Global.{Global}
use Rattle.slab.specs.Slab.{Slab, get}
use Rattle.chpw_connection.specs.Stages.{stage}
use Rattle.chpw_connection.specs.Slot.{queued_by}
use Rattle.chpw_connection.specs.Late.{is_late_in}
use Rattle.chpw_connection.specs.declared.limits.ConnectionLimits.{ConnectionLimits}
use Rattle.chpw_connection.specs.declared.connection.Connection.{Connection}
use Rattle.chpw_slots.specs.declared.waiting.Queues.{Queues}

-- the queues of all workers, the front of each first
abbrev pub lists_of : Queues → List (List ℕ)
lists_of q = map deque_items q.queues.items

-- the queue of one worker, and an empty one of no worker
abbrev pub queue_in : List (List ℕ) → ℕ → List ℕ
queue_in queues worker = slice_index_or queues worker []

-- the worker for whom a connection's message waits, if it does: its number modulo the number of workers
abbrev pub waits_for : ℕ → Option Connection → Option ℕ
waits_for workers None = None
waits_for workers (Some c) = option_map (λ message. c.number % workers) (queued_by (stage c))

-- how often a slot is in a queue
abbrev pub times : ℕ → List ℕ → ℕ
times slot queue = count_by (λ other. other == slot) queue

-- once if its message waits for this worker, and otherwise not at all
abbrev pub times_for : ℕ → Option ℕ → ℕ
times_for worker None = 0
times_for worker (Some w) = if w == worker then 1 else 0

-- each worker's queue holds the slots whose messages wait for that worker, each once, and no others
abbrev pub Holds : List (List ℕ) → Slab Connection → Type 0
Holds queues slots = (worker slot : ℕ) → times slot (queue_in queues worker) ≡ times_for worker (waits_for (length queues) (get slots slot))

-- a queue without a slot
abbrev pub without : ℕ → List ℕ → List ℕ
without slot queue = filter (λ other. not (other == slot)) queue

-- the slots of a queue whose connections' time isn't up
abbrev pub in_time : ConnectionLimits → ℕ → Slab Connection → List ℕ → List ℕ
in_time b now slots queue = filter (λ slot. not (is_late_in b now (get slots slot))) queue

-- one worker's queue became this one, and the others are unchanged
pub record Becomes (old new : List (List ℕ)) (worker : ℕ) (queue : List ℕ) : Type 0 where
  pub len : length new ≡ length old
  pub here : queue_in new worker ≡ queue
  pub others : (other : ℕ) → other ≢ worker → queue_in new other ≡ queue_in old other

-- each queue lost this slot, if it held it, and nothing else
pub record Leaves (old new : List (List ℕ)) (slot : ℕ) : Type 0 where
  pub len : length new ≡ length old
  pub queues : (worker : ℕ) → queue_in new worker ≡ without slot (queue_in old worker)

-- one more slot fits into a worker's queue with no allocation
abbrev pub HasRoomAt : Queues → ℕ → Type 0
HasRoomAt q worker = (d : VecDeque ℕ Global) → deque_len (slice_index_or q.queues.items worker d) < deque_capacity (slice_index_or q.queues.items worker d)
