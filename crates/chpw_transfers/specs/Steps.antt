-- What a read or a write at its socket does to a connection, about the bytes that a reader has left and those that a
-- writer holds, if they are known.
use Rattle.std.specs.Prelude.{◌≡◌, ℕ, ◌≤◌, List, length, take, Option, Some, None, Bool, true, not, ◌&&◌, MatchBool, if◌then◌else◌, ◌⊎◌}
use Rattle.std.specs.Io.KnownBytes.{Appends, Consumes, Keeps}
use Rattle.slab.specs.Slab.{Slab, get, Updates}
use Rattle.chpw_connection.specs.Stages.{Event, came, replied, deferred, unanswered, wrote, closed, failed}
use Rattle.chpw_slots.specs.Slots.{Happens}
use Rattle.chpw_connection.specs.Slot.{wanted_at, left_at, is_answering_in}
use Rattle.chpw_connections.specs.Room.{HappensWithRoom, has_room_to_read, is_large_in, for_message, for_reply}
use Rattle.chpw_slots.specs.Longest.{has_room_besides}
use Rattle.chpw_connection.specs.declared.limits.ConnectionLimits.{ConnectionLimits}
use Rattle.chpw_connection.specs.declared.connection.Connection.{Connection}
use Rattle.chpw_connection.specs.Todos.{todo_in}
use Rattle.chpw_connection.specs.declared.todo.Todo.{Todo}
use Rattle.chpw_connection.specs.declared.todo.Todo.TheVariants as todo
use Rattle.chpw_connections.specs.Held.{bounds_of, slots_of}
use Rattle.chpw_slots.specs.Waiting.{waits_for}
use Rattle.chpw_transfers.specs.declared.state.Progress.{Progress}
use Rattle.chpw_transfers.specs.declared.state.Progress.TheVariants as progress
use Rattle.chpw_transfers.specs.declared.state.State.{State}
use Rattle.chpw_transfers.specs.declared.state.Shortage.{Shortage}
use Rattle.chpw_connections.specs.declared.taking.Reply.{Reply}

-- these bytes were read, no more than were wanted, and came to the connection; without room or memory for them it
-- ended
pub record Takes (b : ConnectionLimits) (now : ℕ) (old new : Slab Connection) (slot : ℕ) (before after : Option (List ℕ)) : Type 0 where
  pub bytes : List ℕ
  pub few : length bytes ≤ wanted_at (get old slot)
  pub read : Consumes before after bytes
  pub happens : HappensWithRoom (for_message b now (get old slot)) now old new slot (came bytes)
      ⊎ HappensWithRoom (for_message b now (get old slot)) 0 old new slot failed

-- nothing was read: the other side has ended, the socket has failed, or nothing has come
pub record TakesNone (old new : Slab Connection) (slot : ℕ) (before after : Option (List ℕ)) : Type 0 where
  pub kept : Keeps before after
  pub happens : Happens 0 old new slot closed ⊎ (Happens 0 old new slot failed ⊎ (new ≡ old))

-- what was read after the last reply is discarded
pub record LetsGo (old new : Slab Connection) (before after : Option (List ℕ)) : Type 0 where
  pub bytes : List ℕ
  pub read : Consumes before after bytes
  pub same : new ≡ old

-- some of the bytes that are left of its reply were written, from the front
pub record Gives (now : ℕ) (old new : Slab Connection) (slot : ℕ) (before after : Option (List ℕ)) : Type 0 where
  pub count : ℕ
  pub written : Appends before after (take count (left_at (get old slot)))
  pub happens : Happens now old new slot (wrote count)

-- nothing was written: the socket has failed, or would block
pub record GivesNone (old new : Slab Connection) (slot : ℕ) (before after : Option (List ℕ)) : Type 0 where
  pub kept : Keeps before after
  pub happens : Happens 0 old new slot failed ⊎ (new ≡ old)

-- What a connection's stream tells of itself: the bytes that it has left to give, and those that it was given, as far as
-- they are known. A datagram tells nothing.
pub record Told : Type 0 where
  pub left : Option (List ℕ)
  pub given : Option (List ℕ)

abbrev pub untold : Told
untold = record { left = None; given = None }

abbrev pub Reads : ConnectionLimits → ℕ → Told → Told → Slab Connection → Slab Connection → ℕ → Type 0
Reads b now before after old new slot = Takes b now old new slot before.left after.left ⊎ TakesNone old new slot before.left after.left

abbrev pub Writes : ℕ → Told → Told → Slab Connection → Slab Connection → ℕ → Type 0
Writes now before after old new slot = Gives now old new slot before.given after.given ⊎ GivesNone old new slot before.given after.given

abbrev pub Drains : Told → Told → Slab Connection → Slab Connection → ℕ → Type 0
Drains before after old new slot = LetsGo old new before.left after.left ⊎ TakesNone old new slot before.left after.left

-- What one call of its socket does for a connection: what is to be done for it, or nothing. What came is what its stream
-- gave, and what is written its stream was given. To a message that came in a datagram no more bytes come: its other
-- side has ended as soon as its reply is sent.
abbrev pub Steps : ConnectionLimits → ℕ → Todo → Told → Told → Slab Connection → Slab Connection → ℕ → Type 0
Steps b now (todo.Read n) before after old new slot = Reads b now before after old new slot
Steps b now todo.Write before after old new slot = Writes now before after old new slot
Steps b now todo.Linger before after old new slot = Drains before after old new slot
Steps b now todo.Close before after old new slot = Updates old new slot None
Steps b now todo.Wait before after old new slot = (new ≡ old) × (after ≡ before)

-- the same at a stream of the system, of whose bytes nothing is known
abbrev pub StepsUntold : ConnectionLimits → ℕ → Todo → Slab Connection → Slab Connection → ℕ → Type 0
StepsUntold b now due old new slot = (before : Told) × ((after : Told) × Steps b now due before after old new slot)

-- one after the other
pub data RunsTo (b : ConnectionLimits) (now slot : ℕ) : Slab Connection → Slab Connection → Type 0 where
  stays : {s : Slab Connection} → RunsTo b now slot s s
  goes : {old mid new : Slab Connection} → RunsTo b now slot old mid → StepsUntold b now (todo_in (get mid slot)) mid new slot
      → RunsTo b now slot old new

-- A worker's reply is to be written if there is room for it and its connection waits for it; without one, or without
-- room for it, the connection ends.
abbrev pub can_reply : ConnectionLimits → ℕ → Slab Connection → ℕ → Reply → Bool
can_reply b now old slot r = has_room_besides b.bytes (for_reply now) old slot (length r.bytes.items) && is_answering_in (get old slot)

-- if it waits for a ticket, not before that is confirmed
abbrev pub reply_event : Option ℕ → Reply → Event
reply_event None r = replied r.bytes.items r.is_last
reply_event (Some ticket) r = deferred r.bytes.items r.is_last ticket

abbrev pub IsAnswered : ConnectionLimits → ℕ → Option ℕ → Option Reply → Slab Connection → Slab Connection → ℕ → Type 0
IsAnswered b now ticket None old new slot = Happens now old new slot unanswered
IsAnswered b now ticket (Some r) old new slot = MatchBool (can_reply b now old slot r)
    (HappensWithRoom (for_reply now) now old new slot (reply_event ticket r)) (Happens now old new slot unanswered)

-- and then one thing is done after the other
abbrev pub Answers : ConnectionLimits → ℕ → Option ℕ → Option Reply → Slab Connection → Slab Connection → ℕ → Type 0
Answers b now ticket reply old new slot = (mid : Slab Connection) × (IsAnswered b now ticket reply old mid slot × RunsTo b now slot mid new)

-- there was no room for messages of this kind
abbrev pub is_short_for : Bool → Shortage → Bool
is_short_for large s = if large then s.of_large else s.of_small

-- from now on there is no room for messages of this kind
abbrev pub short_of : Bool → Shortage → Shortage
short_of large s = if large then record s { of_large = true } else record s { of_small = true }

-- the next bytes of a connection's message may be read: there is room for them, and there was for its kind in this round
abbrev pub may_be_read : ℕ → State → ℕ → Bool
may_be_read now s slot = not (is_short_for (is_large_in (get (slots_of s.connections) slot)) s.shortage)
    && has_room_to_read (bounds_of s.connections) now (slots_of s.connections) slot

-- if a worker is to be called, it is the one for which the connection's message waits
abbrev pub IsCalled : ℕ → Option Connection → Progress → Type 0
IsCalled workers c (progress.Queued worker) = waits_for workers c ≡ Some worker
IsCalled workers c progress.Moved = Unit {0}
IsCalled workers c progress.Idle = Unit {0}
