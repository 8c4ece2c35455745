-- A message in a datagram (RFC 3244 section 2: without the length that it has over TCP), as a connection of this
-- message alone.
use Rattle.std.specs.Prelude.{◌≡◌, ◌≢◌, ℕ, ◌⊎◌, List, length, drop, Option, Some, None, Bool, true, false}
use Rattle.std.specs.Int.{to_be_bytes, w32}
use Rattle.slab.specs.Slab.{Slab, get}
use Rattle.chpw_endpoints.specs.declared.endpoints.Endpoints.{Endpoints}
use Rattle.chpw_frame.specs.Stream.{sent}
use Rattle.chpw_connection.specs.Holding.{growth_at}
use Rattle.chpw_connection.specs.Stages.{came, failed}
use Rattle.chpw_connection.specs.Slot.{Comes, queued_at}
use Rattle.chpw_slots.specs.Slots.{IsNew}
use Rattle.chpw_connections.specs.Room.{HappensWithRoom, for_message, has_room_to_read, IsNeeded, is_large_in, read_within}
use Rattle.chpw_connection.specs.Eviction.{gives_way_at}
use Rattle.chpw_slots.specs.Waiting.{waits_for}
use Rattle.chpw_connection.specs.declared.limits.ConnectionLimits.{ConnectionLimits}
use Rattle.chpw_connection.specs.declared.connection.Connection.{Connection}
use Rattle.chpw_transfers.specs.declared.state.Progress.{Progress}
use Rattle.chpw_transfers.specs.declared.state.Progress.TheVariants as progress

-- the length that precedes a message over TCP
abbrev pub length_before : List ℕ → List ℕ
length_before message = to_be_bytes w32 (length message)

-- a reply without its length
abbrev pub in_datagram : List ℕ → List ℕ
in_datagram reply = drop 4 reply

-- for the bytes that a connection reads next nobody was ended, or no more than needed
abbrev pub EndsNoMore : ConnectionLimits → ℕ → Slab Connection → Slab Connection → ℕ → Type 0
EndsNoMore b now old new slot = IsNeeded (read_within b (is_large_in (get old slot))) (growth_at (get old slot))
    (for_message b now (get old slot)) old new slot

-- A new connection between these two, in nobody's share, of which the length came and then the message, each as over TCP;
-- with them it waits for this worker, as the very bytes that it would be over TCP.
pub record TakesDatagram (b : ConnectionLimits) (now : ℕ)
    (ends : Endpoints) (number : ℕ) (message : List ℕ) (old new : Slab Connection) (slot worker workers : ℕ) : Type 0 where
  pub accepted : Slab Connection
  pub begun : Slab Connection
  pub is_new : IsNew ends None now number old accepted slot
  pub length_came : HappensWithRoom (for_message b now (get accepted slot)) now accepted begun slot (came (length_before message))
  pub message_came : HappensWithRoom (for_message b now (get begun slot)) now begun new slot (came message)
  pub length_needed : EndsNoMore b now accepted begun slot
  pub message_needed : EndsNoMore b now begun new slot
  pub waits : queued_at (get new slot) ≡ Some (sent message)
  pub is_for : waits_for workers (get new slot) ≡ Some worker

-- it gave way to a message, and has ended
abbrev pub GaveWay : Option Connection → Option Connection → Type 0
GaveWay old new = (b : ConnectionLimits) × (now : ℕ) × (o : Option Connection)
    × (gives_way_at (for_message b now o) old ≡ true) × Comes 0 failed old new

-- one was read, whether it waits for a worker or was dropped: more may have come behind it
abbrev pub may_have_more : Progress → Bool
may_have_more progress.Idle = false
may_have_more other = true

-- or it is unchanged
abbrev pub StaysOrGivesWay : Option Connection → Option Connection → Type 0
StaysOrGivesWay old new = (new ≡ old) ⊎ GaveWay old new

-- a datagram that can't wait for a worker leaves no connection
abbrev pub DropsDatagram : Slab Connection → Slab Connection → Type 0
DropsDatagram old new = (slot : ℕ) → StaysOrGivesWay (get old slot) (get new slot)

-- each of the two pieces of a datagram: bytes came, or without room or memory for them it ended
abbrev pub CameOrFailed : ConnectionLimits → ℕ → Slab Connection → Slab Connection → ℕ → List ℕ → Type 0
CameOrFailed b now old new slot bytes =
    HappensWithRoom (for_message b now (get old slot)) now old new slot (came bytes)
    ⊎ HappensWithRoom (for_message b now (get old slot)) 0 old new slot failed

-- or nothing was read
abbrev pub CameIfRead : ConnectionLimits → ℕ → Slab Connection → Slab Connection → ℕ → List ℕ → Type 0
CameIfRead b now old new slot bytes = (new ≡ old) ⊎ CameOrFailed b now old new slot bytes

-- A new connection was begun for a datagram's message, and is gone again. Others have ended as far as they gave way to
-- its length and then to it, in their turn; none for a piece for which there was no room even so.
pub record BeginsAndDrops (b : ConnectionLimits) (now : ℕ) (ends : Endpoints) (number : ℕ) (message : List ℕ) (old new : Slab Connection) : Type 0 where
  pub slot : ℕ
  pub accepted : Slab Connection
  pub begun : Slab Connection
  pub whole : Slab Connection
  pub is_new : IsNew ends None now number old accepted slot
  pub length_came : CameOrFailed b now accepted begun slot (length_before message)
  pub length_full : has_room_to_read b now accepted slot ≡ false → (other : ℕ) → other ≢ slot → get begun other ≡ get accepted other
  pub message_came : CameIfRead b now begun whole slot message
  pub message_full : has_room_to_read b now begun slot ≡ false → whole ≡ begun
  pub length_needed : EndsNoMore b now accepted begun slot
  pub message_needed : EndsNoMore b now begun whole slot
  pub gone : get new slot ≡ None
  pub others : (other : ℕ) → other ≢ slot → get new other ≡ get whole other
