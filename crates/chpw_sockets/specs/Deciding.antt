-- Which datagrams are decided, and what is kept of their replies.
use Rattle.std.specs.Prelude.{◌≡◌, ℕ, ◌<◌, ◌⊎◌, List, length, slice_get, Option, Some, None, Bool, true, false, ◌&&◌}
use Rattle.std.specs.List.{list_any}
use Rattle.std.specs.Str.{bytes_eq}
use Rattle.slab.specs.Slab.{Slab}
use Rattle.chpw_connection.specs.declared.limits.ConnectionLimits.{ConnectionLimits}
use Rattle.chpw_connection.specs.declared.connection.Connection.{Connection}
use Rattle.chpw_connections.specs.Answers.{Answer, reply_for, after_keep}
use Rattle.chpw_connections.specs.Senders.{IsAnswered, is_same_sender}
use Rattle.chpw_connections.specs.declared.sender.Sender.{Sender}
use Rattle.chpw_transfers.specs.Datagrams.{TakesDatagram}
use Rattle.chpw_sockets.specs.Shares.{may_place_datagram}
use Rattle.chpw_sockets.specs.declared.sockets.Socket.{Socket}
use Rattle.chpw_sockets.specs.declared.sockets.Transport.{Transport}
use Rattle.chpw_sockets.specs.declared.sockets.Transport.TheVariants as place
use Rattle.chpw_sockets.specs.declared.udp.Datagram.{Datagram}
use Rattle.chpw_sockets.specs.declared.udp.Datagrams.{Datagrams}

-- the very bytes of the same sender
abbrev pub is_same_datagram : Sender → List ℕ → Datagram → Bool
is_same_datagram sender message d = is_same_sender d.sender sender && bytes_eq d.message.items message

abbrev pub is_at : {S : Type 0} → Sender → List ℕ → Option (Transport S) → Bool
is_at sender message None = false
is_at sender message (Some (place.Stream socket)) = false
is_at sender message (Some (place.Datagram d)) = is_same_datagram sender message d

-- the same datagram of the same sender is being answered
abbrev pub is_under_way : {S : Type 0} → List (Option (Transport S)) → Sender → List ℕ → Bool
is_under_way places sender message = list_any (is_at sender message) places

-- it is answerable, and has no kept reply
pub record IsUnanswered {D : Type 0} (d : Datagrams D) (sender : Sender) (message : List ℕ) (now : ℕ) : Type 0 where
  pub answered : IsAnswered d.port d.realm.items sender message
  pub unkept : reply_for d.answered sender message now ≡ None

-- it is decided; no other one is
pub record IsDecided {S D : Type 0} (d : Datagrams D) (places : List (Option (Transport S))) (sender : Sender) (message : List ℕ) (now : ℕ) : Type 0 where
  pub unanswered : IsUnanswered d sender message now
  pub apart : is_under_way places sender message ≡ false
  pub room : may_place_datagram places ≡ true

-- at this place is a datagram of this sender with this message: its reply goes to that sender
abbrev pub IsPlaced : {S : Type 0} → List (Option (Transport S)) → ℕ → Sender → List ℕ → Type 0
IsPlaced places slot sender message =
    (d : Datagram) × (slice_get places slot ≡ Some (Some (place.Datagram d))) × (d.sender ≡ sender) × (d.message.items ≡ message)

-- at this place is no connection
abbrev pub IsFree : {S : Type 0} → List (Option (Transport S)) → ℕ → Type 0
IsFree {S = S} places slot = (t : Transport S) → slice_get places slot ≡ Some (Some t) → ⊥

-- at this place is a stream whose writing side isn't shut
abbrev pub IsFresh : {S : Type 0} → List (Option (Transport S)) → ℕ → Type 0
IsFresh {S = S} places slot = (s : Socket S) × (slice_get places slot ≡ Some (Some (place.Stream s))) × (s.is_shut ≡ false)

-- the other places stay
abbrev pub AreElsewhere : {S : Type 0} → List (Option (Transport S)) → List (Option (Transport S)) → ℕ → Type 0
AreElsewhere before after slot = (other : ℕ) → (other ≡ slot → ⊥) → slice_get after other ≡ slice_get before other

-- a datagram waits for this worker as a connection whose place it has; the other places stay
pub record IsQueued {S : Type 0} (sender : Sender) (message : List ℕ) (before after : List (Option (Transport S))) (b : ConnectionLimits) (now number : ℕ)
    (old new : Slab Connection) (worker workers : ℕ) : Type 0 where
  pub slot : ℕ
  pub taken : TakesDatagram b now sender.ends number message old new slot worker workers
  pub placed : slot < length before → IsPlaced after slot sender message
  pub others : (other : ℕ) → (other ≡ slot → ⊥) → slice_get after other ≡ slice_get before other

-- this datagram of this sender is to be decided, and waits for this worker
pub record QueuesThis {S D : Type 0} (d : Datagrams D) (sender : Sender) (message : List ℕ) (before after : List (Option (Transport S)))
    (b : ConnectionLimits) (now number : ℕ) (old new : Slab Connection) (worker workers : ℕ) : Type 0 where
  pub decided : IsDecided d before sender message now
  pub queued : IsQueued sender message before after b now number old new worker workers

-- a datagram that is to be decided waits for this worker
pub record Queues {S D : Type 0} (d : Datagrams D) (before after : List (Option (Transport S)))
    (b : ConnectionLimits) (now number : ℕ) (old new : Slab Connection) (worker workers : ℕ) : Type 0 where
  pub sender : Sender
  pub message : List ℕ
  pub this : QueuesThis d sender message before after b now number old new worker workers

-- this reply is kept for the case that the same datagram comes again, or nothing is, without memory for it
abbrev pub KeepsReply : List Answer → List Answer → Sender → List ℕ → List ℕ → ℕ → Type 0
KeepsReply old new sender message reply now =
    (new ≡ after_keep old (record { sender = sender; message = message; reply = reply; moment = now })) ⊎ (new ≡ old)
