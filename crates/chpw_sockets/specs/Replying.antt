-- Whom datagrams come from, and whom their replies go to.
use Rattle.std.specs.Prelude.{◌≡◌, ℕ, ◌⊎◌, List, [], length, nat_lt, Option, Some, None, MatchBool}
use Rattle.slab.specs.Slab.{Slab, get}
use Rattle.chpw_slots.specs.Slots.{Happens}
use Rattle.chpw_connection.specs.Slot.{left_at}
use Rattle.chpw_connection.specs.Stages.{failed, wrote}
use Rattle.chpw_connection.specs.declared.connection.Connection.{Connection}
use Rattle.chpw_connection.specs.declared.limits.ConnectionLimits.{ConnectionLimits}
use Rattle.chpw_connection.specs.declared.todo.Todo.{Todo}
use Rattle.chpw_connection.specs.declared.todo.Todo.TheVariants as todo
use Rattle.chpw_connections.specs.Answers.{Answer, reply_for}
use Rattle.chpw_connections.specs.Senders.{IsAnswered}
use Rattle.chpw_connections.specs.declared.sender.Sender.{Sender}
use Rattle.chpw_transfers.specs.Datagrams.{in_datagram}
use Rattle.chpw_sockets.specs.Deciding.{KeepsReply, QueuesThis}
use Rattle.chpw_sockets.specs.Sending.{Mail, Sends, Brings}
use Rattle.chpw_sockets.specs.declared.sockets.Transport.{Transport}
use Rattle.chpw_sockets.specs.declared.sockets.Transport.TheVariants as place
use Rattle.chpw_transfers.specs.declared.state.Progress.{Progress}
use Rattle.chpw_transfers.specs.declared.state.Progress.TheVariants as progress
use Rattle.chpw_sockets.specs.declared.udp.Datagram.{Datagram}
use Rattle.chpw_sockets.specs.declared.udp.Datagrams.{Datagrams}

-- What is known of the socket for datagrams: those that it has left to give, each with where it comes from, and those
-- that it was given to send, each with where to; the replies that are kept there; and its port and realm.
pub record Post : Type 0 where
  pub left : Mail
  pub sent : Mail
  pub kept : List Answer
  pub port : ℕ
  pub realm : List ℕ

-- by what a socket has left and what it was given
abbrev pub post_of : {D : Type 0} → (D → Mail) → (D → Mail) → Datagrams D → Post
post_of left sent d = record { left = left d.socket; sent = sent d.socket; kept = d.answered; port = d.port; realm = d.realm.items }

-- without such a socket nothing comes, is sent or is kept
abbrev pub post_at : {D : Type 0} → (D → Mail) → (D → Mail) → Option (Datagrams D) → Post
post_at left sent None = record { left = None; sent = None; kept = []; port = 0; realm = [] }
post_at left sent (Some d) = post_of left sent d

-- A reply goes to the sender of its request and to nobody else, without its length, whole and once. One that is longer
-- than its request goes nowhere.
abbrev pub Replies : Sender → List ℕ → List ℕ → Mail → Mail → Type 0
Replies sender request reply before after = MatchBool (nat_lt (length request) (length (in_datagram reply)))
    (after ≡ before) (Sends sender (in_datagram reply) before after)

-- The reply of this connection was sent to the sender of its datagram, which the connection has noted, and is kept as
-- the answer to this datagram of this sender.
pub record IsPosted (now : ℕ) (d : Datagram) (before after : Post) (old new : Slab Connection) (slot : ℕ) : Type 0 where
  pub sent : Replies d.sender d.message.items (left_at (get old slot)) before.sent after.sent
  pub kept : KeepsReply before.kept after.kept d.sender d.message.items (left_at (get old slot)) now
  pub rest : after ≡ record before { sent = after.sent; kept = after.kept }
  pub written : Happens now old new slot (wrote (length (left_at (get old slot))))

-- nothing was sent or kept: the connection has failed, or is unchanged
pub record IsUnposted (before after : Post) (old new : Slab Connection) (slot : ℕ) : Type 0 where
  pub same : after ≡ before
  pub happens : Happens 0 old new slot failed ⊎ (new ≡ old)

abbrev pub Posts : ℕ → Datagram → Post → Post → Slab Connection → Slab Connection → ℕ → Type 0
Posts now d before after old new slot = IsPosted now d before after old new slot ⊎ IsUnposted before after old new slot

-- what one step for a connection that came as a datagram sends: its reply, where that is to be written
abbrev pub PostsFor : Todo → ℕ → Datagram → Post → Post → Slab Connection → Slab Connection → ℕ → Type 0
PostsFor todo.Write now d before after old new slot = Posts now d before after old new slot
PostsFor (todo.Read n) now d before after old new slot = after ≡ before
PostsFor todo.Linger now d before after old new slot = after ≡ before
PostsFor todo.Close now d before after old new slot = after ≡ before
PostsFor todo.Wait now d before after old new slot = after ≡ before

-- and one for a stream sends no datagram
abbrev pub PostsBy : {S : Type 0} → Transport S → Todo → ℕ → Post → Post → Slab Connection → Slab Connection → ℕ → Type 0
PostsBy (place.Datagram d) due now before after old new slot = PostsFor due now d before after old new slot
PostsBy (place.Stream s) due now before after old new slot = after ≡ before

-- at the place of a connection; where nothing stands nothing is sent
abbrev pub PostsAt : {S : Type 0} → Option (Option (Transport S)) → Todo → ℕ → Post → Post → Slab Connection → Slab Connection → ℕ → Type 0
PostsAt (Some (Some t)) due now before after old new slot = PostsBy t due now before after old new slot
PostsAt (Some None) due now before after old new slot = after ≡ before
PostsAt None due now before after old new slot = after ≡ before

-- a datagram is the first that was left, as much of it as there is room for, with its sender
abbrev pub IsReceived : Sender → List ℕ → ℕ → Mail → Mail → Type 0
IsReceived sender message room before after = Brings sender message room before after

-- the reply that is kept for this very datagram of this sender was sent to that sender again
pub record GoesAgain {D : Type 0} (d : Datagrams D) (sender : Sender) (message : List ℕ) (now : ℕ) (before after : Mail) : Type 0 where
  pub reply : List ℕ
  pub answered : IsAnswered d.port d.realm.items sender message
  pub is_kept : reply_for d.answered sender message now ≡ Some reply
  pub sent : Replies sender message reply before after

-- or nothing was sent
abbrev pub Resends : {D : Type 0} → Datagrams D → Sender → List ℕ → ℕ → Mail → Mail → Type 0
Resends d sender message now before after = GoesAgain d sender message now before after ⊎ (after ≡ before)

-- The next datagram was taken. It gets the reply that is kept for it, or none yet; and if one waits for a worker now, it
-- is this one, with the sender that it came from.
pub record IsTaken {S D : Type 0} (left sent : D → Mail) (d e : Datagrams D) (room : ℕ) (before after : List (Option (Transport S)))
    (b : ConnectionLimits) (now number : ℕ) (old new : Slab Connection) (p : Progress) (workers : ℕ) : Type 0 where
  pub sender : Sender
  pub message : List ℕ
  pub received : IsReceived sender message room (left d.socket) (left e.socket)
  pub again : Resends d sender message now (sent d.socket) (sent e.socket)
  pub rest : e ≡ record d { socket = e.socket }
  pub queued : (worker : ℕ) → p ≡ progress.Queued worker → QueuesThis d sender message before after b now number old new worker workers

-- none was taken, and nothing was sent
pub record IsUntaken {D : Type 0} (left sent : D → Mail) (d e : Datagrams D) (old new : Slab Connection) : Type 0 where
  pub same : post_of left sent e ≡ post_of left sent d
  pub idle : new ≡ old

abbrev pub Takes : {S D : Type 0} → (D → Mail) → (D → Mail) → Option (Datagrams D) → Option (Datagrams D) → ℕ
    → List (Option (Transport S)) → List (Option (Transport S)) → ConnectionLimits → ℕ → ℕ → Slab Connection → Slab Connection → Progress → ℕ → Type 0
Takes left sent None e room before after b now number old new p workers = (e ≡ None) × (new ≡ old)
Takes left sent (Some d) None room before after b now number old new p workers = ⊥
Takes left sent (Some d) (Some e) room before after b now number old new p workers =
    IsTaken left sent d e room before after b now number old new p workers ⊎ IsUntaken left sent d e old new
