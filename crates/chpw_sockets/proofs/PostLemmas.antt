-- What is sent for a connection that came as a datagram, and for a datagram that comes.
use Rattle.std.proofs.Common.{◌≡◌, ℕ, List, refl, sym, ◌∙◌, ap, subst, Option, Some, None, inl, inr}
use Rattle.slab.specs.Slab.{Slab}
use Rattle.chpw_connection.specs.declared.connection.Connection.{Connection}
use Rattle.chpw_connection.specs.declared.limits.ConnectionLimits.{ConnectionLimits}
use Rattle.chpw_connection.specs.declared.todo.Todo.{Todo}
use Rattle.chpw_connection.specs.declared.todo.Todo.TheVariants as todo
use Rattle.chpw_connections.specs.declared.sender.Sender.{Sender}
use Rattle.chpw_sockets.specs.Deciding.{QueuesThis}
use Rattle.chpw_sockets.specs.Replying.{Post, PostsAt, PostsBy, IsReceived, IsTaken, Resends}
use Rattle.chpw_sockets.specs.Sending.{Mail}
use Rattle.chpw_sockets.specs.declared.sockets.Transport.{Transport}
use Rattle.chpw_sockets.specs.declared.sockets.Transport.TheVariants as place
use Rattle.chpw_transfers.specs.declared.state.Progress.{Progress}
use Rattle.chpw_transfers.specs.declared.state.Progress.TheVariants as progress
use Rattle.chpw_sockets.specs.declared.udp.Datagrams.{Datagrams}

-- nothing was done
pub unposted : {S : Type 0} → (at : Option (Option (Transport S))) (due : Todo) (now : ℕ) (post : Post) (slots : Slab Connection) (slot : ℕ)
    → PostsAt at due now post post slots slots slot
unposted None due now post slots slot = refl
unposted (Some None) due now post slots slot = refl
unposted (Some (Some (place.Stream s))) due now post slots slot = refl
unposted (Some (Some (place.Datagram d))) (todo.Read n) now post slots slot = refl
unposted (Some (Some (place.Datagram d))) todo.Write now post slots slot = inr (record { same = refl; happens = inr refl })
unposted (Some (Some (place.Datagram d))) todo.Linger now post slots slot = refl
unposted (Some (Some (place.Datagram d))) todo.Close now post slots slot = refl
unposted (Some (Some (place.Datagram d))) todo.Wait now post slots slot = refl

-- it was removed
removed_at : {S : Type 0} → (at : Option (Option (Transport S))) (now : ℕ) (before after : Post) (old new : Slab Connection) (slot : ℕ)
    → after ≡ before → PostsAt at todo.Close now before after old new slot
removed_at None now before after old new slot same = same
removed_at (Some None) now before after old new slot same = same
removed_at (Some (Some (place.Stream s))) now before after old new slot same = same
removed_at (Some (Some (place.Datagram d))) now before after old new slot same = same

pub removed : {S : Type 0} → (at : Option (Option (Transport S))) (due : Todo) (now : ℕ) (before after : Post) (old new : Slab Connection) (slot : ℕ)
    → due ≡ todo.Close → after ≡ before → PostsAt at due now before after old new slot
removed at due now before after old new slot is same =
    subst (λ (due : Todo). PostsAt at due now before after old new slot) (sym is) (removed_at at now before after old new slot same)

-- what stands at this place made a step
pub posted : {S : Type 0} → (at : Option (Option (Transport S))) (t : Transport S) (due told : Todo) (now : ℕ) (before after : Post)
    (old new : Slab Connection) (slot : ℕ) → at ≡ Some (Some t) → due ≡ told → PostsBy t due now before after old new slot
    → PostsAt at told now before after old new slot
posted at t due told now before after old new slot is same posts =
    subst (λ (at : Option (Option (Transport _))). PostsAt at told now before after old new slot) (sym is)
    (subst (λ (due : Todo). PostsBy t due now before after old new slot) same posts)

-- at the same socket for datagrams, and the same places by other names
module _ {S D : Type 0} (d m : Datagrams D) (sender : Sender) (message : List ℕ) (before there after behind : List (Option (Transport S)))
    (b : ConnectionLimits) (now number : ℕ) (old new : Slab Connection) (worker workers : ℕ)
    (rest : m ≡ record d { socket = m.socket }) (here : before ≡ there) (same : after ≡ behind)
    (queued : QueuesThis m sender message before after b now number old new worker workers) where
  at_places : QueuesThis m sender message there behind b now number old new worker workers
  at_places =
      subst (λ (places : List (Option (Transport S))). QueuesThis m sender message there places b now number old new worker workers) same
      (subst (λ (places : List (Option (Transport S))). QueuesThis m sender message places after b now number old new worker workers) here queued)

  at_socket : QueuesThis (record d { socket = m.socket }) sender message there behind b now number old new worker workers
  at_socket = subst (λ (x : Datagrams D). QueuesThis x sender message there behind b now number old new worker workers) rest at_places

  pub queues_there : QueuesThis d sender message there behind b now number old new worker workers
  queues_there = record {
    decided = record {
      unanswered = record { answered = at_socket.decided.unanswered.answered; unkept = at_socket.decided.unanswered.unkept };
      apart = at_socket.decided.apart;
      room = at_socket.decided.room;
    };
    queued = at_socket.queued;
  }

resent : {D : Type 0} → (d : Datagrams D) (s : D) (sender : Sender) (message : List ℕ) (now : ℕ) (before after : Mail)
    → Resends (record d { socket = s }) sender message now before after → Resends d sender message now before after
resent d s sender message now before after (inl again) =
    inl (record { reply = again.reply; answered = again.answered; is_kept = again.is_kept; sent = again.sent })
resent d s sender message now before after (inr same) = inr same

-- the next datagram was received, and then handled
pub taken : {S D : Type 0} → (left sent : D → Mail) (d m e : Datagrams D) (count room : ℕ) (sender : Sender) (message : List ℕ)
    (there behind : List (Option (Transport S))) (b : ConnectionLimits) (now number : ℕ) (old new : Slab Connection) (p : Progress) (workers : ℕ)
    → count ≡ room → IsReceived sender message count (left d.socket) (left m.socket) → sent m.socket ≡ sent d.socket
    → m ≡ record d { socket = m.socket } → left e.socket ≡ left m.socket → Resends m sender message now (sent m.socket) (sent e.socket)
    → e ≡ record m { socket = e.socket }
    → ((worker : ℕ) → p ≡ progress.Queued worker → QueuesThis d sender message there behind b now number old new worker workers)
    → IsTaken left sent d e room there behind b now number old new p workers
taken {D = D} left sent d m e count room sender message there behind b now number old new p workers all received unsent first unread again then queued =
    record {
      sender = sender;
      message = message;
      received =
          subst (λ (n : ℕ). IsReceived sender message n (left d.socket) (left e.socket)) all
          (subst (λ (mail : Mail). IsReceived sender message count (left d.socket) mail) (sym unread) received);
      again =
          resent d m.socket sender message now (sent d.socket) (sent e.socket)
          (subst (λ (x : Datagrams D). Resends x sender message now (sent d.socket) (sent e.socket)) first
          (subst (λ (mail : Mail). Resends m sender message now mail (sent e.socket)) unsent again));
      rest = then ∙ ap (λ (x : Datagrams D). record x { socket = e.socket }) first;
      queued = queued;
    }
