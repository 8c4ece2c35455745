-- What stands at the places of a list behind a write at one of them.
use Rattle.std.proofs.Common.{◌≡◌, ℕ, zero, suc, ◌<◌, ◌≤◌, List, [], ◌∷◌, ◌++◌, length, take, set, slice_get, refl, ap, subst, arith, Option, Some, None}
use Rattle.slab.specs.Slab.{Slab}
use Rattle.chpw_connection.specs.declared.limits.ConnectionLimits.{ConnectionLimits}
use Rattle.chpw_connection.specs.declared.connection.Connection.{Connection}
use Rattle.chpw_connections.specs.declared.sender.Sender.{Sender}
use Rattle.chpw_sockets.specs.Deciding.{IsDecided, IsPlaced, IsQueued, QueuesThis}
use Rattle.chpw_transfers.specs.Datagrams.{TakesDatagram}
use Rattle.chpw_sockets.specs.declared.sockets.Transport.{Transport}
use Rattle.chpw_transfers.specs.declared.state.Progress.{Progress}
use Rattle.chpw_transfers.specs.declared.state.Progress.TheVariants as progress
use Rattle.chpw_sockets.specs.declared.udp.Datagrams.{Datagrams}

pub freed : {X : Type 0} → (xs : List (Option X)) (i : ℕ) (x : X) → slice_get (set xs i None) i ≡ Some (Some x) → ⊥
freed [] i x is = cc
freed (x ∷ xs) zero y is = cc
freed (x ∷ xs) (suc i) y is = freed xs i y is

pub free_past : {X : Type 0} → (xs : List (Option X)) (i : ℕ) (x : X) → length xs ≤ i → slice_get xs i ≡ Some (Some x) → ⊥
free_past [] i x past is = cc
free_past (y ∷ xs) zero x past is = absurd (omega (arith, past))
free_past (y ∷ xs) (suc i) x past is = free_past xs i x (omega (arith, past)) is

abbrev worker_of : Progress → ℕ
worker_of (progress.Queued worker) = worker
worker_of progress.Moved = 0
worker_of progress.Idle = 0

-- a datagram that waits, with the copy of its message at its place
pub is_queued : {S : Type 0} → (sender : Sender) (message copy : List ℕ) (before after : List (Option (Transport S)))
    (b : ConnectionLimits) (now number : ℕ) (old new : Slab Connection) (slot queued worker workers : ℕ) → progress.Queued queued ≡ progress.Queued worker
    → TakesDatagram b now sender.ends number message old new slot queued workers → copy ≡ message
    → (slot < length before → IsPlaced after slot sender copy)
    → ((other : ℕ) → (other ≡ slot → ⊥) → slice_get after other ≡ slice_get before other)
    → IsQueued sender message before after b now number old new worker workers
is_queued sender message copy before after b now number old new slot queued worker workers is taken same placed others = record {
  slot = slot;
  taken = subst (λ (w : ℕ). TakesDatagram b now sender.ends number message old new slot w workers) (ap worker_of is) taken;
  placed = λ within. subst (λ (m : List ℕ). IsPlaced after slot sender m) same (placed within);
  others = others;
}

pub queues : {S D : Type 0} → (d : Datagrams D) (sender : Sender) (message : List ℕ) (before after : List (Option (Transport S)))
    (b : ConnectionLimits) (now number : ℕ) (old new : Slab Connection) (worker workers : ℕ) → IsDecided d before sender message now
    → IsQueued sender message before after b now number old new worker workers
    → QueuesThis d sender message before after b now number old new worker workers
queues d sender message before after b now number old new worker workers decided queued = record { decided = decided; queued = queued }

-- what stands at the front, of a list with more behind it
front : {X : Type 0} → (xs zs : List X) → xs ≡ take (length xs) (xs ++ zs)
front [] zs = refl
front (x ∷ xs) zs = ap (λ (l : List _). x ∷ l) (front xs zs)

pub written_back : {X : Type 0} → (n : ℕ) (xs zs : List X) → length xs ≡ n → xs ≡ take n (xs ++ zs)
written_back n xs zs same = subst (λ (n : ℕ). xs ≡ take n (xs ++ zs)) same (front xs zs)
