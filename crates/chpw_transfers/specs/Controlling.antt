-- The callers at the control socket with their sockets: how they come and go, and what a read or a write does.
use Rattle.std.specs.Prelude.{◌≡◌, ℕ, ◌+◌, List, [], ◌∷◌, take, slice_get, Option, Some, None, IsSome, Bool, true, false, ◌⊎◌}
use Rattle.slab.specs.Slab.{Slab, get}
use Rattle.mio.specs.declared.net.uds.stream.UnixStream.{UnixStream}
use Rattle.chpw_slots.specs.Counting.{count_in}
use Rattle.chpw_connections.specs.Held.{slots_of}
use Rattle.chpw_connection.specs.declared.counting.CountedStage.TheVariants as counted
use Rattle.chpw_control.specs.Callers.{asking, closed, failed, told, wrote}
use Rattle.chpw_control.specs.Answers.{lines_text, ok_line}
use Rattle.chpw_control.specs.Dialogs.{at_start}
use Rattle.chpw_control.specs.Seats.{Happens, HappensToHear, IsFirst, IsNew, NobodyWaits, left_at, ordering_of, seats_of}
use Rattle.chpw_control.specs.declared.callers.Callers.{Callers}
use Rattle.chpw_control.specs.declared.callers.Seat.{Seat}
use Rattle.chpw_transfers.specs.declared.connection_counts.ConnectionCounts.{ConnectionCounts}
use Rattle.chpw_transfers.specs.declared.state.State.{State}
use Rattle.chpw_transfers.specs.declared.transfer.Transfer.{Transfer}
use Rattle.chpw_transfers.specs.declared.transfer.Transfer.TheVariants.{Bytes, End, Later, Again, Fault}
use Rattle.chpw_transfers.specs.Transfers.{IsRead, IsWritten}

-- What comes of a read of a caller's line into this buffer: its first bytes came; the caller will send no more, or can't
-- go on; or nothing happened.
abbrev pub ComesOfRead : Transfer → List ℕ → Slab Seat → Slab Seat → ℕ → Type 0
ComesOfRead (Bytes count) buffer old new slot = HappensToHear old new slot (take count buffer)
ComesOfRead End buffer old new slot = Happens old new slot closed
ComesOfRead Fault buffer old new slot = Happens old new slot failed
ComesOfRead Later buffer old new slot = new ≡ old
ComesOfRead Again buffer old new slot = new ≡ old

-- one that was made, and what came of it
pub record IsHeard (old new : Slab Seat) (slot : ℕ) (before after : Option (List ℕ)) (buffer : List ℕ) : Type 0 where
  pub transfer : Transfer
  pub read : IsRead transfer before after buffer
  pub comes : ComesOfRead transfer buffer old new slot

-- What comes of a write of no bytes: a caller that has hung up can't go on; nothing happens to any other one.
abbrev pub ComesOfProbe : Transfer → Slab Seat → Slab Seat → ℕ → Type 0
ComesOfProbe Fault old new slot = Happens old new slot failed
ComesOfProbe (Bytes count) old new slot = new ≡ old
ComesOfProbe End old new slot = new ≡ old
ComesOfProbe Later old new slot = new ≡ old
ComesOfProbe Again old new slot = new ≡ old

-- one that was made, and what came of it
pub record IsProbed (old new : Slab Seat) (slot : ℕ) (before after : Option (List ℕ)) : Type 0 where
  pub transfer : Transfer
  pub written : IsWritten transfer before after []
  pub comes : ComesOfProbe transfer old new slot

-- What comes of a write of a caller's answer: this many of its bytes were written; the caller can't go on; or nothing
-- happened.
abbrev pub ComesOfWrite : Transfer → Slab Seat → Slab Seat → ℕ → Type 0
ComesOfWrite (Bytes count) old new slot = Happens old new slot (wrote count)
ComesOfWrite End old new slot = Happens old new slot failed
ComesOfWrite Fault old new slot = Happens old new slot failed
ComesOfWrite Later old new slot = new ≡ old
ComesOfWrite Again old new slot = new ≡ old

-- one that was made of what is left of it, and what came of it
pub record Goes (old new : Slab Seat) (slot : ℕ) (before after : Option (List ℕ)) : Type 0 where
  pub transfer : Transfer
  pub written : IsWritten transfer before after (left_at (get old slot))
  pub comes : ComesOfWrite transfer old new slot

-- or none, since nothing is left
abbrev pub IsTold : Slab Seat → Slab Seat → ℕ → Option (List ℕ) → Option (List ℕ) → Type 0
IsTold old new slot before after = Goes old new slot before after
    ⊎ ((left_at (get old slot) ≡ []) × (after ≡ before) × Happens old new slot (wrote 0))

-- one call of the socket each
abbrev pub Hears : Slab Seat → Slab Seat → ℕ → Type 0
Hears old new slot = (before : Option (List ℕ)) × ((after : Option (List ℕ)) × ((buffer : List ℕ) × IsHeard old new slot before after buffer))

abbrev pub Tells : Slab Seat → Slab Seat → ℕ → Type 0
Tells old new slot = (before : Option (List ℕ)) × ((after : Option (List ℕ)) × IsTold old new slot before after)

abbrev pub Probes : Slab Seat → Slab Seat → ℕ → Type 0
Probes old new slot = (before : Option (List ℕ)) × ((after : Option (List ℕ)) × IsProbed old new slot before after)

-- what has come is read; whoever has hung up is finished; and then what is left of the answer is written
abbrev pub Serves : Slab Seat → Slab Seat → ℕ → Type 0
Serves old new slot = (heard : Slab Seat) × (Hears old heard slot
    × ((probed : Slab Seat) × (Probes heard probed slot × Tells probed new slot)))

-- the caller of a slot with a socket is looked at
abbrev pub LooksAt : Option (Option UnixStream) → Slab Seat → Slab Seat → ℕ → Type 0
LooksAt (Some (Some stream)) old new slot = Probes old new slot
LooksAt (Some None) old new slot = new ≡ old
LooksAt None old new slot = new ≡ old

-- for a slot with a socket
abbrev pub ServesAt : Option (Option UnixStream) → Slab Seat → Slab Seat → ℕ → Type 0
ServesAt (Some (Some stream)) old new slot = Serves old new slot
ServesAt (Some None) old new slot = new ≡ old
ServesAt None old new slot = new ≡ old

-- the answer to a command that was carried out
abbrev pub done_text : List ℕ
done_text = lines_text (ok_line ∷ [])

-- that is answered, if it is due and there is memory for it, and then what is left is written
abbrev pub TellsDone : Bool → Slab Seat → Slab Seat → ℕ → Type 0
TellsDone true old mid slot = Happens old mid slot (told done_text) ⊎ (mid ≡ old)
TellsDone false old mid slot = mid ≡ old

abbrev pub TellsLast : Bool → Option (Option UnixStream) → Slab Seat → Slab Seat → ℕ → Type 0
TellsLast done place old new slot = (mid : Slab Seat) × (TellsDone done old mid slot × ServesAt place mid new slot)

-- a socket is at this place
abbrev pub IsOpen : List (Option UnixStream) → ℕ → Type 0
IsOpen streams slot = (stream : UnixStream) × (slice_get streams slot ≡ Some (Some stream))

-- a caller came whose line is still to come, with the socket at the slot's place; the others stay
pub record Admits (now number : ℕ) (old new : Slab Seat) (before after : List (Option UnixStream)) : Type 0 where
  pub slot : ℕ
  pub came : IsNew now number old new slot (asking at_start)
  pub placed : IsOpen after slot
  pub others : (other : ℕ) → (other ≡ slot → ⊥) → slice_get after other ≡ slice_get before other

-- an order is being carried out or waits; there is none
abbrev pub HasOrder : Callers → Type 0
HasOrder c = IsSome (ordering_of c) ⊎ ((slot : ℕ) × IsFirst (seats_of c) true slot)

abbrev pub HasNoOrder : Callers → Type 0
HasNoOrder c = (ordering_of c ≡ None) × NobodyWaits (seats_of c) true

-- an order may be carried out now: one waits and none is being carried out; and none may
abbrev pub IsDue : Callers → Type 0
IsDue c = (ordering_of c ≡ None) × ((slot : ℕ) × IsFirst (seats_of c) true slot)

abbrev pub IsIdle : Callers → Type 0
IsIdle c = IsSome (ordering_of c) ⊎ NobodyWaits (seats_of c) true

-- how many connections are in each stage
pub record IsCounted (s : State) (t : ConnectionCounts) : Type 0 where
  pub reading : t.reading ≡ count_in counted.Reading (slots_of s.connections)
  pub waiting : t.waiting ≡ count_in counted.Waiting (slots_of s.connections)
  pub answering : t.answering ≡ count_in counted.Answering (slots_of s.connections)
  pub confirming : t.confirming ≡ count_in counted.Confirming (slots_of s.connections)
  pub writing : t.writing ≡ count_in counted.Writing (slots_of s.connections)
  pub ending : t.ending ≡ count_in counted.Ending (slots_of s.connections)

-- how many these are
abbrev pub sum_of : ConnectionCounts → ℕ
sum_of t = t.reading + t.waiting + t.answering + t.confirming + t.writing + t.ending
