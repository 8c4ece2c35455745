-- What stands at the places of the connections' sockets, and what stays there.
use Rattle.std.specs.Prelude.{◌≡◌, ℕ, List, length, Option, Some, None, IsSomeAnd, Result, Ok, Err, Bool, true, false, is_some}
use Rattle.std.specs.declared.io.Error.{Error}
use Rattle.chpw_connection.specs.declared.todo.Todo.{Todo}
use Rattle.chpw_connection.specs.declared.todo.Todo.TheVariants as todo
use Rattle.chpw_transfers.specs.Steps.{Told, untold}
use Rattle.chpw_sockets.specs.declared.sockets.Socket.{Socket}
use Rattle.chpw_sockets.specs.declared.places.Sockets.{Sockets}
use Rattle.chpw_sockets.specs.declared.sockets.Transport.{Transport}
use Rattle.chpw_sockets.specs.declared.sockets.Transport.TheVariants as place

-- how many places there are, how long the buffers are, and whether there is a socket for datagrams
abbrev pub KeepsSizes : {S D : Type 0} → Sockets S D → Sockets S D → Type 0
KeepsSizes old new = (length new.by_slot.items ≡ length old.by_slot.items) × (length new.buffer.items ≡ length old.buffer.items)
    × (length new.datagram.items ≡ length old.datagram.items) × (is_some new.datagrams ≡ is_some old.datagrams)

-- a stream is at this place
abbrev pub IsStream : {S : Type 0} → Option (Option (Transport S)) → Type 0
IsStream {S = S} at = (s : Socket S) × (at ≡ Some (Some (place.Stream s)))

-- what the stream of a socket tells, by what a stream has left and what it was given
abbrev pub told_of : {S : Type 0} → (S → Option (List ℕ)) → (S → Option (List ℕ)) → Socket S → Told
told_of left given s = record { left = left s.stream; given = given s.stream }

abbrev pub told_by : {S : Type 0} → (S → Option (List ℕ)) → (S → Option (List ℕ)) → Transport S → Told
told_by left given (place.Stream s) = told_of left given s
told_by left given (place.Datagram d) = untold

-- what the stream at a place tells, if there is one
abbrev pub told_at : {S : Type 0} → (S → Option (List ℕ)) → (S → Option (List ℕ)) → Option (Option (Transport S)) → Told
told_at left given (Some (Some t)) = told_by left given t
told_at left given (Some None) = untold
told_at left given None = untold

-- a socket has an error, or can't be asked for one
abbrev pub has_pending : Result (Option Error) Error → Bool
has_pending (Ok None) = false
has_pending (Ok (Some error)) = true
has_pending (Err error) = true

-- whether a stream's writing side is shut behind a step: before what still comes is discarded, and as it was otherwise
abbrev pub is_shut_behind : Todo → Bool → Bool
is_shut_behind todo.Linger was = true
is_shut_behind due was = was

-- behind a step a stream stays one, and a datagram one of the same sender
abbrev pub Stays : {S : Type 0} → Todo → Transport S → Transport S → Type 0
Stays due (place.Stream s) (place.Stream t) = t.is_shut ≡ is_shut_behind due s.is_shut
Stays due (place.Datagram d) (place.Datagram e) = e.sender ≡ d.sender
Stays due (place.Stream s) (place.Datagram e) = ⊥
Stays due (place.Datagram d) (place.Stream t) = ⊥

-- at its place, and where nothing stood nothing does
abbrev pub StaysAt : {S : Type 0} → Todo → Option (Option (Transport S)) → Option (Option (Transport S)) → Type 0
StaysAt due (Some (Some t)) after = IsSomeAnd after (λ at. IsSomeAnd at (Stays due t))
StaysAt due (Some None) after = after ≡ Some None
StaysAt due None after = after ≡ None

-- what still comes is to be read: the next message, or what is discarded behind the last one; behind a datagram nothing comes
abbrev pub reads_on : Todo → Bool
reads_on (todo.Read count) = true
reads_on todo.Linger = true
reads_on due = false

abbrev pub is_datagram : {S : Type 0} → Transport S → Bool
is_datagram (place.Datagram d) = true
is_datagram (place.Stream s) = false

abbrev pub is_datagram_at : {S : Type 0} → Option (Option (Transport S)) → Bool
is_datagram_at (Some (Some t)) = is_datagram t
is_datagram_at (Some None) = false
is_datagram_at None = false

-- behind one step after another before the connection is to be closed: a stream stays one, and shut if it is, and a
-- datagram one of the same sender
abbrev pub Remains : {S : Type 0} → Transport S → Transport S → Type 0
Remains (place.Stream s) (place.Stream t) = s.is_shut ≡ true → t.is_shut ≡ true
Remains (place.Datagram d) (place.Datagram e) = e.sender ≡ d.sender
Remains (place.Stream s) (place.Datagram e) = ⊥
Remains (place.Datagram d) (place.Stream t) = ⊥

abbrev pub RemainsAt : {S : Type 0} → Option (Option (Transport S)) → Option (Option (Transport S)) → Type 0
RemainsAt (Some (Some t)) after = IsSomeAnd after (λ at. IsSomeAnd at (Remains t))
RemainsAt (Some None) after = after ≡ Some None
RemainsAt None after = after ≡ None
