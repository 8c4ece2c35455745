-- What one read or write did at a socket that doesn't block, about the bytes that a reader has left and those that a
-- writer holds, if they are known.
use Rattle.std.specs.Prelude.{◌≡◌, ◌≢◌, ◌<◌, ◌≤◌, ⊤, ℕ, List, length, take, Option, Result, Ok, IsErrAnd, Bool, true, false}
use Rattle.std.specs.Io.KnownBytes.{Appends, Consumes, IsAtEnd, Keeps}
use Rattle.std.specs.IoError.{error_kind}
use Rattle.std.specs.declared.io.Error.{Error}
use Rattle.std.specs.declared.io.ErrorKind.{ErrorKind}
use Rattle.std.specs.declared.io.ErrorKind.TheVariants.{Interrupted, WouldBlock}
use Rattle.slab.specs.Slab.{Slab, get}
use Rattle.chpw_slots.specs.Slots.{Happens}
use Rattle.chpw_connection.specs.Slot.{left_at}
use Rattle.chpw_connection.specs.Stages.{closed, failed, wrote}
use Rattle.chpw_connection.specs.declared.connection.Connection.{Connection}
use Rattle.chpw_connection.specs.declared.limits.ConnectionLimits.{ConnectionLimits}
use Rattle.chpw_transfers.specs.Datagrams.{CameOrFailed}
use Rattle.chpw_transfers.specs.declared.state.Progress.{Progress}
use Rattle.chpw_transfers.specs.declared.state.Progress.TheVariants as progress
use Rattle.chpw_transfers.specs.declared.transfer.Transfer.{Transfer}
use Rattle.chpw_transfers.specs.declared.transfer.Transfer.TheVariants.{Bytes, End, Later, Again, Fault}

-- which faults pass: a call that would have blocked, and one that a signal interrupted; no other one
abbrev pub IsOfKind : Transfer → ErrorKind → Type 0
IsOfKind Later kind = kind ≡ WouldBlock
IsOfKind Again kind = kind ≡ Interrupted
IsOfKind Fault kind = (kind ≢ WouldBlock) × (kind ≢ Interrupted)
IsOfKind (Bytes count) kind = ⊥
IsOfKind End kind = ⊥

-- what a call did that gave this
abbrev pub IsOf : Transfer → Result ℕ Error → Type 0
IsOf (Bytes count) given = (given ≡ Ok count) × (0 < count)
IsOf End given = given ≡ Ok 0
IsOf Later given = IsErrAnd given (λ error. IsOfKind Later (error_kind error))
IsOf Again given = IsErrAnd given (λ error. IsOfKind Again (error_kind error))
IsOf Fault given = IsErrAnd given (λ error. IsOfKind Fault (error_kind error))

-- it moved no more bytes than there are
abbrev pub IsWithin : Transfer → List ℕ → Type 0
IsWithin (Bytes count) bytes = count ≤ length bytes
IsWithin t bytes = ⊤

-- a read that did this gave the first bytes of this buffer, or none
abbrev pub IsRead : Transfer → Option (List ℕ) → Option (List ℕ) → List ℕ → Type 0
IsRead (Bytes count) before after buffer = Consumes before after (take count buffer)
IsRead End before after buffer = Keeps before after × (0 < length buffer → IsAtEnd after)
IsRead t before after buffer = Keeps before after

-- a write that did this took the first of these bytes, or none
abbrev pub IsWritten : Transfer → Option (List ℕ) → Option (List ℕ) → List ℕ → Type 0
IsWritten (Bytes count) before after bytes = Appends before after (take count bytes)
IsWritten t before after bytes = Keeps before after

-- the other side will send no more, or the socket has failed
abbrev pub is_over : Transfer → Bool
is_over End = true
is_over Fault = true
is_over t = false

-- the call can be made again
abbrev pub is_passed : Transfer → Bool
is_passed Later = true
is_passed Again = true
is_passed t = false

-- a datagram was sent, as a whole
abbrev pub is_sent : Transfer → Bool
is_sent (Bytes count) = true
is_sent End = true
is_sent t = false

-- What comes of the send of a reply in a datagram: the reply was written as a whole; it can be sent later, or again at
-- once; or its connection has ended.
abbrev pub ComesOfSend : Transfer → ℕ → Slab Connection → Slab Connection → ℕ → Progress → Type 0
ComesOfSend (Bytes count) now old new slot p = (p ≡ progress.Moved) × Happens now old new slot (wrote (length (left_at (get old slot))))
ComesOfSend End now old new slot p = (p ≡ progress.Moved) × Happens now old new slot (wrote (length (left_at (get old slot))))
ComesOfSend Later now old new slot p = (p ≡ progress.Idle) × (new ≡ old)
ComesOfSend Again now old new slot p = (p ≡ progress.Moved) × (new ≡ old)
ComesOfSend Fault now old new slot p = (p ≡ progress.Moved) × Happens 0 old new slot failed

-- What comes of a read of a connection's message into this buffer: its first bytes came, or without room or memory for
-- them the connection ended; the other side has ended; nothing has come yet; a signal interrupted it; or the connection
-- has failed.
abbrev pub ComesOfMessageRead : Transfer → ConnectionLimits → ℕ → List ℕ → Slab Connection → Slab Connection → ℕ → Progress → Type 0
ComesOfMessageRead (Bytes count) b now buffer old new slot p = (p ≢ progress.Idle) × CameOrFailed b now old new slot (take count buffer)
ComesOfMessageRead End b now buffer old new slot p = (p ≡ progress.Moved) × Happens 0 old new slot closed
ComesOfMessageRead Later b now buffer old new slot p = (p ≡ progress.Idle) × (new ≡ old)
ComesOfMessageRead Again b now buffer old new slot p = (p ≡ progress.Moved) × (new ≡ old)
ComesOfMessageRead Fault b now buffer old new slot p = (p ≡ progress.Moved) × Happens 0 old new slot failed

-- What comes of a write of a connection's reply: this many of its bytes were written; nothing happened; or the
-- connection has failed, also where the socket took none.
abbrev pub ComesOfReplyWrite : Transfer → ℕ → Slab Connection → Slab Connection → ℕ → Progress → Type 0
ComesOfReplyWrite (Bytes count) now old new slot p = (p ≡ progress.Moved) × Happens now old new slot (wrote count)
ComesOfReplyWrite End now old new slot p = (p ≡ progress.Moved) × Happens 0 old new slot failed
ComesOfReplyWrite Later now old new slot p = (p ≡ progress.Idle) × (new ≡ old)
ComesOfReplyWrite Again now old new slot p = (p ≡ progress.Moved) × (new ≡ old)
ComesOfReplyWrite Fault now old new slot p = (p ≡ progress.Moved) × Happens 0 old new slot failed

-- What comes of a read of what is discarded: nothing, until the other side has ended or the connection has failed.
abbrev pub ComesOfDrain : Transfer → Slab Connection → Slab Connection → ℕ → Progress → Type 0
ComesOfDrain (Bytes count) old new slot p = (p ≡ progress.Moved) × (new ≡ old)
ComesOfDrain End old new slot p = (p ≡ progress.Moved) × Happens 0 old new slot closed
ComesOfDrain Later old new slot p = (p ≡ progress.Idle) × (new ≡ old)
ComesOfDrain Again old new slot p = (p ≡ progress.Moved) × (new ≡ old)
ComesOfDrain Fault old new slot p = (p ≡ progress.Moved) × Happens 0 old new slot failed
