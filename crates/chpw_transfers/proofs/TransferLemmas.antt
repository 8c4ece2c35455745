-- What a call moved that did this, and which step of its connection it was.
use Rattle.std.proofs.Common.{◌≤◌, ◌⊎◌, ℕ, List, [], length, take, sym, ◌∙◌, ap, subst, Option, Some, None, Result, Ok, Err, append-nil}
use Rattle.std.proofs.Common.{inl, inr, arith, length-take}
use Rattle.std.specs.Io.{ReadsAtMost}
use Rattle.std.specs.Io.KnownBytes.{Appends, Consumes, Keeps, ReadConsumes, WriteAppends}
use Rattle.std.specs.declared.io.Error.{Error}
use Rattle.slab.specs.Slab.{Slab, get}
use Rattle.chpw_connection.specs.Slot.{left_at, wanted_at}
use Rattle.chpw_connection.specs.declared.connection.Connection.{Connection}
use Rattle.chpw_connection.specs.declared.limits.ConnectionLimits.{ConnectionLimits}
use Rattle.chpw_transfers.specs.Steps.{Gives, GivesNone, LetsGo, Takes, TakesNone}
use Rattle.chpw_transfers.specs.Transfers.{ComesOfDrain, ComesOfMessageRead, ComesOfReplyWrite, IsOf, IsRead, IsWithin, IsWritten}
use Rattle.chpw_transfers.specs.declared.state.Progress.{Progress}
use Rattle.chpw_transfers.specs.declared.transfer.Transfer.{Transfer}
use Rattle.chpw_transfers.specs.declared.transfer.Transfer.TheVariants.{Bytes, End, Later, Again, Fault}

abbrev count_in : Result ℕ Error → ℕ
count_in (Ok n) = n
count_in (Err e) = 0

none_read : (before after : Option (List ℕ)) → Consumes before after [] → Keeps before after
none_read None after is = tt
none_read (Some xs) None is = is
none_read (Some xs) (Some ys) is = sym is

none_written : (before after : Option (List ℕ)) → Appends before after [] → Keeps before after
none_written None after is = tt
none_written (Some xs) None is = is
none_written (Some xs) (Some ys) is = is ∙ append-nil xs

pub within : (t : Transfer) (given : Result ℕ Error) (buffer : List ℕ) → IsOf t given → ReadsAtMost given buffer → IsWithin t buffer
within (Bytes count) (Ok n) buffer is most = subst (λ (m : ℕ). m ≤ length buffer) (ap count_in is.0) most.0
within (Bytes count) (Err e) buffer is most = let ok = is.0 in absurd cc
within End given buffer is most = tt
within Later given buffer is most = tt
within Again given buffer is most = tt
within Fault given buffer is most = tt

pub is_read : (t : Transfer) (given : Result ℕ Error) (before after : Option (List ℕ)) (buffer : List ℕ) → IsOf t given
    → ReadConsumes before after given buffer → IsRead t before after buffer
is_read (Bytes count) (Ok n) before after buffer is reads =
    subst (λ (m : ℕ). Consumes before after (take m buffer)) (ap count_in is.0) reads.0
is_read (Bytes count) (Err e) before after buffer is reads = let ok = is.0 in absurd cc
is_read End (Ok n) before after buffer is reads = (
  none_read before after (subst (λ (m : ℕ). Consumes before after (take m buffer)) (ap count_in is) reads.0),
  reads.1 (ap count_in is),
)
is_read End (Err e) before after buffer is reads = absurd cc
is_read Later (Ok n) before after buffer is reads = absurd is
is_read Later (Err e) before after buffer is reads = reads
is_read Again (Ok n) before after buffer is reads = absurd is
is_read Again (Err e) before after buffer is reads = reads
is_read Fault (Ok n) before after buffer is reads = absurd is
is_read Fault (Err e) before after buffer is reads = reads

pub is_written : (t : Transfer) (given : Result ℕ Error) (before after : Option (List ℕ)) (bytes : List ℕ) → IsOf t given
    → WriteAppends before after given bytes → IsWritten t before after bytes
is_written (Bytes count) (Ok n) before after bytes is writes =
    subst (λ (m : ℕ). Appends before after (take m bytes)) (ap count_in is.0) writes
is_written (Bytes count) (Err e) before after bytes is writes = let ok = is.0 in absurd cc
is_written End (Ok n) before after bytes is writes =
    none_written before after (subst (λ (m : ℕ). Appends before after (take m bytes)) (ap count_in is) writes)
is_written End (Err e) before after bytes is writes = absurd cc
is_written Later (Ok n) before after bytes is writes = absurd is
is_written Later (Err e) before after bytes is writes = writes
is_written Again (Ok n) before after bytes is writes = absurd is
is_written Again (Err e) before after bytes is writes = writes
is_written Fault (Ok n) before after bytes is writes = absurd is
is_written Fault (Err e) before after bytes is writes = writes

pub reads : (t : Transfer) (b : ConnectionLimits) (now : ℕ) (buffer : List ℕ) (old new : Slab Connection) (slot : ℕ)
    (before after : Option (List ℕ)) (p : Progress) → length buffer ≤ wanted_at (get old slot) → IsRead t before after buffer
    → ComesOfMessageRead t b now buffer old new slot p → Takes b now old new slot before after ⊎ TakesNone old new slot before after
reads (Bytes count) b now buffer old new slot before after p few is comes = inl (record {
  bytes = take count buffer;
  few = omega (arith, length-take count buffer, few);
  read = is;
  happens = comes.1;
})
reads End b now buffer old new slot before after p few is comes = inr (record { kept = is.0; happens = inl comes.1 })
reads Later b now buffer old new slot before after p few is comes = inr (record { kept = is; happens = inr (inr comes.1) })
reads Again b now buffer old new slot before after p few is comes = inr (record { kept = is; happens = inr (inr comes.1) })
reads Fault b now buffer old new slot before after p few is comes = inr (record { kept = is; happens = inr (inl comes.1) })

pub writes : (t : Transfer) (now : ℕ) (old new : Slab Connection) (slot : ℕ) (before after : Option (List ℕ)) (p : Progress)
    → IsWritten t before after (left_at (get old slot)) → ComesOfReplyWrite t now old new slot p
    → Gives now old new slot before after ⊎ GivesNone old new slot before after
writes (Bytes count) now old new slot before after p is comes = inl (record { count = count; written = is; happens = comes.1 })
writes End now old new slot before after p is comes = inr (record { kept = is; happens = inl comes.1 })
writes Later now old new slot before after p is comes = inr (record { kept = is; happens = inr comes.1 })
writes Again now old new slot before after p is comes = inr (record { kept = is; happens = inr comes.1 })
writes Fault now old new slot before after p is comes = inr (record { kept = is; happens = inl comes.1 })

pub drains : (t : Transfer) (buffer : List ℕ) (old new : Slab Connection) (slot : ℕ) (before after : Option (List ℕ)) (p : Progress)
    → IsRead t before after buffer → ComesOfDrain t old new slot p
    → LetsGo old new before after ⊎ TakesNone old new slot before after
drains (Bytes count) buffer old new slot before after p is comes = inl (record { bytes = take count buffer; read = is; same = comes.1 })
drains End buffer old new slot before after p is comes = inr (record { kept = is.0; happens = inl comes.1 })
drains Later buffer old new slot before after p is comes = inr (record { kept = is; happens = inr (inr comes.1) })
drains Again buffer old new slot before after p is comes = inr (record { kept = is; happens = inr (inr comes.1) })
drains Fault buffer old new slot before after p is comes = inr (record { kept = is; happens = inr (inl comes.1) })
