-- A journal's file, read through a buffer.
use Rattle.std.proofs.Common.{◌≡◌, ℕ, List, [], Option, None, Some, refl}
use Rattle.std.specs.Io.Buffered.{reader_buffer, reader_capacity, reader_inner, reader_remaining}
use Rattle.std.specs.Io.KnownBytes.{prepend_known}
use Rattle.std.specs.declared.io.buffered.BufReader.{BufReader}

nothing_before : (known : Option (List ℕ)) → prepend_known [] known ≡ known
nothing_before None = refl
nothing_before (Some xs) = refl

-- a buffer that nothing was read into has what its reader has
pub unread : {T A : Type 0} (remaining : T → Option (List ℕ)) (r : BufReader T A) (file : T) → reader_inner r ≡ file
    → reader_buffer r ≡ [] → reader_capacity r ≡ 8192 → reader_remaining remaining r ≡ remaining file
unread remaining r file inner empty capacity = rw (capacity, empty, inner) (nothing_before (remaining file))
