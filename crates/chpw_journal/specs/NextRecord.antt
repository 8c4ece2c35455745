-- For proofs alone: what was read of a journal.
use Rattle.std.specs.Prelude.{◌≡◌, ℕ, ◌≤◌, ◌<◌, List, [], length, true, Option}
use Rattle.std.specs.Int.{to_be_bytes, w16}
use Rattle.std.specs.Io.KnownBytes.{Consumes, IsAtEnd}
use Rattle.chpw_journal.specs.declared.reading.Next.{Next}
use Rattle.chpw_journal.specs.declared.reading.Next.TheVariants as next
use Rattle.chpw_record.specs.Records.{framed, is_record_length}
use Rattle.chpw_journal.specs.JournalText.{is_cut_off, HasBadLength}

-- the two bytes of a length that a record may have
abbrev pub IsHeader : List ℕ → ℕ → Type 0
IsHeader header n = (header ≡ to_be_bytes w16 n) × (is_record_length n ≡ true)

-- known bytes begin with what was read, and lose it
abbrev pub IsNext : Next → Option (List ℕ) → Option (List ℕ) → Type 0
IsNext (next.Record body) old new = Consumes old new (framed body.items) × (is_record_length (length body.items) ≡ true)
IsNext next.BadLength old new = (header : List ℕ) × Consumes old new header × HasBadLength header
IsNext next.Ended old new = Consumes old new [] × IsAtEnd new
IsNext next.Torn old new = (rest : List ℕ) × Consumes old new rest × IsAtEnd new × (is_cut_off rest ≡ true) × (1 ≤ length rest)
IsNext next.CannotRead old new = (rest : List ℕ) × Consumes old new rest × (is_cut_off rest ≡ true)

-- what was read, if a length was read before
abbrev pub IsBody : ℕ → Next → Option (List ℕ) → Option (List ℕ) → Type 0
IsBody n found old new = (before : Option (List ℕ)) (header : List ℕ) → IsHeader header n → Consumes before old header → IsNext found before new

-- a record took at least one read
abbrev pub CountsDown : Next → ℕ → ℕ → Type 0
CountsDown (next.Record body) old new = new < old
CountsDown next.BadLength old new = new ≤ old
CountsDown next.Ended old new = new ≤ old
CountsDown next.Torn old new = new ≤ old
CountsDown next.CannotRead old new = new ≤ old
