-- The text of a resume file, format 1: a line, blocks, and at the end the SHA-1 (FIPS 180-4) of all that, 20 bytes. A block stands
-- after its length, four bytes. Numbers are high byte first, times as two's complement in 8 bytes.
use Rattle.std.specs.Prelude.{◌≡◌, ◌≢◌, ℕ, ℤ, List, ◌∷◌, ◌++◌, length, map, codes, Option, Result, Ok, Err, MatchOption}
use Rattle.std.specs.Int.{to_be_bytes, cast_unsigned, w32, w64}
use Rattle.std.specs.List.{AllByRecursion}
use Rattle.sha1.specs.Sha1.{sha1}
use Rattle.chpw_blocks.specs.Blocks.{joined, AreShort, IsShort}
use Rattle.chpw_table.specs.declared.request.RequestId.{RequestId}
use Rattle.chpw_resume.specs.declared.mark.JournalMark.{JournalMark}
use Rattle.chpw_resume.specs.declared.reading.ResumeFault.{ResumeFault}
use Rattle.chpw_resume.specs.declared.reading.State.{State}
use Rattle.chpw_resume.specs.declared.resume.Resume.{Resume}

abbrev pub header : List ℕ
header = codes "boddrelyn resume 1\n"

abbrev pub time_bytes : ℤ → List ℕ
time_bytes time = to_be_bytes w64 (cast_unsigned w64 time)

-- the second block: the journal's length, 8 bytes, the sum over its end, 20, the clock, and until when it is quiet
abbrev pub state_bytes : JournalMark → ℤ → ℤ → List ℕ
state_bytes mark clock quiet_until = to_be_bytes w64 mark.length ++ (mark.sum ++ (time_bytes clock ++ time_bytes quiet_until))

abbrev pub state_text : Resume → List ℕ
state_text r = state_bytes r.journal r.carried.clock r.carried.quiet_until

-- the first block of an id: ctime, and cusec, 4 bytes
abbrev pub times_bytes : ℤ → ℕ → List ℕ
times_bytes ctime cusec = time_bytes ctime ++ to_be_bytes w32 cusec

-- an id: its times, the client's realm, and the components of its name, a block each
abbrev pub id_text : RequestId → List ℕ
id_text id = joined (times_bytes id.ctime id.cusec ∷ id.crealm ∷ id.client.parts)

-- the realm, the numbers, and the used ids, a block each
abbrev pub blocks_of : Resume → List (List ℕ)
blocks_of r = r.realm ∷ state_text r ∷ map id_text r.carried.ids

abbrev pub body_of : Resume → List ℕ
body_of r = header ++ joined (blocks_of r)

abbrev pub resume_text : Resume → List ℕ
resume_text r = body_of r ++ sha1 (body_of r)

-- the mark of a journal of this length with this end
abbrev pub mark_of : ℕ → List ℕ → JournalMark
mark_of length end = record { length = length; sum = sha1 end }

-- ---- within the limits

abbrev pub IdFits : RequestId → Type 0
IdFits id = AreShort (id.crealm ∷ id.client.parts) × IsShort (id_text id)

pub record ResumeFits (r : Resume) : Type 0 where
  pub realm : IsShort r.realm
  pub sum : length r.journal.sum ≡ 20
  pub ids : AllByRecursion IdFits r.carried.ids

-- ---- what is read

-- what fits and is so, or none where nothing is
abbrev pub IsOfResume : (Resume → Type 0) → Option Resume → Type 0
IsOfResume IsSo found = MatchOption found ((r : Resume) → ResumeFits r → IsSo r → ⊥) (λ (r : Resume). ResumeFits r × IsSo r)

-- the numbers of a second block
abbrev pub IsOfState : List ℕ → Option State → Type 0
IsOfState bytes found = MatchOption found
    ((mark : JournalMark) (clock quiet_until : ℤ) → length mark.sum ≡ 20 → bytes ≢ state_bytes mark clock quiet_until)
    (λ (s : State). (length s.journal.sum ≡ 20) × (bytes ≡ state_bytes s.journal s.clock s.quiet_until))

-- a text is read as what it was written of, and has a fault where it was written of nothing
abbrev pub IsReadAs : List ℕ → Result Resume ResumeFault → Type 0
IsReadAs text (Ok r) = ResumeFits r × (text ≡ resume_text r)
IsReadAs text (Err fault) = (r : Resume) → ResumeFits r → text ≢ resume_text r
