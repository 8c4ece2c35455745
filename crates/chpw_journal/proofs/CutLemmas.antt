-- Records that are cut off.
use Rattle.std.proofs.Common.{◌≡◌, ℕ, ◌+◌, ◌<◌, List, ◌++◌, length, true, refl, ◌∙◌, ap, arith, length-append}
use Rattle.std.specs.Prelude.{nat_lt}
use Rattle.std.proofs.Math.Bool.{or-true}
use Rattle.std.proofs.lemmas.Bool.Decides.{nat_tests}
use Rattle.std.proofs.lemmas.Nat.{from_be_bytes-to_be_bytes_2}
use Rattle.chpw_table.proofs.BoolLemmas.{both}
use Rattle.chpw_record.specs.Records.{stated_length, is_record_length}
use Rattle.chpw_record.proofs.LengthLemmas.{length_short}
use Rattle.chpw_journal.specs.JournalText.{is_cut_off}
use Rattle.chpw_journal.specs.NextRecord.{IsHeader}

below : (m n : ℕ) → m < n → nat_lt m n ≡ true
below m n h = grind (arith, nat_tests)

-- the length that a header states
pub header_states : (header : List ℕ) (n : ℕ) (more : List ℕ) → IsHeader header n → stated_length (header ++ more) ≡ n
header_states header n more h =
    ap (λ (xs : List ℕ). stated_length (xs ++ more)) h.0 ∙ from_be_bytes-to_be_bytes_2 n (length_short n h.1)

pub header_length : (header : List ℕ) (n : ℕ) → IsHeader header n → length header ≡ 2
header_length header n h = ap length h.0

-- a record of which not all is there
pub cut_off_body : (header : List ℕ) (n : ℕ) (rest : List ℕ) → IsHeader header n → length rest < n → is_cut_off (header ++ rest) ≡ true
cut_off_body header n rest h l =
    let st : stated_length (header ++ rest) ≡ n = header_states header n rest h in
    let sz : length (header ++ rest) ≡ 2 + length rest = length-append header rest ∙ ap (λ (k : ℕ). k + length rest) (header_length header n h) in
    let inside : is_record_length (stated_length (header ++ rest)) ≡ true = ap is_record_length st ∙ h.1 in
    rw (both inside (below (length (header ++ rest)) (2 + stated_length (header ++ rest)) (omega (arith, st, sz, l))))
    (or-true (nat_lt (length (header ++ rest)) 2))

pub cut_off_header : (header : List ℕ) → length header < 2 → is_cut_off header ≡ true
cut_off_header header h = rw (below (length header) 2 h) refl
