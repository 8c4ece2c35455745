-- UTF-8 as a test, and the text of an answer.
use Rattle.std.proofs.Common.{◌≡◌, ℕ, List, Bool, true, false, not, Option, Some, None, Ok, Err, refl, subst, MatchResult, bytes_eq, codes}
use Rattle.std.proofs.lemmas.Str.{IsUtf8-from_is_utf8, is_utf8-from_IsUtf8}
use Rattle.std.specs.Prelude.{Result, if◌then◌else◌}
use Rattle.std.specs.Option.{option_map}
use Rattle.std.specs.Result.{result_ok}
use Rattle.std.specs.Borrow.{Bor}
use Rattle.std.specs.Str.{IsUtf8, is_utf8}
use Rattle.chpw_kdc.specs.declared.answer.Answer.{Answer}
use Rattle.chpw_kdc.specs.declared.answer.Answer.TheVariants as answer
use Rattle.chpw_kdc.specs.declared.fault.LineFault.{LineFault}
use Rattle.chpw_kdc.specs.declared.fault.LineFault.TheVariants as fault
use Rattle.chpw_kdc.specs.Faults.{ReadUnlessMemory}
use Rattle.chpw_kdc.specs.Lines.{answer_of, answer_from, longer_of, first_word}

false_unless : (b : Bool) → ¬ (b ≡ true) → b ≡ false
false_unless true h = absurd (h refl)
false_unless false h = refl

-- what `from_utf8` gives
pub text_gives : {E : Type 0} (Q : E → Type 0) (bs : List ℕ) (r : Result (Bor (List ℕ)) E) →
    MatchResult r (λ s. (s.now ≡ bs) × IsUtf8 bs) (λ e. ¬ (IsUtf8 bs) × Q e) →
    option_map (λ t. t.now) (result_ok r) ≡ (if is_utf8 bs then Some bs else None)
text_gives Q bs (Ok s) h = rw (is_utf8-from_IsUtf8 bs h.1, h.0) refl
text_gives Q bs (Err e) h = rw (false_unless (is_utf8 bs) (λ e. h.0 (IsUtf8-from_is_utf8 bs e))) refl

-- ---- an answer of more than a word

behind_text : (u : Bool) (line text : List ℕ) (r : Result Answer LineFault) (parts : List ℕ × List ℕ)
    → Some text ≡ (if u then Some line else None) → bytes_eq text (codes "changed") ≡ false → Some parts ≡ first_word text
    → ReadUnlessMemory r (longer_of parts.0 parts.1)
    → ReadUnlessMemory r (if not u then Err fault.NotText else if bytes_eq line (codes "changed") then Ok answer.Changed else answer_from (first_word line))
behind_text true line text r parts is other word h =
    let same : text ≡ line = cc in
    subst (λ (l : List ℕ). ReadUnlessMemory r (if bytes_eq l (codes "changed") then Ok answer.Changed else answer_from (first_word l))) same
    (rw other (subst (λ (o : Option (List ℕ × List ℕ)). ReadUnlessMemory r (answer_from o)) word h))
behind_text false line text r parts is other word h = absurd cc

pub read_longer : (line text : List ℕ) (r : Result Answer LineFault) (parts : List ℕ × List ℕ)
    → Some text ≡ (if is_utf8 line then Some line else None) → bytes_eq text (codes "changed") ≡ false → Some parts ≡ first_word text
    → ReadUnlessMemory r (longer_of parts.0 parts.1) → ReadUnlessMemory r (answer_of line)
read_longer line text r parts is other word h = behind_text (is_utf8 line) line text r parts is other word h
