-- UTF-8 as a test.
use Rattle.std.proofs.Common.{◌≡◌, ℕ, List, Bool, true, false, Option, Some, None, Ok, Err, refl, rules, MatchResult}
use Rattle.std.proofs.lemmas.Str.{IsUtf8-from_is_utf8, is_utf8-from_IsUtf8}
use Rattle.std.specs.Prelude.{Result}
use Rattle.std.specs.Option.{option_map}
use Rattle.std.specs.Result.{result_ok}
use Rattle.std.specs.Borrow.{Bor}
use Rattle.std.specs.Str.{IsUtf8, is_utf8}
use Rattle.chpw_commands.specs.Words.{keep_if}

false_unless : (b : Bool) → ¬ (b ≡ true) → b ≡ false
false_unless true h = absurd (h refl)
false_unless false h = refl

pub utf8_no : (bs : List ℕ) → ¬ (IsUtf8 bs) → is_utf8 bs ≡ false
utf8_no bs h = false_unless (is_utf8 bs) (λ e. h (IsUtf8-from_is_utf8 bs e))

pub utf8_yes : (bs : List ℕ) → IsUtf8 bs → is_utf8 bs ≡ true
utf8_yes bs h = is_utf8-from_IsUtf8 bs h

-- what `from_utf8` gives
pub text_gives : {E : Type 0} (Q : E → Type 0) (bs : List ℕ) (r : Result (Bor (List ℕ)) E) →
    MatchResult r (λ s. (s.now ≡ bs) × IsUtf8 bs) (λ e. ¬ (IsUtf8 bs) × Q e) →
    option_map (λ t. t.now) (result_ok r) ≡ keep_if (is_utf8 bs) bs
text_gives Q bs (Ok s) h = rw (utf8_yes bs h.1, h.0) refl
text_gives Q bs (Err e) h = rw (utf8_no bs h.0) refl
