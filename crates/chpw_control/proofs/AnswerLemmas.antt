-- Lines that are put one behind the other.
use Rattle.std.proofs.Common.{◌≡◌, ℕ, List, [], ◌∷◌, ◌++◌, Result, Ok, Err, OnOk, codes, refl, sym, ◌∙◌, ap, append_assoc}
use Rattle.chpw_control.specs.Answers.{lines_text}
use Rattle.chpw_control.specs.Statuses.{row}

pub lines_append : (lines more : List (List ℕ)) → lines_text (lines ++ more) ≡ lines_text lines ++ lines_text more
lines_append [] more = refl
lines_append (line ∷ lines) more =
    ap (λ (xs : List ℕ). line ++ 10 ∷ xs) (lines_append lines more) ∙ sym (append_assoc line (10 ∷ lines_text lines) (lines_text more))

-- further lines behind those that were put
pub further : (old front back : List ℕ) (lines more : List (List ℕ)) → front ≡ old ++ lines_text lines → back ≡ front ++ lines_text more
    → back ≡ old ++ lines_text (lines ++ more)
further old front back lines more is then =
    then ∙ ap (λ (xs : List ℕ). xs ++ lines_text more) is ∙ append_assoc old (lines_text lines) (lines_text more)
    ∙ ap (λ (xs : List ℕ). old ++ xs) (sym (lines_append lines more))

-- the last of them, where they could be put
pub at_last : {E : Type 0} (result : Result Unit E) (old front back : List ℕ) (lines more : List (List ℕ)) → front ≡ old ++ lines_text lines
    → OnOk result (back ≡ front ++ lines_text more) → OnOk result (back ≡ old ++ lines_text (lines ++ more))
at_last (Ok done) old front back lines more is then = further old front back lines more is then
at_last (Err fault) old front back lines more is then = then
