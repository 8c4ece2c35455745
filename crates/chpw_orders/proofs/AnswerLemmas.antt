-- The text of an answer.
use Rattle.std.proofs.Common.{◌≡◌, ◌⊎◌, inl, inr, ◌∙◌, ap, sym, ℕ, List, [], ◌∷◌, ◌++◌, map, Result, Ok, Err, IfOk, OnErr}
use Rattle.chpw_control.specs.Answers.{lines_text, ok_line}
use Rattle.chpw_control.proofs.AnswerLemmas.{lines_append}
use Rattle.chpw_rules.specs.declared.name.Name.{Name}
use Rattle.chpw_warnings.specs.declared.warning.Warning.{Warning}
use Rattle.chpw_orders.specs.Answers.{lacked_line, reloaded_lines, warning_line}

-- an answer with this text, or an empty one if memory was refused
pub text_or_empty : {T E : Type 0} (items : T → List ℕ) (answer : Result T E) (text given : List ℕ)
    → IfOk answer (λ t. items t ≡ text) → IfOk answer (λ t. given ≡ items t) → OnErr answer (given ≡ [])
    → (given ≡ []) ⊎ (given ≡ text)
text_or_empty items (Ok t) text given is same empty = inr (same ∙ is)
text_or_empty items (Err e) text given is same empty = inl empty

-- the lines of warnings, then those of names, and `ok`
pub reloaded_text : (warnings : List Warning) (lacked : List Name) (start warned named all : List ℕ) → start ≡ []
    → warned ≡ start ++ lines_text (map warning_line warnings) → named ≡ warned ++ lines_text (map lacked_line lacked)
    → all ≡ named ++ lines_text (ok_line ∷ []) → all ≡ lines_text (reloaded_lines warnings lacked)
reloaded_text warnings lacked start warned named all empty begun f g =
    let e : warned ≡ lines_text (map warning_line warnings)
    = begun ∙ ap (λ (xs : List ℕ). xs ++ lines_text (map warning_line warnings)) empty in
    let w : List (List ℕ) = map warning_line warnings in
    let l : List (List ℕ) = map lacked_line lacked in
    let here : all ≡ (lines_text w ++ lines_text l) ++ lines_text (ok_line ∷ [])
    = g ∙ (ap (λ (xs : List ℕ). xs ++ lines_text (ok_line ∷ [])) f
    ∙ ap (λ (xs : List ℕ). (xs ++ lines_text l) ++ lines_text (ok_line ∷ [])) e) in
    here ∙ (ap (λ (xs : List ℕ). xs ++ lines_text (ok_line ∷ [])) (sym (lines_append w l)) ∙ sym (lines_append (w ++ l) (ok_line ∷ [])))
