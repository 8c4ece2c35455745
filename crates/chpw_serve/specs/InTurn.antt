-- Calls in order.
use Rattle.std.specs.Prelude.{◌≡◌, List, [], ◌∷◌}

-- from the state s a call for each of these, in order, led to t; `does` says what one call does
abbrev pub InTurn : {S A : Type 0} → (S → A → S → Type 0) → S → List A → S → Type 0
InTurn does s [] t = s ≡ t
InTurn {S} does s (x ∷ xs) t = (m : S) × does s x m × InTurn does m xs t
