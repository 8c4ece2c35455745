-- Checks in order, of which the first that fails determines the answer. Each takes the checks after it as its last
-- argument but one, and the answer as its last.
use Rattle.std.specs.Prelude.{◌≡◌, Result, Ok, Err}

-- a fact holds, and the checks after it determine the answer; or it doesn't hold, and the answer is the fault
pub data Held {X F : Type 0} (fact : Type 0) (fault : F) (next : Result X F → Type 0)
    (answer : Result X F) : Type 0 where
  met : fact → next answer → Held fact fault next answer
  unmet : (fact → ⊥) → answer ≡ Err fault → Held fact fault next answer

-- a fact holds of a value, with which the checks go on; or of no value, and the answer is the fault
pub data Found {A X F : Type 0} (fact : A → Type 0) (fault : F) (next : A → Result X F → Type 0)
    (answer : Result X F) : Type 0 where
  of_one : (v : A) → fact v → next v answer → Found fact fault next answer
  of_none : ((v : A) → fact v → ⊥) → answer ≡ Err fault → Found fact fault next answer

-- the first checks pass with a value, with which the others go on; or the answer is their fault
pub data Then {A X F : Type 0} (first : Result A F → Type 0) (next : A → Result X F → Type 0)
    (answer : Result X F) : Type 0 where
  goes_on : (v : A) → first (Ok v) → next v answer → Then first next answer
  stops : (fault : F) → first (Err fault) → answer ≡ Err fault → Then first next answer

-- all checks passed, with a value
abbrev pub Passed : {X F : Type 0} → X → Result X F → Type 0
Passed value answer = answer ≡ Ok value
