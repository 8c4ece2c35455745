-- The elements of a list, read one after the other by a loop.
use Rattle.std.proofs.Common.{◌≡◌, ◌∙◌, ℕ, ◌+◌, ◌<◌, ◌≤◌, List, [], ◌∷◌, ◌++◌, length, get_or, drop, Result, Ok, Err, add-one, drop-cons, refl}
use Rattle.std.proofs.lemmas.List.{drop_all}
use Rattle.toml.specs.Data.{Data}
use Rattle.toml.specs.View.{items_view, view}
use Rattle.toml.specs.declared.value.Value.{Value}
use Rattle.chpw_config.specs.declared.fault.ConfigError.{ConfigError}
use Rattle.chpw_config.specs.declared.fault.ConfigError.TheVariants.{Fault, Memory}
use Rattle.chpw_config.specs.declared.fault.ConfigFault.{ConfigFault}
use Rattle.chpw_config.specs.Faults.{UnlessMemory}
use Rattle.chpw_config.specs.Rows.{walk}

-- with these read before, the elements to come decide
abbrev pub Walked : {A : Type 0} → (List A → Data → Result A ConfigFault) → List Value → List A → ℕ → Type 0
Walked read list before i = walk read [] (items_view list) ≡ walk read before (items_view (drop i list))

pub walked_more : {A : Type 0} (read : List A → Data → Result A ConfigFault) (list : List Value) (before : List A) (i : ℕ) (v : Value) (a : A)
    → Walked read list before i → i < length list → read before (view (get_or list i v)) ≡ Ok a
    → Walked read list (before ++ a ∷ []) (i + 1)
walked_more read list before i v a so_far inside same = so_far ∙ rw (add-one, drop-cons list i v, same) refl

pub walked_all : {A : Type 0} (read : List A → Data → Result A ConfigFault) (list : List Value) (before : List A) (i : ℕ)
    → Walked read list before i → length list ≤ i → walk read [] (items_view list) ≡ Ok before
walked_all read list before i so_far past = so_far ∙ rw (drop_all i list past) refl

pub walked_to_fault : {A : Type 0} (read : List A → Data → Result A ConfigFault) (list : List Value) (before : List A) (i : ℕ) (v : Value) (e : ConfigError)
    → Walked read list before i → i < length list → UnlessMemory (Err e) (read before (view (get_or list i v)))
    → UnlessMemory {A = List A} (Err e) (walk read [] (items_view list))
walked_to_fault read list before i v (Fault fault) so_far inside same = so_far ∙ rw (drop-cons list i v, same) refl
walked_to_fault read list before i v Memory so_far inside same = tt
