-- Names that are walked through one after the other.
use Rattle.std.proofs.Common.{◌≡◌, ℕ, zero, suc, List, [], ◌∷◌, map, take, All, Bool, true, false, Some, None, refl, subst, arith}
use Rattle.std.specs.Prelude.{slice_get}
use Rattle.chpw_rules.specs.declared.name.Name.{Name}
use Rattle.chpw_rules.specs.Names.{is_same_name}
use Rattle.chpw_record.specs.declared.key.KeyRow.{KeyRow}
use Rattle.chpw_table.specs.declared.table.Principal.{Principal}
use Rattle.chpw_table.specs.State.{State}
use Rattle.chpw_table.proofs.KeyLemmas.{keys_in}
use Rattle.chpw_table.proofs.NameLemmas.{is_same_name-Decides}
use Rattle.chpw_report.specs.Configurations.{names_of}
use Rattle.chpw_journal.proofs.ListLemmas.{take_whole}
use Rattle.chpw_reload.specs.Comparing.{HoldAlike}

-- what holds of one holds of each of one
pub all_of_one : {A : Type 0} (P : A → Type 0) (a : A) → P a → All P (a ∷ [])
all_of_one P a h zero d few = h
all_of_one P a h (suc k) d few = absurd (omega (arith, few))

-- what holds of each name that stands in a list of principals holds of one that has keys there
pub each_name : (P : Name → Type 0) (ps : List Principal) → All P (map (λ (p : Principal). p.name) ps)
    → (name : Name) (keys : List KeyRow) → keys_in ps name ≡ Some keys → P name
each_name P [] all name keys h = absurd (cc)
each_name P (p ∷ ps) all name keys h = at (each_name P ps (λ k d h. all (suc k) d (omega (arith, h))) name keys) (is_same_name p.name name) refl
  where
    at : (keys_in ps name ≡ Some keys → P name) → (b : Bool) → is_same_name p.name name ≡ b → P name
    at rest true e = subst P ((is_same_name-Decides p.name name).0 e) (all 0 name (omega arith))
    at rest false e = rest (rw e at h)

-- no name that the first has is held otherwise by the second
pub all_alike : (s t : State) (place : ℕ) → slice_get (names_of s) place ≡ None
    → All (λ (name : Name). HoldAlike s t name) (take place (names_of s)) → (name : Name) → HoldAlike s t name
all_alike s t place h all name keys others held other =
    each_name (λ (name : Name). HoldAlike s t name) s.principals
    (subst (All (λ (name : Name). HoldAlike s t name)) (take_whole (names_of s) place h).1 all) name keys held keys others held other
