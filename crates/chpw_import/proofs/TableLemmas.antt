-- A table that takes the entries in turn.
use Rattle.std.proofs.Common.{◌≡◌, ◌∙◌, ap, refl, subst, ℕ, ◌+◌, ◌-◌, ◌≤◌, max, List, [], ◌∷◌, length, take, drop, get_or, Option, Some, None, arith}
use Rattle.std.proofs.lemmas.Grind.{common_steps}
use Rattle.std.specs.BTreeMap.{get}
use Rattle.std.specs.List.{AllByRecursion}
use Rattle.krb_keytab.specs.declared.entry.KeytabEntry.{KeytabEntry}
use Rattle.chpw_rules.specs.declared.name.Name.{Name}
use Rattle.chpw_import.specs.Entries.{named}
use Rattle.chpw_import.specs.declared.slot.Slot.{Slot}
use Rattle.chpw_import.specs.declared.slot.Found.{Found}
use Rattle.chpw_import.specs.declared.table.Table.{Table}
use Rattle.chpw_import.specs.Tables.{last_of_two, slot_cmp, found_in, latest, newest, newest_at, version_of, HasKvno, HoldsBefore, Takes}

last_of_three : (a b d : Option Found) → last_of_two (last_of_two a b) d ≡ last_of_two a (last_of_two b d)
last_of_three a b None = refl
last_of_three None None (Some z) = refl
last_of_three (Some x) None (Some z) = refl
last_of_three None (Some y) (Some z) = grind arith
last_of_three (Some x) (Some y) (Some z) = grind arith

one_more : (realm : List ℕ) (index : ℕ) (e : KeytabEntry) (rest es : List KeytabEntry) (t u : Table)
    → HoldsBefore realm index (e ∷ rest) es t → Takes realm index e t u → HoldsBefore realm (index + 1) rest es u
one_more realm index e rest es t u before step = record {
  found = λ (s : Slot). ap (λ (a : Option Found). last_of_two a (latest realm s (index + 1) rest)) (step.found s)
      ∙ (last_of_three (get slot_cmp t.found s) (found_in realm s index e) (latest realm s (index + 1) rest) ∙ before.found s);
  newest = λ (n : Name). ap (λ (k : ℕ). max k (newest realm n rest)) (step.newest n)
      ∙ (higher (newest_at t.newest n) (version_of n e (named realm e)) (newest realm n rest) ∙ before.newest n);
}
  where
    higher : (a b d : ℕ) → max (max a b) d ≡ max a (max b d)
    higher a b d = omega arith

pub behind : {A : Type 0} (x : A) (xs : List A) → take (length (x ∷ xs) - 1) (drop 1 (x ∷ xs)) ≡ xs
behind x xs = grind (arith, common_steps)

pub goes_on : (realm : List ℕ) (rest es : List KeytabEntry) (e : KeytabEntry) (t u : Table)
    → HoldsBefore realm (length es - length rest) rest es t × (length rest ≤ length es) × (AllByRecursion HasKvno rest → AllByRecursion HasKvno es)
    → 1 ≤ length rest → e ≡ get_or rest 0 e → Takes realm (length es - length rest) e t u → HasKvno e
    → let others : List KeytabEntry = take (length rest - 1) (drop 1 rest) in
    HoldsBefore realm (length es - length others) others es u × (length others ≤ length es) × (AllByRecursion HasKvno others → AllByRecursion HasKvno es)
goes_on realm [] es e t u before some is step has = absurd (omega arith)
goes_on realm (x ∷ xs) es e t u before some is step has = rw (behind x xs) (
  subst (λ (i : ℕ). HoldsBefore realm i xs es u) next (one_more realm _ x xs es t u before.0
      (subst (λ (y : KeytabEntry). Takes realm (length es - length (x ∷ xs)) y t u) is step)),
  omega (arith, before.1),
  λ others. before.2 (subst HasKvno is has, others),
)
  where
    next : length es - length (x ∷ xs) + 1 ≡ length es - length xs
    next = omega (arith, before.1)
