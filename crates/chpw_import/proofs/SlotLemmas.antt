-- Names and slots: those that compare as equal are.
use Rattle.std.proofs.Common.{◌≡◌, ◌∙◌, sym, ap, refl, subst, ℕ, ◌<◌, ◌≤◌, max, Bool, true, false, Option, Some, None, if◌then◌else◌, cond, arith}
use Rattle.std.specs.Cmp.{IsTotalOrder}
use Rattle.std.specs.Cmp.Lexicographic.{slice_cmp, lists_ties, lists_total, nat_list_cmp_total, texts_ties}
use Rattle.std.proofs.lemmas.Cmp.{on_total}
use Rattle.std.specs.declared.cmp.Ordering.{Ordering}
use Rattle.std.specs.declared.cmp.Ordering.TheVariants.{Less, Equal, Greater}
use Rattle.std.specs.Ordering.{int_cmp, nat_cmp, ordering_then, eq_by_cmp, is_eq}
use Rattle.std.proofs.lemmas.Map.Lookups.{exact_signed, exact_unsigned}
use Rattle.std.specs.Option.{unwrap_or}
use Rattle.chpw_rules.specs.declared.name.Name.{Name}
use Rattle.chpw_rules.specs.Names.{is_same_name, name_cmp, name_from}
use Rattle.chpw_rules.proofs.NameLemmas.{is_same_name-Decides}
use Rattle.chpw_import.specs.declared.slot.Slot.{Slot}
use Rattle.chpw_import.specs.declared.slot.Found.{Found}
use Rattle.chpw_import.specs.Rows.{slot_at}
use Rattle.chpw_import.specs.Tables.{is_older, last_of_two, slot_cmp}

pub name_exact : (a b : Name) → is_same_name a b ≡ true → a ≡ b
name_exact a b h = ap name_from ((is_same_name-Decides a b).0 h)

pub ties : (a b : Name) → eq_by_cmp name_cmp a b ≡ is_same_name a b
ties a b = sym (lists_ties (slice_cmp nat_cmp) texts_ties a.parts b.parts)

pub names_total : IsTotalOrder name_cmp
names_total = on_total (λ (n : Name). n.parts) (lists_total nat_list_cmp_total)

-- a newest version that is raised
pub raised : (f g : Name → Option ℕ) (name : Name) (kvno : ℕ)
    → ((n : Name) → g n ≡ cond (eq_by_cmp name_cmp name n) (Some kvno) (f n)) → unwrap_or (f name) 0 < kvno
    → (n : Name) → unwrap_or (g n) 0 ≡ max (unwrap_or (f n) 0) (if is_same_name name n then kvno else 0)
raised f g name kvno puts low n = at (is_same_name name n) refl
  where
    at : (b : Bool) → is_same_name name n ≡ b → unwrap_or (g n) 0 ≡ max (unwrap_or (f n) 0) (if b then kvno else 0)
    at true e = let same : name ≡ n = name_exact name n e in
        let here : unwrap_or (f n) 0 < kvno = subst (λ (m : Name). unwrap_or (f m) 0 < kvno) same low in
        rw (puts n, ties name n, e) (omega arith)
    at false e = rw (puts n, ties name n, e) (omega arith)

-- one that needn't be
pub kept : (f : Name → Option ℕ) (name : Name) (kvno : ℕ) → kvno ≤ unwrap_or (f name) 0
    → (n : Name) → unwrap_or (f n) 0 ≡ max (unwrap_or (f n) 0) (if is_same_name name n then kvno else 0)
kept f name kvno high n = at (is_same_name name n) refl
  where
    at : (b : Bool) → is_same_name name n ≡ b → unwrap_or (f n) 0 ≡ max (unwrap_or (f n) 0) (if b then kvno else 0)
    at true e = let same : name ≡ n = name_exact name n e in
        let here : kvno ≤ unwrap_or (f n) 0 = subst (λ (m : Name). kvno ≤ unwrap_or (f m) 0) same high in
        omega arith
    at false e = omega arith

-- ---- slots

is_Equal : (r : Ordering) → is_eq r ≡ true → r ≡ Equal
is_Equal Less h = cc
is_Equal Equal h = refl
is_Equal Greater h = cc

both_equal : (r s : Ordering) → is_eq (ordering_then r s) ≡ true → (is_eq r ≡ true) × (is_eq s ≡ true)
both_equal Less s h = (h, absurd (cc))
both_equal Equal s h = (refl, h)
both_equal Greater s h = (h, absurd (cc))

pub slot_exact : (a b : Slot) → eq_by_cmp slot_cmp a b ≡ true → a ≡ b
slot_exact a b h =
    let first = both_equal (name_cmp a.name b.name) _ h in
    let others = both_equal (nat_cmp b.kvno.0 a.kvno.0) (int_cmp b.etype.0 a.etype.0) first.1 in
    let names : a.name ≡ b.name = name_exact a.name b.name (sym (ties a.name b.name) ∙ first.0) in
    let kvnos : b.kvno.0 ≡ a.kvno.0 = exact_unsigned b.kvno.0 a.kvno.0 (is_Equal _ others.0) in
    let etypes : b.etype.0 ≡ a.etype.0 = exact_signed b.etype.0 a.etype.0 (is_Equal _ others.1) in
    same names kvnos etypes
  where
    same : a.name ≡ b.name → b.kvno.0 ≡ a.kvno.0 → b.etype.0 ≡ a.etype.0 → slot_at a.name a.kvno.0 a.etype.0 ≡ slot_at b.name b.kvno.0 b.etype.0
    same n k e = rw (n, k, e) refl

-- a key that is put to its slot
pub put_there : (f g : Slot → Option Found) (slot : Slot) (next : Found)
    → ((s : Slot) → g s ≡ cond (eq_by_cmp slot_cmp slot s) (Some next) (f s)) → is_older (f slot) next ≡ false
    → (s : Slot) → g s ≡ last_of_two (f s) (if eq_by_cmp slot_cmp slot s then Some next else None)
put_there f g slot next puts newer s = at (eq_by_cmp slot_cmp slot s) refl
  where
    at : (b : Bool) → eq_by_cmp slot_cmp slot s ≡ b → g s ≡ last_of_two (f s) (if b then Some next else None)
    at true e =
        let here : is_older (f s) next ≡ false = subst (λ (t : Slot). is_older (f t) next ≡ false) (slot_exact slot s e) newer in
        rw (puts s, e, here) refl
    at false e = rw (puts s, e) refl

-- one that isn't
pub not_put : (f : Slot → Option Found) (slot : Slot) (next : Found) → is_older (f slot) next ≡ true
    → (s : Slot) → f s ≡ last_of_two (f s) (if eq_by_cmp slot_cmp slot s then Some next else None)
not_put f slot next older s = at (eq_by_cmp slot_cmp slot s) refl
  where
    at : (b : Bool) → eq_by_cmp slot_cmp slot s ≡ b → f s ≡ last_of_two (f s) (if b then Some next else None)
    at true e =
        let here : is_older (f s) next ≡ true = subst (λ (t : Slot). is_older (f t) next ≡ true) (slot_exact slot s e) older in
        rw here refl
    at false e = refl
