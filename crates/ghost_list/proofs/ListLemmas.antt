-- The list of a pen, along longer logs.
use Rattle.std.proofs.Common.{◌≡◌, ℕ, ◌==◌, Bool, true, false, List, [], ◌∷◌, ◌++◌, if◌then◌else◌}
use Rattle.std.proofs.Common.{refl, ap, sym, ◌∙◌, subst, arith, append_assoc, append-nil}
use Rattle.std.proofs.lemmas.Bool.Decides.{nat_tests}
use mathlib.Core.List.{IsPrefix}
use Rattle.ghost_list.specs.declared.line.Line.{Line}
use Rattle.ghost_list.specs.Pens.{line_of, value_in, written_by, pen_after, IsUnspent}
use Rattle.ghost_list.specs.Rules.{IsAdded}

written_step : {E : Type 0} (b : Bool) (x a1 a0 r1 r0 : List E) (p1 p0 : ℕ) (ys : List (Line E))
    → a1 ≡ r1 ++ written_by p1 ys → a0 ≡ r0 ++ written_by p0 ys
    → (if b then x ++ a1 else a0) ≡ (if b then x ++ r1 else r0) ++ written_by (if b then p1 else p0) ys
written_step true x a1 a0 r1 r0 p1 p0 ys h1 h0 = ap (λ w. x ++ w) h1 ∙ sym (append_assoc x r1 (written_by p1 ys))
written_step false x a1 a0 r1 r0 p1 p0 ys h1 h0 = h0

pub written_append : {E : Type 0} (k : ℕ) (xs ys : List (Line E)) → written_by k (xs ++ ys) ≡ written_by k xs ++ written_by (pen_after k xs) ys
written_append k [] ys = refl
written_append k (l ∷ ls) ys =
    written_step (l.by == k) (value_in l.value) _ _ _ _ _ _ ys (written_append l.next ls ys) (written_append k ls ys)

pen_step : {E : Type 0} (b : Bool) (a1 a0 p1 p0 : ℕ) (ys : List (Line E))
    → a1 ≡ pen_after p1 ys → a0 ≡ pen_after p0 ys → (if b then a1 else a0) ≡ pen_after (if b then p1 else p0) ys
pen_step true a1 a0 p1 p0 ys h1 h0 = h1
pen_step false a1 a0 p1 p0 ys h1 h0 = h0

pub pen_append : {E : Type 0} (k : ℕ) (xs ys : List (Line E)) → pen_after k (xs ++ ys) ≡ pen_after (pen_after k xs) ys
pen_append k [] ys = refl
pen_append k (l ∷ ls) ys = pen_step (l.by == k) _ _ _ _ ys (pen_append l.next ls ys) (pen_append k ls ys)

pub unspent_written : {E : Type 0} (p : ℕ) (xs : List (Line E)) → IsUnspent p xs → written_by p xs ≡ []
unspent_written p [] u = refl
unspent_written p (l ∷ ls) u = rw u.0 (unspent_written p ls u.1)

pub unspent_pen : {E : Type 0} (p : ℕ) (xs : List (Line E)) → IsUnspent p xs → pen_after p xs ≡ p
unspent_pen p [] u = refl
unspent_pen p (l ∷ ls) u = rw u.0 (unspent_pen p ls u.1)

pub unspent_tail : {E : Type 0} (p : ℕ) (xs ys : List (Line E)) → IsUnspent p (xs ++ ys) → IsUnspent p ys
unspent_tail p [] ys u = u
unspent_tail p (l ∷ ls) ys u = unspent_tail p ls ys u.1

-- where the pen of a list is not spent, the list is whole
pub whole : {E : Type 0} (k p : ℕ) (xs ys : List (Line E))
    → pen_after k xs ≡ p → IsPrefix xs ys → IsUnspent p ys → (written_by k ys ≡ written_by k xs) × (pen_after k ys ≡ p)
whole k p xs ys is pre u =
    let rest : IsUnspent p pre.0 = unspent_tail p xs pre.0 (subst (λ l. IsUnspent p l) (sym pre.1) u) in
    let none : written_by (pen_after k xs) pre.0 ≡ [] = ap (λ q. written_by q pre.0) is ∙ unspent_written p pre.0 rest in
    let same : pen_after (pen_after k xs) pre.0 ≡ p = ap (λ q. pen_after q pre.0) is ∙ unspent_pen p pre.0 rest in (
      sym (ap (λ l. written_by k l) pre.1) ∙ (written_append k xs pre.0 ∙ (ap (λ l. written_by k xs ++ l) none ∙ append-nil (written_by k xs))),
      sym (ap (λ l. pen_after k l) pre.1) ∙ (pen_append k xs pre.0 ∙ same),
    )

-- a line that is written with the pen of the list adds its entry
pub added : {E : Type 0} (k : ℕ) (x : E) (p next : ℕ) (xs ys : List (Line E)) → pen_after k xs ≡ p → IsAdded (line_of x p next) xs ys
    → (written_by k ys ≡ written_by k xs ++ x ∷ []) × (pen_after k ys ≡ next)
added {E} k x p next xs ys is a =
    let log : List (Line E) = a.0 in
    let last : List (Line E) = line_of x p next ∷ [] in
    let w = whole k p xs log is a.1 a.2 in
    let t : (p == p) ≡ true = grind (arith, nat_tests) in
    let one : written_by (pen_after k log) last ≡ x ∷ [] = ap (λ q. written_by q last) w.1 ∙ rw t refl in
    let pen : pen_after (pen_after k log) last ≡ next = ap (λ q. pen_after q last) w.1 ∙ rw t refl in (
      ap (λ l. written_by k l) a.3 ∙ (written_append k log last
          ∙ (ap (λ l. l ++ written_by (pen_after k log) last) w.0 ∙ ap (λ l. written_by k xs ++ l) one)),
      ap (λ l. pen_after k l) a.3 ∙ (pen_append k log last ∙ pen),
    )

pub prefix_trans : {A : Type 0} (xs ys zs : List A) → IsPrefix xs ys → IsPrefix ys zs → IsPrefix xs zs
prefix_trans xs ys zs p q = (p.0 ++ q.0, sym (append_assoc xs p.0 q.0) ∙ (ap (λ w. w ++ q.0) p.1 ∙ q.1))

-- likewise where more was seen meanwhile
pub added_later : {E : Type 0} (line : Line E) (xs seen ys : List (Line E)) → IsPrefix xs seen → IsAdded line seen ys → IsAdded line xs ys
added_later line xs seen ys pre a = (a.0, prefix_trans xs seen a.0 pre a.1, a.2, a.3)
