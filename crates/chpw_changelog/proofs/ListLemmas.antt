-- The list of a pen, along longer logs.
use Rattle.std.proofs.Common.{◌≡◌, ℕ, ◌==◌, ◌<◌, ◌≤◌, Bool, true, false, List, [], ◌∷◌, ◌++◌, length, if◌then◌else◌}
use Rattle.std.proofs.Common.{refl, ap, sym, ◌∙◌, subst, arith, append_assoc, length-append, append-nil}
use Rattle.std.proofs.lemmas.Bool.Decides.{nat_tests}
use mathlib.Core.List.{IsPrefix}
use Rattle.chpw_table.specs.declared.change.AcceptedChange.{AcceptedChange}
use Rattle.chpw_changelog.specs.declared.entry.LogEntry.{LogEntry}
use Rattle.chpw_changelog.specs.Pens.{written_by, pen_after, IsUnspent, newest_or}

written_step : (b : Bool) (c : AcceptedChange) (a1 a0 r1 r0 : List AcceptedChange) (p1 p0 : ℕ) (ys : List LogEntry)
    → a1 ≡ r1 ++ written_by p1 ys → a0 ≡ r0 ++ written_by p0 ys
    → (if b then c ∷ a1 else a0) ≡ (if b then c ∷ r1 else r0) ++ written_by (if b then p1 else p0) ys
written_step true c a1 a0 r1 r0 p1 p0 ys h1 h0 = ap (λ w. c ∷ w) h1
written_step false c a1 a0 r1 r0 p1 p0 ys h1 h0 = h0

pub written_append : (k : ℕ) (xs ys : List LogEntry) → written_by k (xs ++ ys) ≡ written_by k xs ++ written_by (pen_after k xs) ys
written_append k [] ys = refl
written_append k (e ∷ l) ys = written_step (e.by == k) e.change _ _ _ _ _ _ ys (written_append e.next l ys) (written_append k l ys)

pen_step : (b : Bool) (a1 a0 p1 p0 : ℕ) (ys : List LogEntry)
    → a1 ≡ pen_after p1 ys → a0 ≡ pen_after p0 ys → (if b then a1 else a0) ≡ pen_after (if b then p1 else p0) ys
pen_step true a1 a0 p1 p0 ys h1 h0 = h1
pen_step false a1 a0 p1 p0 ys h1 h0 = h0

pub pen_append : (k : ℕ) (xs ys : List LogEntry) → pen_after k (xs ++ ys) ≡ pen_after (pen_after k xs) ys
pen_append k [] ys = refl
pen_append k (e ∷ l) ys = pen_step (e.by == k) _ _ _ _ ys (pen_append e.next l ys) (pen_append k l ys)

pub unspent_written : (p : ℕ) (xs : List LogEntry) → IsUnspent p xs → written_by p xs ≡ []
unspent_written p [] u = refl
unspent_written p (e ∷ l) u = rw u.0 (unspent_written p l u.1)

pub unspent_pen : (p : ℕ) (xs : List LogEntry) → IsUnspent p xs → pen_after p xs ≡ p
unspent_pen p [] u = refl
unspent_pen p (e ∷ l) u = rw u.0 (unspent_pen p l u.1)

pub unspent_tail : (p : ℕ) (xs ys : List LogEntry) → IsUnspent p (xs ++ ys) → IsUnspent p ys
unspent_tail p [] ys u = u
unspent_tail p (e ∷ l) ys u = unspent_tail p l ys u.1

pub unspent_snoc : (p : ℕ) (xs : List LogEntry) (e : LogEntry) → IsUnspent p xs → (e.by == p) ≡ false → IsUnspent p (xs ++ e ∷ [])
unspent_snoc p [] e u h = (h, tt)
unspent_snoc p (x ∷ l) e u h = (u.0, unspent_snoc p l e u.1 h)

pub newest_snoc : (d : LogEntry) (xs : List LogEntry) (e : LogEntry) → newest_or d (xs ++ e ∷ []) ≡ e
newest_snoc d [] e = refl
newest_snoc d (x ∷ xs) e = newest_snoc x xs e

-- a longer log has a longer list
pub prefix_written : (k : ℕ) (xs ys : List LogEntry) → IsPrefix xs ys → IsPrefix (written_by k xs) (written_by k ys)
prefix_written k xs ys p = (written_by (pen_after k xs) p.0, sym (written_append k xs p.0) ∙ ap (λ l. written_by k l) p.1)

-- where the pen of a list is not spent, the list is whole
pub whole : (k p : ℕ) (xs ys : List LogEntry)
    → pen_after k xs ≡ p → IsPrefix xs ys → IsUnspent p ys → (written_by k ys ≡ written_by k xs) × (pen_after k ys ≡ p)
whole k p xs ys is pre u =
    let rest : IsUnspent p pre.0 = unspent_tail p xs pre.0 (subst (λ l. IsUnspent p l) (sym pre.1) u) in
    let none : written_by (pen_after k xs) pre.0 ≡ [] = ap (λ q. written_by q pre.0) is ∙ unspent_written p pre.0 rest in
    let same : pen_after (pen_after k xs) pre.0 ≡ p = ap (λ q. pen_after q pre.0) is ∙ unspent_pen p pre.0 rest in (
      sym (ap (λ l. written_by k l) pre.1) ∙ (written_append k xs pre.0 ∙ (ap (λ l. written_by k xs ++ l) none ∙ append-nil (written_by k xs))),
      sym (ap (λ l. pen_after k l) pre.1) ∙ (pen_append k xs pre.0 ∙ same),
    )

-- an entry with the pen of the list adds its change
pub added : (k : ℕ) (xs log ys : List LogEntry) (e : LogEntry) → pen_after k xs ≡ e.by → IsPrefix xs log → IsUnspent e.by log → ys ≡ log ++ e ∷ []
    → (written_by k ys ≡ written_by k xs ++ e.change ∷ []) × (pen_after k ys ≡ e.next)
added k xs log ys e is pre u all =
    let w = whole k e.by xs log is pre u in
    let t : (e.by == e.by) ≡ true = grind (arith, nat_tests) in
    let one : written_by (pen_after k log) (e ∷ []) ≡ e.change ∷ [] = ap (λ q. written_by q (e ∷ [])) w.1 ∙ rw t refl in
    let pen : pen_after (pen_after k log) (e ∷ []) ≡ e.next = ap (λ q. pen_after q (e ∷ [])) w.1 ∙ rw t refl in (
      ap (λ l. written_by k l) all ∙ (written_append k log (e ∷ [])
          ∙ (ap (λ l. l ++ written_by (pen_after k log) (e ∷ [])) w.0 ∙ ap (λ l. written_by k xs ++ l) one)),
      ap (λ l. pen_after k l) all ∙ (pen_append k log (e ∷ []) ∙ pen),
    )

pub prefix_self : {A : Type 0} (xs : List A) → IsPrefix xs xs
prefix_self xs = ([], append-nil xs)

pub prefix_trans : {A : Type 0} (xs ys zs : List A) → IsPrefix xs ys → IsPrefix ys zs → IsPrefix xs zs
prefix_trans xs ys zs p q = (p.0 ++ q.0, sym (append_assoc xs p.0 q.0) ∙ (ap (λ w. w ++ q.0) p.1 ∙ q.1))

-- of two beginnings of one list the shorter begins the longer
pub prefix_shorter : {A : Type 0} (xs ys zs : List A) → IsPrefix xs zs → IsPrefix ys zs → length xs ≤ length ys → IsPrefix xs ys
prefix_shorter [] ys zs p q le = (ys, refl)
prefix_shorter (x ∷ xs) [] zs p q le = absurd (omega arith)
prefix_shorter (x ∷ xs) (y ∷ ys) [] p q le = absurd (cc (p.1))
prefix_shorter (x ∷ xs) (y ∷ ys) (z ∷ zs) p q le =
    let heads : x ≡ y = cc (p.1, q.1) in
    let rest = prefix_shorter xs ys zs (p.0, cc (p.1)) (q.0, cc (q.1)) (omega arith) in
    (rest.0, cc (heads, rest.1))

-- of two beginnings of one list that are as long, each is the other
pub prefix_same : {A : Type 0} (xs ys zs : List A) → IsPrefix xs zs → IsPrefix ys zs → length xs ≡ length ys → xs ≡ ys
prefix_same [] [] zs p q e = refl
prefix_same [] (y ∷ ys) zs p q e = absurd (omega arith)
prefix_same (x ∷ xs) [] zs p q e = absurd (omega arith)
prefix_same (x ∷ xs) (y ∷ ys) [] p q e = absurd (cc (p.1))
prefix_same (x ∷ xs) (y ∷ ys) (z ∷ zs) p q e =
    let heads : x ≡ y = cc (p.1, q.1) in
    let rest = prefix_same xs ys zs (p.0, cc (p.1)) (q.0, cc (q.1)) (omega arith) in
    cc (heads, rest)

-- a list f and the list l of one log: f begins l with c after it where it is shorter than that, or as long and ends with c
pub begins_shorter : (f l z : List AcceptedChange) (c : AcceptedChange)
    → IsPrefix f z → IsPrefix l z → length f < length (l ++ c ∷ []) → IsPrefix f (l ++ c ∷ [])
begins_shorter f l z c pf pl less =
    let a = length-append l (c ∷ []) in
    prefix_trans f l (l ++ c ∷ []) (prefix_shorter f l z pf pl (omega (arith, a, less))) (c ∷ [], refl)

pub begins_whole : (f l z : List AcceptedChange) (c d : AcceptedChange) → IsPrefix f z → IsPrefix l z
    → length f ≡ length (l ++ c ∷ []) → (rest : List AcceptedChange) → f ≡ rest ++ d ∷ [] → d ≡ c → IsPrefix f (l ++ c ∷ [])
begins_whole f l z c d pf pl e rest is same =
    let a = length-append l (c ∷ []) in
    let b = length-append rest (d ∷ []) in
    let m = ap length is in
    let n : length rest ≡ length l = omega (arith, a, b, m, e) in
    let pre : IsPrefix rest z = prefix_trans rest f z (d ∷ [], sym is) pf in
    let all : rest ≡ l = prefix_same rest l z pre pl n in
    ([], append-nil f ∙ (is ∙ (ap (λ w. w ++ d ∷ []) all ∙ ap (λ x. l ++ x ∷ []) same)))
