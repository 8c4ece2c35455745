-- The steps keep the rule.
use Rattle.std.proofs.Common.{◌≡◌, ℕ, ◌==◌, ◌<◌, true, false, List, [], ◌∷◌, ◌++◌, length, slice_set}
use Rattle.std.proofs.Common.{None, refl, sym, subst, inl, append-nil, length-set}
use mathlib.Core.List.{IsPrefix}
use prog.Atomic.{either}
use Rattle.logbook.specs.Pages.{Cell, cell, step, Nib, gives, adds, no_nib, may_write, Moves}
use Rattle.ghost_list.specs.declared.line.Line.{Line}
use Rattle.ghost_list.specs.Pens.{IsUnspent}
use Rattle.ghost_list.specs.Rules.{IsKept, Makes, Appends}
use Rattle.ghost_list.proofs.CellLemmas.{some_cell, set_home, set_here, snoc_home, out, spent_set, spent_snoc, spent_add, unspent}

abbrev pub shown : {E : Type 0} → List (Line E) → List (Line E)
shown log = []

abbrev pub moved : {E : Type 0} → List (Line E) → List (Line E) → ℕ → Type 0
moved xs ys n = Unit {0}

-- the word 0 is not changed
abbrev pub same : ℕ → ℕ
same n = either (n == 0) 0 n

-- a word is written, and is at home then
set_kept : {E : Type 0} (cs : List Cell) (log : List (Line E)) (k n : ℕ) → IsKept cs log → IsKept (slice_set cs k (n, true)) log
set_kept cs log k n kept = (set_home cs k n 0 kept.0, spent_set cs log k n kept.1)

pub makes : {E : Type 0} (v : List (Line E)) (line : Line E)
    → Moves IsKept shown moved 0 (v, (no_nib, None)) same (Makes (step 0 0 0 line) (v, (no_nib, None)))
makes v line cs log kept pre away =
    let cs1 : List Cell = slice_set cs 0 (same (cell cs 0).0, true) in
    let k1 : IsKept cs1 log = set_kept cs log 0 (same (cell cs 0).0) kept in
    let k2 : IsKept (cs1 ++ (0, false) ∷ []) log = (snoc_home cs1 0 k1.0, spent_snoc cs1 log k1.1) in
    let un : IsUnspent (length cs) log = unspent cs log (length cs) kept.1 (out cs) in
    let all : log ≡ log ++ [] = sym (append-nil log) in (
      some_cell cs kept.0,
      kept.0,
      (
        adds,
        [],
        None,
        tt,
        subst (λ l. IsKept (cs1 ++ (0, false) ∷ []) l) all k2,
        inl (refl, refl),
        (refl, subst (λ l. IsUnspent (length cs) l) all un),
      ),
    )

pub appends : {E : Type 0} (v : List (Line E)) (p : Nib) (line : Line E) → p.right ≡ may_write → line.by ≡ p.key
    → Moves IsKept shown moved 0 (v, (p, None)) same (Appends (step 0 0 0 line) (v, (p, None)))
appends v p line right is cs log kept pre away =
    let a = away right in
    let cs1 : List Cell = slice_set cs 0 (same (cell cs 0).0, true) in
    let cs2 : List Cell = slice_set cs1 p.key (p.value, true) in
    let k2 : IsKept cs2 log = set_kept cs1 log p.key p.value (set_kept cs log 0 (same (cell cs 0).0) kept) in
    let here : p.key < length cs1 = subst (λ n. p.key < n) (sym (length-set cs 0 (same (cell cs 0).0, true))) a.0 in
    let home : (cell cs2 line.by).1 ≡ true = subst (λ j. (cell cs2 j).1 ≡ true) (sym is) (set_here cs1 p.key p.value here) in
    let un : IsUnspent line.by log = subst (λ j. IsUnspent j log) (sym is) (unspent cs log p.key kept.1 a.1) in (
      some_cell cs kept.0,
      kept.0,
      (gives, line ∷ [], None, right, (k2.0, spent_add cs2 log line k2.1 home), inl (refl, refl), (log, pre, un, refl)),
    )
