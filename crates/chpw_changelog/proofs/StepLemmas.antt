-- The steps keep the rule.
use Rattle.std.proofs.Common.{◌≡◌, ℕ, ◌==◌, ◌+◌, ◌<◌, true, false, List, [], ◌∷◌, ◌++◌, length, slice_set}
use Rattle.std.proofs.Common.{None, refl, ap, sym, subst, arith, inl, append-nil, length-append, length-set}
use Rattle.std.proofs.lemmas.Bool.Decides.{nat_tests}
use mathlib.Core.List.{IsPrefix}
use prog.Atomic.{either}
use Rattle.logbook.specs.Pages.{Cell, cell, step, Nib, keeps, gives, adds, no_nib, may_write, Moves}
use Rattle.chpw_changelog.specs.declared.entry.LogEntry.{LogEntry}
use Rattle.chpw_changelog.specs.Pens.{IsUnspent, no_entry, first_pen}
use Rattle.chpw_changelog.specs.Rules.{IsKept, Makes, Founds, Appends, Checks}
use Rattle.chpw_changelog.proofs.ListLemmas.{unspent_written, unspent_pen, unspent_snoc, newest_snoc}
use Rattle.chpw_changelog.proofs.CellLemmas.{set_home, set_here, snoc_home, out, spent_set, spent_snoc, spent_add, unspent}

abbrev pub shown : List LogEntry → List LogEntry
shown log = []

abbrev pub moved : List LogEntry → List LogEntry → ℕ → Type 0
moved xs ys n = Unit {0}

-- the word 0 is not changed
abbrev pub same : ℕ → ℕ
same n = either (n == 0) 0 n

-- the head's word is written
head_kept : (cs : List Cell) (log : List LogEntry) (n : ℕ) → IsKept cs log → IsKept (slice_set cs 0 (n, true)) log
head_kept cs log n kept = record {
  some = subst (λ m. 0 < m) (sym (length-set cs 0 (n, true))) kept.some;
  head = set_home cs 0 n 0 kept.head;
  spent = spent_set cs log 0 n kept.spent;
}

-- a cell is added
snoc_kept : (cs : List Cell) (log : List LogEntry) → IsKept cs log → IsKept (cs ++ (0, false) ∷ []) log
snoc_kept cs log kept =
    let l : length (cs ++ (0, false) ∷ []) ≡ length cs + 1 = length-append cs ((0, false) ∷ []) in
    let s = kept.some in
    record { some = omega (arith, l, s); head = snoc_home cs 0 kept.head; spent = spent_snoc cs log kept.spent }

pub makes : (v : List LogEntry) (e : LogEntry) → Moves IsKept shown moved 0 (v, (no_nib, None)) same (Makes (step 0 0 0 e) (v, (no_nib, None)))
makes v e cs log kept pre away =
    let kept' = snoc_kept _ log (head_kept cs log (same (cell cs 0).0) kept) in (
      kept.some,
      kept.head,
      (
        adds,
        [],
        None,
        tt,
        subst (λ l. IsKept (slice_set cs 0 (same (cell cs 0).0, true)
            ++ (0, false) ∷ []) l) (sym (append-nil log)) kept',
        inl (refl, refl),
        refl,
      ),
    )

pub founds : (v : List LogEntry) (e : LogEntry) → Moves IsKept shown moved 0 (v, (no_nib, None)) same (Founds (step 0 0 0 e) (v, (no_nib, None)))
founds v q cs log kept pre away =
    let e : LogEntry = record { opening = q.opening; change = q.change; by = 0; next = length cs } in
    let some = kept.some in
    let k1 = snoc_kept _ log (head_kept cs log (same (cell cs 0).0) kept) in
    let kept' : IsKept (slice_set cs 0 (same (cell cs 0).0, true) ++ (0, false) ∷ []) (log ++ e ∷ []) =
    record { some = k1.some; head = k1.head; spent = spent_add _ log e k1.spent k1.head } in
    let new = newest_snoc no_entry log e in
    let pen : length cs ≡ first_pen (log ++ e ∷ []) = sym (ap (λ (x : LogEntry). x.next) new) in
    let apart : (0 == length cs) ≡ false = grind (arith, nat_tests) in
    let un : IsUnspent (length cs) (log ++ e ∷ []) = unspent_snoc (length cs) log e (unspent cs log (length cs) kept.spent (out cs)) apart in
    let un' : IsUnspent (first_pen (log ++ e ∷ [])) (log ++ e ∷ []) = subst (λ p. IsUnspent p (log ++ e ∷ [])) pen un in (
      some,
      kept.head,
      (
        adds,
        e ∷ [],
        None,
        tt,
        kept',
        inl (refl, refl),
        (refl, pen, ap (λ (x : LogEntry). x.opening) new, unspent_written _ _ un', unspent_pen _ _ un'),
      ),
    )

pub appends : (v : List LogEntry) (p : Nib) (e : LogEntry) → p.right ≡ may_write
    → e.by ≡ p.key → Moves IsKept shown moved 0 (v, (p, None)) same (Appends (step 0 0 0 e) (v, (p, None)))
appends v p e right by cs log kept pre away =
    let a = away right in
    let k1 = head_kept cs log (same (cell cs 0).0) kept in
    let cs1 : List Cell = slice_set cs 0 (same (cell cs 0).0, true) in
    let cs2 : List Cell = slice_set cs1 p.key (p.value, true) in
    let here : p.key < length cs1 = subst (λ n. p.key < n) (sym (length-set cs 0 (same (cell cs 0).0, true))) a.0 in
    let home : (cell cs2 e.by).1 ≡ true = subst (λ j. (cell cs2 j).1 ≡ true) (sym by) (set_here cs1 p.key p.value here) in
    let kept' : IsKept cs2 (log ++ e ∷ []) =
    record {
      some = subst (λ n. 0 < n) (sym (length-set cs1 p.key (p.value, true))) k1.some;
      head = set_home cs1 p.key p.value 0 k1.head;
      spent = spent_add cs2 log e (spent_set cs1 log p.key p.value k1.spent) home;
    } in
    let un : IsUnspent e.by log = subst (λ j. IsUnspent j log) (sym by) (unspent cs log p.key kept.spent a.1) in
    (kept.some, kept.head, (gives, e ∷ [], None, right, kept', inl (refl, refl), (log, pre, un, refl)))

pub checks : (v : List LogEntry) (p : Nib) (e : LogEntry)
    → p.right ≡ may_write → Moves IsKept shown moved 0 (v, (p, None)) same (Checks (step 0 0 0 e) (v, (p, None)))
checks v p e right cs log kept pre away =
    let a = away right in
    let k1 = head_kept cs log (same (cell cs 0).0) kept in
    let all : log ≡ log ++ [] = sym (append-nil log) in
    let un : IsUnspent p.key log = unspent cs log p.key kept.spent a.1 in (
      kept.some,
      kept.head,
      (
        keeps,
        [],
        None,
        tt,
        subst (λ l. IsKept (slice_set cs 0 (same (cell cs 0).0, true)) l) all k1,
        inl (refl, refl),
        (subst (λ l. IsPrefix v l) all pre, subst (λ l. IsUnspent p.key l) all un, refl),
      ),
    )
