-- Cells that stay at home.
use Rattle.std.proofs.Common.{◌≡◌, ℕ, zero, suc, ◌==◌, ◌<◌, Bool, true, false, List, [], ◌∷◌, ◌++◌, length, slice_set, refl, ap, subst, arith}
use Rattle.std.proofs.lemmas.Bool.Decides.{nat_tests}
use Rattle.std.proofs.lemmas.Grind.{get_or-set_at}
use Rattle.logbook.specs.Pages.{Cell, cell}
use Rattle.ghost_list.specs.declared.line.Line.{Line}
use Rattle.ghost_list.specs.Pens.{IsUnspent}
use Rattle.ghost_list.specs.Rules.{AreSpent}

pub some_cell : (cs : List Cell) → (cell cs 0).1 ≡ true → 0 < length cs
some_cell [] h = absurd (cc)
some_cell (c ∷ cs) h = omega arith

pub set_home : (cs : List Cell) (k n j : ℕ) → (cell cs j).1 ≡ true → (cell (slice_set cs k (n, true)) j).1 ≡ true
set_home [] k n j h = absurd (cc)
set_home (c ∷ cs) zero n zero h = refl
set_home (c ∷ cs) zero n (suc j) h = h
set_home (c ∷ cs) (suc k) n zero h = h
set_home (c ∷ cs) (suc k) n (suc j) h = set_home cs k n j h

pub set_here : (cs : List Cell) (k n : ℕ) → k < length cs → (cell (slice_set cs k (n, true)) k).1 ≡ true
set_here cs k n h = ap (λ (c : Cell). c.1) (get_or-set_at cs k k (n, true) (0, false) refl h)

pub snoc_home : (cs : List Cell) (j : ℕ) → (cell cs j).1 ≡ true → (cell (cs ++ (0, false) ∷ []) j).1 ≡ true
snoc_home [] j h = absurd (cc)
snoc_home (c ∷ cs) zero h = h
snoc_home (c ∷ cs) (suc j) h = snoc_home cs j h

pub out : (cs : List Cell) → (cell cs (length cs)).1 ≡ false
out [] = refl
out (c ∷ cs) = out cs

pub spent_set : {E : Type 0} (cs : List Cell) (log : List (Line E)) (k n : ℕ) → AreSpent cs log → AreSpent (slice_set cs k (n, true)) log
spent_set cs [] k n s = tt
spent_set cs (l ∷ ls) k n s = (set_home cs k n l.by s.0, spent_set cs ls k n s.1)

pub spent_snoc : {E : Type 0} (cs : List Cell) (log : List (Line E)) → AreSpent cs log → AreSpent (cs ++ (0, false) ∷ []) log
spent_snoc cs [] s = tt
spent_snoc cs (l ∷ ls) s = (snoc_home cs l.by s.0, spent_snoc cs ls s.1)

pub spent_add : {E : Type 0} (cs : List Cell) (log : List (Line E)) (line : Line E)
    → AreSpent cs log → (cell cs line.by).1 ≡ true → AreSpent cs (log ++ line ∷ [])
spent_add cs [] line s h = (h, tt)
spent_add cs (l ∷ ls) line s h = (s.0, spent_add cs ls line s.1 h)

apart : (cs : List Cell) (i p : ℕ) (b : Bool) → (i == p) ≡ b → (cell cs i).1 ≡ true → (cell cs p).1 ≡ false → (i == p) ≡ false
apart cs i p false is h a = is
apart cs i p true is h a =
    let same : i ≡ p = grind (arith, nat_tests) in
    let bad : (cell cs p).1 ≡ true = subst (λ j. (cell cs j).1 ≡ true) same h in
    absurd (cc (bad, a))

-- a pen that is away is not spent
pub unspent : {E : Type 0} (cs : List Cell) (log : List (Line E)) (p : ℕ) → AreSpent cs log → (cell cs p).1 ≡ false → IsUnspent p log
unspent cs [] p s a = tt
unspent cs (l ∷ ls) p s a = (apart cs l.by p (l.by == p) refl s.0 a, unspent cs ls p s.1 a)
