-- For proofs alone: the rule of the log, and what its steps show.
use Rattle.std.specs.Prelude.{◌≡◌, ℕ, true, List, [], ◌∷◌, ◌++◌}
use mathlib.Core.List.{IsPrefix}
use Rattle.logbook.specs.Pages.{Cell, cell, Step, View, Book, Named, may_make}
use Rattle.ghost_list.specs.declared.line.Line.{Line}
use Rattle.ghost_list.specs.Pens.{IsUnspent}

-- the pen of each line is spent: its cell is at home
abbrev pub AreSpent : {E : Type 0} → List Cell → List (Line E) → Type 0
AreSpent cells [] = Unit {0}
AreSpent cells (l ∷ ls) = ((cell cells l.by).1 ≡ true) × AreSpent cells ls

-- so is that of the head
abbrev pub IsKept : {E : Type 0} → List Cell → List (Line E) → Type 0
IsKept cells log = ((cell cells 0).1 ≡ true) × AreSpent cells log

abbrev pub head_of : Book → Named
head_of b = record { tracked = true; key = 0; book = b }

-- the line is added to some log, longer than what was seen, in which its pen was not spent
abbrev pub IsAdded : {E : Type 0} → Line E → List (Line E) → List (Line E) → Type 0
IsAdded {E} line seen new = (log : List (Line E)) × IsPrefix seen log × IsUnspent line.by log × (new ≡ log ++ line ∷ [])

-- a new pen, which has written nothing
abbrev pub Makes : {E : Type 0} → Step (Line E) → View (Line E) ℕ → ℕ → View (Line E) ℕ → Type 0
Makes s v found w = (w.1.0.right ≡ may_make) × IsUnspent w.1.0.key w.0

-- the line that was asked for
abbrev pub Appends : {E : Type 0} → Step (Line E) → View (Line E) ℕ → ℕ → View (Line E) ℕ → Type 0
Appends s v found w = IsAdded s.ask v.0 w.0
