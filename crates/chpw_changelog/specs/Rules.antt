-- For proofs alone: the rule of the log, and what its steps show.
use Rattle.std.specs.Prelude.{◌≡◌, ℕ, ◌<◌, true, List, [], ◌∷◌, ◌++◌, length}
use mathlib.Core.List.{IsPrefix}
use Rattle.logbook.specs.Pages.{Cell, cell, Step, View, Book as LogbookName, Named, may_make}
use Rattle.chpw_changelog.specs.declared.entry.LogEntry.{LogEntry}
use Rattle.chpw_changelog.specs.Pens.{IsUnspent, pen_after, first_pen, opening_table, changes_in}

-- the pen of each entry is spent: its cell is at home
abbrev pub AreSpent : List Cell → List LogEntry → Type 0
AreSpent cells [] = Unit {0}
AreSpent cells (e ∷ es) = ((cell cells e.by).1 ≡ true) × AreSpent cells es

pub record IsKept (cells : List Cell) (log : List LogEntry) : Type 0 where
  pub some : 0 < length cells
  pub head : (cell cells 0).1 ≡ true
  pub spent : AreSpent cells log

abbrev pub head_of : LogbookName → Named
head_of b = record { tracked = true; key = 0; book = b }

-- a new pen
abbrev pub Makes : Step LogEntry → View LogEntry ℕ → ℕ → View LogEntry ℕ → Type 0
Makes s v found w = w.1.0.right ≡ may_make

-- a new list with this opening, and its first pen, which has written nothing
abbrev pub Founds : Step LogEntry → View LogEntry ℕ → ℕ → View LogEntry ℕ → Type 0
Founds s v found w =
    (w.1.0.right ≡ may_make) × (w.1.0.key ≡ first_pen w.0) × (opening_table w.0 ≡ s.ask.opening)
    × (changes_in w.0 w.0 ≡ []) × (pen_after (first_pen w.0) w.0 ≡ first_pen w.0)

-- the entry is added to some log, longer than what was seen, in which its pen was not spent
abbrev pub Appends : Step LogEntry → View LogEntry ℕ → ℕ → View LogEntry ℕ → Type 0
Appends s v found w =
    (log : List LogEntry) × IsPrefix v.0 log × IsUnspent s.ask.by log × (w.0 ≡ log ++ s.ask ∷ [])

-- the pen is not spent
abbrev pub Checks : Step LogEntry → View LogEntry ℕ → ℕ → View LogEntry ℕ → Type 0
Checks s v found w = IsPrefix v.0 w.0 × IsUnspent v.1.0.key w.0 × (w.1.0 ≡ v.1.0)
