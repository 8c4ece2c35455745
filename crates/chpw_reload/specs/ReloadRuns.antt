-- A run of a service that reloads: histories one after the other, each opened with the table that the one before it
-- left, or with a reload of it.
use Rattle.std.specs.Prelude.{List, [], ◌∷◌, ◌⊎◌}
use Rattle.chpw_rules.specs.declared.config.Config.{Config}
use Rattle.chpw_table.specs.State.{State}
use Rattle.chpw_table.specs.Agreement.{Held, Agrees}
use Rattle.chpw_table.specs.History.{IsLegal, outcome}
use Rattle.chpw_table.specs.declared.history.Entry.{Entry}
use Rattle.chpw_record.specs.declared.record.Record.{Record}
use Rattle.chpw_journal.specs.Runs.{AreWhole, Run, last_state}
use Rattle.chpw_reload.specs.Reloads.{IsReload}

-- a reload of what was left, with some file and some records
abbrev pub IsReloadOf : State → State → Type 0
IsReloadOf left next = (file : Config) × (records : List Record) × IsReload file records left next

-- a further history may open with this: with what was left, or with a reload of it
abbrev pub GoesOn : State → State → Type 0
GoesOn left next = Agrees next left ⊎ IsReloadOf left next

-- each history goes on from what the one before it left, the first from this state, and is legal from its opening; what
-- its accepted entries add is well-formed
abbrev pub AreHistories : State → List Run → Type 0
AreHistories s [] = Unit {0}
AreHistories s (r ∷ rs) = GoesOn s r.opening × IsLegal r.opening r.history × AreWhole r.opening r.history
    × AreHistories (outcome r.opening r.history) rs

-- histories without a reload between them: each opens with a table that agrees with what the one before it left
abbrev pub AreInARow : State → List Run → Type 0
AreInARow s [] = Unit {0}
AreInARow s (r ∷ rs) = Agrees r.opening s × IsLegal r.opening r.history × AreWhole r.opening r.history
    × AreInARow (outcome r.opening r.history) rs

-- a history that the one-thread machine replays from this opening to this table
pub record IsHistory (opening : State) (table : Held) : Type 0 where
  pub history : List Entry
  pub legal : IsLegal opening history
  pub whole : AreWhole opening history
  pub agrees : Agrees table.state (outcome opening history)

-- histories like that, the first with this opening, lead to this table
pub record IsServiceRun (opening : State) (table : Held) : Type 0 where
  pub history : List Entry
  pub more : List Run
  pub follow : AreHistories opening (record { opening = opening; history = history } ∷ more)
  pub leaves : Agrees table.state (last_state opening (record { opening = opening; history = history } ∷ more))
