-- A list of changes that were accepted.
use Rattle.std.specs.Prelude.{◌≡◌, List}
use Rattle.chpw_table.specs.declared.history.Entry.{Entry}
use Rattle.chpw_table.specs.declared.change.AcceptedChange.{AcceptedChange}
use Rattle.chpw_table.specs.State.{State}
use Rattle.chpw_table.specs.History.{IsLegal}
use Rattle.chpw_table.specs.Versions.{accepted}

-- There is a legal history from this opening whose accepted changes, in their order, are these and no others.
pub record AreAccepted (opening : State) (list : List AcceptedChange) : Type 0 where
  pub history : List Entry
  pub legal : IsLegal opening history
  pub list_is : list ≡ accepted opening history
