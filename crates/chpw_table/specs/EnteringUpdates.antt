-- For the proofs of an update: what it does to a table.
use Rattle.std.specs.Prelude.{◌≡◌, ◌+◌, Bool, true, ◌||◌, if◌then◌else◌}
use Rattle.chpw_table.specs.declared.times.Moment.{Moment}
use Rattle.chpw_table.specs.declared.updating.KdcUpdate.{KdcUpdate}
use Rattle.chpw_table.specs.declared.updating.UpdateVerdict.{UpdateVerdict}
use Rattle.chpw_table.specs.declared.updating.UpdateVerdict.TheVariants.{Taken}
use Rattle.chpw_table.specs.Agreement.{Held, Agrees}
use Rattle.chpw_table.specs.Updates.{is_taken, after_update}
use Rattle.chpw_table.specs.Updating.{with_written}

-- what a row of an update does, whose append may fail
pub record IsUpdateEntered (before later : Held) (now : Moment) (u : KdcUpdate) (row v : UpdateVerdict) (io : Bool) : Type 0 where
  pub verdict_is : v ≡ with_written io row
  pub append : io ≡ true → row ≡ Taken
  pub agrees : Agrees later.state (after_update v before.state now u io)
  pub broken : later.state.broken ≡ (before.state.broken || io)
  pub events : later.events ≡ before.events + 1
  pub seen : later.seen ≡ (if is_taken v then before.seen + 1 else before.seen)
  pub max_entries : later.max_entries ≡ before.max_entries
