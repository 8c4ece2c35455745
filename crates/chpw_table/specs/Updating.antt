-- An update in two parts: what is prepared for a table, what lookups will show of its name, and why none is prepared.
use Rattle.std.specs.Prelude.{◌≡◌, ◌<◌, Bool, true, false, if◌then◌else◌, is_none, ◌&&◌, length, ◌==◌}
use Rattle.chpw_rules.specs.Limits.{principal_counts}
use Rattle.chpw_table.specs.declared.updating.KdcUpdate.{KdcUpdate}
use Rattle.chpw_table.specs.declared.updating.UpdateFault.{UpdateFault}
use Rattle.chpw_table.specs.declared.updating.UpdateFault.TheVariants.{Full, TooMany, Memory}
use Rattle.chpw_table.specs.declared.updating.UpdateVerdict.{UpdateVerdict}
use Rattle.chpw_table.specs.declared.updating.UpdateVerdict.TheVariants.{Broken}
use Rattle.chpw_table.specs.declared.table.updating.PreparedUpdate.{PreparedUpdate}
use Rattle.chpw_table.specs.Times.{IsMoment}
use Rattle.chpw_table.specs.State.{State, keys_held}
use Rattle.chpw_table.specs.Updates.{name_in, is_taken, update_fits, update_verdict}
use Rattle.chpw_table.specs.Agreement.{Held}
use Rattle.chpw_table.specs.Planning.{IsUpdatePlanned}

-- Taken becomes Broken if the append failed
abbrev pub with_written : Bool → UpdateVerdict → UpdateVerdict
with_written io v = if is_taken v && io then Broken else v

-- taking it adds a principal
abbrev pub adds_principal : State → KdcUpdate → Bool
adds_principal s u = is_taken (update_verdict s u false) && is_none (keys_held s (name_in u))

-- and there is no room for one
abbrev pub has_too_many : Held → KdcUpdate → Bool
has_too_many t u = adds_principal t.state u && length t.state.principals == principal_counts.high

-- the first refusal
abbrev pub IsUpdateRefused : Held → KdcUpdate → UpdateFault → Type 0
IsUpdateRefused t u Full = t.events ≡ t.max_entries
IsUpdateRefused t u TooMany = (t.events < t.max_entries) × (has_too_many t u ≡ true)
IsUpdateRefused t u Memory = (t.events < t.max_entries) × (has_too_many t u ≡ false)

-- this table may make the update that was prepared
pub record IsUpdateReady (t : Held) (p : PreparedUpdate) : Type 0 where
  pub moment : IsMoment p.moment
  pub room : t.events < t.max_entries
  pub fits : update_fits p.update ≡ true
  pub row : p.row ≡ update_verdict t.state p.update false
  pub few : has_too_many t p.update ≡ false
  pub plan : IsUpdatePlanned t.state p.row p.update p.plan
