-- What is planned of an update for a table, before its append.
use Rattle.std.specs.Prelude.{◌≡◌, Option, Some, None, List, false}
use Rattle.chpw_record.specs.declared.key.KeyRow.{KeyRow}
use Rattle.chpw_table.specs.declared.updating.KdcUpdate.{KdcUpdate}
use Rattle.chpw_table.specs.declared.updating.UpdateVerdict.{UpdateVerdict}
use Rattle.chpw_table.specs.declared.updating.UpdateVerdict.TheVariants.{Taken}
use Rattle.chpw_table.specs.declared.table.planning.Plan.{Plan}
use Rattle.chpw_table.specs.State.{State, keys_held, kept_count}
use Rattle.chpw_table.specs.Updates.{name_in, kind_of, key_in, keys_after, is_taken, update_record}
use Rattle.chpw_table.specs.Placing.{IsPlaced}

-- the keys that the update leaves its name, or none
abbrev pub keys_left : State → KdcUpdate → Option (List KeyRow)
keys_left s u =
    let held = keys_held s (name_in u) in
    keys_after (kind_of u) (kept_count s) (key_in held u) held

-- they are to come to their place, and this is the update's record
pub record IsNextPlan (s : State) (u : KdcUpdate) (p : Plan) : Type 0 where
  pub placed : IsPlaced s (name_in u) (keys_left s u) p.placement
  pub record_of : p.record.items ≡ update_record s u

-- one is planned exactly for Taken
abbrev pub IsUpdatePlanned : State → UpdateVerdict → KdcUpdate → Option Plan → Type 0
IsUpdatePlanned s row u None = is_taken row ≡ false
IsUpdatePlanned s row u (Some p) = (row ≡ Taken) × IsNextPlan s u p
