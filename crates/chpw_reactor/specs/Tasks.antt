-- What a worker is given to do of what the KDC says, and what is noted of what came of it.
use Rattle.std.specs.Prelude.{◌≡◌, ◌⊎◌, ℕ, Bool, true, false, List, [], ◌∷◌, map, take, Option, Some, None, option_and_then, if◌then◌else◌}
use Rattle.std.specs.Prelude.{Result, Ok, Err}
use Rattle.std.specs.Option.{option_map}
use Rattle.chpw_table.specs.declared.sink.Durability.{Durability}
use Rattle.chpw_table.specs.declared.sink.Durability.TheVariants.{Immediate, Eventual}
use Rattle.chpw_table.specs.declared.updating.KdcUpdate.{KdcUpdate}
use Rattle.chpw_table.specs.declared.updating.KdcUpdate.TheVariants as table
use Rattle.chpw_table.specs.declared.updating.UpdateVerdict.{UpdateVerdict}
use Rattle.chpw_table.specs.declared.updating.UpdateVerdict.TheVariants.{NotNewer}
use Rattle.chpw_book.specs.declared.updating.DeskUpdateFault.{DeskUpdateFault}
use Rattle.chpw_book.specs.declared.updating.DeskUpdateFault.TheVariants.{Full, TooMany, Composite, NoRoom, Memory}
use Rattle.chpw_rules.specs.declared.name.Name.{Name}
use Rattle.chpw_record.specs.declared.key.KeyRow.{KeyRow}
use Rattle.chpw_table.specs.State.{State as Table, keys_held}
use Rattle.chpw_book.specs.Newest.{newest_of}
use Rattle.chpw_kdc.specs.Lines.{request_line}
use Rattle.chpw_kdc.specs.Dialogs.{State as Dialog, after_hold, after_lost_want, first_update, request_by}
use Rattle.chpw_kdc.specs.declared.update.KdcUpdate.{KdcUpdate as Said}
use Rattle.chpw_kdc.specs.declared.update.KdcUpdate.TheVariants as said
use Rattle.chpw_transfers.specs.Rounds.{is_update_next}
use Rattle.chpw_transfers.specs.declared.kdc.UpdateEnd.{UpdateEnd}
use Rattle.chpw_transfers.specs.declared.kdc.UpdateEnd.TheVariants as end
use Rattle.chpw_transfers.specs.declared.state.State.{State}
use Rattle.chpw_workers.specs.declared.inbox.Task.{Task}
use Rattle.chpw_workers.specs.declared.inbox.Task.TheVariants as task

-- the same, as the table knows it
abbrev pub table_update : Said → KdcUpdate
table_update (said.Adopt name key) = table.Adopt name key
table_update (said.Lift name kvno) = table.Lift name kvno
table_update (said.Remove name) = table.Remove name

-- what the KDC says next, if this worker is to take it first
abbrev pub update_for : ℕ → State → Option Said
update_for worker s = if is_update_next worker s then option_and_then (λ k. first_update k.updates) s.kdc else None

-- of updates in a row the last one's record has to be on the disk at once, and with it those before
abbrev pub durability_with : Bool → Durability
durability_with has_more = if has_more then Eventual else Immediate

-- a task is a message, to be decided or not, or what the KDC says next, with more behind it or not
abbrev pub IsTaskOf : Option Said → Bool → Bool → Task → Type 0
IsTaskOf said has_more decides (task.Message taken) = decides ≡ true
IsTaskOf said has_more decides (task.Undecided taken) = decides ≡ false
IsTaskOf None has_more decides (task.Update u durability) = ⊥
IsTaskOf (Some s) has_more decides (task.Update u durability) = (u.update ≡ table_update s) × (durability ≡ durability_with has_more)

-- what came of it: another try may take what the next history has room for, or memory that there is then; and what wasn't newer
-- than what the table has is judged again by that
abbrev pub end_of : Result UpdateVerdict DeskUpdateFault → UpdateEnd
end_of (Ok NotNewer) = end.Postponed
end_of (Ok verdict) = end.Over
end_of (Err Full) = end.Postponed
end_of (Err NoRoom) = end.Postponed
end_of (Err Memory) = end.Postponed
end_of (Err TooMany) = end.TableFull
end_of (Err Composite) = end.Over

-- ---- what is asked, and what a table tells

-- the line of the request that is made now
abbrev pub IsAskedBy : ℕ → Dialog → List ℕ → Type 0
IsAskedBy now s line = Some line ≡ option_map request_line (request_by now s)

-- this is a name's newest key, if it has one; or memory ran out for it, and table and KDC are compared anew
abbrev pub IsNewestTold : Name → Option KeyRow → Dialog → Dialog → Type 0
IsNewestTold name None old new = new ≡ old
IsNewestTold name (Some key) old new = (new ≡ after_hold name key old) ⊎ (new ≡ after_lost_want old)

-- the newest key of each of these names is told, one after the other
abbrev pub AreToldInTurn : Table → List Name → Dialog → Dialog → Type 0
AreToldInTurn table [] old new = new ≡ old
AreToldInTurn table (name ∷ names) old new =
    (next : Dialog) × IsNewestTold name (newest_of (keys_held table name)) old next × AreToldInTurn table names next new

abbrev pub names_of : Table → List Name
names_of table = map (λ p. p.name) table.principals

-- that of each name of the table, as far as 32 bits number them
abbrev pub IsTableTold : Table → Dialog → Dialog → Type 0
IsTableTold table old new = AreToldInTurn table (take 4294967295 (names_of table)) old new
