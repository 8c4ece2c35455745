use Rattle.std.proofs.Common.{◌-◌, ◌≤◌, length}
use Rattle.std.specs.List.{AllByRecursion}
use Rattle.chpw_import.specs.Tables.{HasKvno, HoldsBefore}
use Rattle.chpw_import.proofs.table.table_of.Given as goal

abbrev pub invariant-loop-rest : goal.invariant-loop-rest
invariant-loop-rest l =
    HoldsBefore l.realm (length l.entries - length l.rest) l.rest l.entries l.table
    × (length l.rest ≤ length l.entries)
    × (AllByRecursion HasKvno l.rest → AllByRecursion HasKvno l.entries)

abbrev pub decreases-loop-rest : goal.decreases-loop-rest
decreases-loop-rest l = length l.rest
