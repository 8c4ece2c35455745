use Rattle.std.proofs.Common.{◌+◌, ◌*◌, ◌^◌, ◌≤◌}
use Rattle.chpw_journal.specs.Taking.{IsSoFar}
use Rattle.chpw_journal.proofs.explaining.record_numbered.Given as goal

abbrev pub invariant-loop-restored : goal.invariant-loop-restored
invariant-loop-restored g l =
    IsSoFar l.fn.table (g.R.Read.remaining l.initial.reader) (g.R.Read.remaining l.reader) l.restored
    × (l.restored.records + l.reads ≤ 2 ^ 32) × (l.restored.kept ≤ 1092 * l.restored.records)

abbrev pub decreases-loop-restored : goal.decreases-loop-restored
decreases-loop-restored g l = l.reads
