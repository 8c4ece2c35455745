use Rattle.std.proofs.Common.{◌≤◌}
use Rattle.std.specs.Io.KnownBytes.{Consumes}
use Rattle.chpw_commands.proofs.drill.reading.read_script.Given as goal

abbrev pub invariant-loop-count : goal.invariant-loop-count
invariant-loop-count g l =
    Consumes (g.R.Read.remaining l.initial.reader) (g.R.Read.remaining l.reader) l.script.items
    × (l.reads ≤ l.initial.reads)

abbrev pub decreases-loop-count : goal.decreases-loop-count
decreases-loop-count g l = l.reads
