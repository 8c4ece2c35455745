use Rattle.std.proofs.Common.{◌≤◌, ◌<◌, length, take}
use Rattle.std.specs.Io.KnownBytes.{Consumes}
use Rattle.chpw_read_fully.proofs.filling.fill.Given as goal

abbrev pub invariant-loop-filled : goal.invariant-loop-filled
invariant-loop-filled g l =
    Consumes (g.R.Read.remaining l.initial.reader) (g.R.Read.remaining l.reader) (take l.filled l.buffer)
    × (l.filled ≤ length l.buffer) × (l.reads ≤ l.initial.reads) × (0 < l.filled → l.reads < l.initial.reads)

abbrev pub decreases-loop-filled : goal.decreases-loop-filled
decreases-loop-filled g l = l.reads
