use Rattle.std.proofs.Common.{◌≡◌, ◌++◌, length}
use Rattle.chpw_blocks.specs.Blocks.{joined, AreShort}
use Rattle.chpw_blocks.proofs.reading.read_blocks.Given as goal

abbrev pub invariant-loop-rest : goal.invariant-loop-rest
invariant-loop-rest l = (l.text ≡ joined l.blocks.items ++ l.rest) × AreShort l.blocks.items

abbrev pub decreases-loop-rest : goal.decreases-loop-rest
decreases-loop-rest l = length l.rest
