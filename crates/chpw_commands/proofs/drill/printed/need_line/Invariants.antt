use Rattle.std.proofs.Common.{◌≡◌, ◌++◌, length}
use Rattle.std.specs.Prelude.{string_bytes, codes}
use Rattle.std.specs.List.{flat_map}
use Rattle.chpw_commands.specs.Printed.{count_text}
use Rattle.chpw_commands.proofs.drill.printed.need_line.Given as goal

abbrev pub invariant-loop-others : goal.invariant-loop-others
invariant-loop-others l = string_bytes l.line ++ flat_map count_text l.others ≡ codes "need" ++ flat_map count_text l.counts

abbrev pub decreases-loop-others : goal.decreases-loop-others
decreases-loop-others l = length l.others
