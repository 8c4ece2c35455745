use Rattle.std.proofs.Common.{◌≡◌, ◌++◌, length}
use Rattle.std.specs.Prelude.{string_bytes}
use Rattle.std.specs.List.{flat_map}
use Rattle.chpw_commands.specs.Printed.{row_text}
use Rattle.chpw_commands.proofs.drill.printed.rows_words.Given as goal

abbrev pub invariant-loop-others : goal.invariant-loop-others
invariant-loop-others l = string_bytes l.words ++ flat_map row_text l.others ≡ flat_map row_text l.rows

abbrev pub decreases-loop-others : goal.decreases-loop-others
decreases-loop-others l = length l.others
