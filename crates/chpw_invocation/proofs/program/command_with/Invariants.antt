use Rattle.std.proofs.Common.{take}
use Rattle.chpw_invocation.proofs.ShapeLemmas.{HasOptions}
use Rattle.chpw_invocation.proofs.program.command_with.Given as goal

abbrev pub invariant-loop-option : goal.invariant-loop-option
invariant-loop-option l = HasOptions l.fn.name (take l.option-index l.options) l.command
