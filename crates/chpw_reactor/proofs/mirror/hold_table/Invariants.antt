use Rattle.std.proofs.Common.{take}
use Rattle.chpw_reactor.specs.Tasks.{AreToldInTurn, names_of}
use Rattle.chpw_reactor.proofs.mirror.hold_table.Given as goal

abbrev pub invariant-loop-place : goal.invariant-loop-place
invariant-loop-place l = AreToldInTurn l.table.state (take l.place (names_of l.table.state)) l.fn.kdc l.kdc
