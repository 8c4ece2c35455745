use Rattle.std.proofs.Common.{◌≡◌, drop, map}
use Rattle.chpw_commands.specs.Drilled.{drilled}
use Rattle.chpw_commands.proofs.RunLemmas.{Stands}
use Rattle.chpw_commands.proofs.drill.run_script.Given as goal

abbrev pub invariant-loop-line : goal.invariant-loop-line
invariant-loop-line l = record {
  number : l.number ≡ l.line-index;
  run : Stands (drilled l.script) l.stage l.number (map (λ w. w.now) (drop l.line-index l.lines)) l.output.items;
}
