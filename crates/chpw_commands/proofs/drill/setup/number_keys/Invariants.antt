use Rattle.std.proofs.Common.{◌≡◌, ◌+◌, ◌++◌, drop}
use Rattle.chpw_commands.specs.Setup.{numbered}
use Rattle.chpw_commands.proofs.drill.setup.number_keys.Given as goal

abbrev pub invariant-loop-key : goal.invariant-loop-key
invariant-loop-key l = record {
  versions : l.kvno + l.key-index ≡ l.newest;
  rows : l.rows.items ++ numbered l.kvno (drop l.key-index l.keys) ≡ numbered l.newest l.keys;
}
