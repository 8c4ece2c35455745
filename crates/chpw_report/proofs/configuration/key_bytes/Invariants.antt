use Rattle.std.proofs.Common.{◌≡◌, map, take}
use Rattle.chpw_report.specs.Configurations.{key_bytes_of}
use Rattle.chpw_report.proofs.configuration.key_bytes.Given as goal

abbrev pub invariant-loop-row : goal.invariant-loop-row
invariant-loop-row l = l.keys.items ≡ map key_bytes_of (take l.row-index l.rows)
