use Rattle.std.proofs.Common.{◌≡◌, ◌≤◌, ◌-◌, take, length}
use Rattle.std.specs.List.{flat_map}
use Rattle.std.specs.Io.KnownBytes.{Appends}
use Rattle.chpw_report.specs.Configurations.{names_of}
use Rattle.chpw_report.specs.Reports.{told_of}
use Rattle.chpw_report.proofs.report.write_report.Given as goal

abbrev pub invariant-loop-name : goal.invariant-loop-name
invariant-loop-name g l =
    Appends (g.W.Write.contents l.fn.writer) (g.W.Write.contents l.writer)
    (flat_map (told_of l.form l.realm l.table) (take l.place (names_of l.table.state)))
    × (l.place ≤ length (names_of l.table.state))

abbrev pub decreases-loop-name : goal.decreases-loop-name
decreases-loop-name g l = length (names_of l.table.state) - l.place
