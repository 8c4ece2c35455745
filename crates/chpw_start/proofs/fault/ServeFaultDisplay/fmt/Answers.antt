use Rattle.std.proofs.Common.{ℕ, List, ap, sym, subst}
use Rattle.std.specs.Fmt.{HasWritten}
use Rattle.chpw_start.specs.Faults.{line_of}
use Rattle.chpw_start.proofs.fault.ServeFaultDisplay.fmt.Goals as goal

pub returns-in-Exposed-clause-writes : goal.returns-in-Exposed-clause-writes
returns-in-Exposed-clause-writes g c = λ plain whole.
    subst (λ (text : List ℕ). HasWritten {W = g.row.W.Denot} g.W.Write.write_str_gives c.args.f.now text c.write-in-Exposed.new.self)
    (sym (ap line_of c.in-Exposed.is)) (c.write-in-Exposed.ensures.writes plain whole)
