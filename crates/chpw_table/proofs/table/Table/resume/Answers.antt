use Rattle.std.proofs.Common.{rules, to_z, of_z, w64}
use Rattle.chpw_table.proofs.ResumingLemmas.{resumed_agrees}
use Rattle.chpw_table.proofs.table.Table.resume.Goals as goal

pub returns-clause-resumed : goal.returns-clause-resumed
returns-clause-resumed c =
    resumed_agrees c.args.carried c.args.self.state _ (to_z w64 (of_z w64 c.args.carried.clock))
    (search rules) (search rules) (search rules) (search rules) (search rules) (search rules)
    c.in_ok-used.ensures.holds
