use Rattle.std.proofs.Common.{rules}
use Rattle.chpw_table.specs.Holding.{StandsAt}
use Rattle.chpw_table.proofs.HoldingLemmas.{IfSome-copied}
use Rattle.chpw_table.proofs.PlaceLemmas.{stands_at}
use Rattle.chpw_table.proofs.SortingLemmas.{holders_order}
use Rattle.chpw_table.proofs.table.Table.principal_at.Goals as goal

pub returns-clause-stands : goal.returns-clause-stands
returns-clause-stands c =
    IfSome-copied (StandsAt c.args.self.now.state c.args.place) _ _ c.get.ensures.value (stands_at c.args.self.now.state c.args.place (search rules))

pub returns-clause-order : goal.returns-clause-order
returns-clause-order c = holders_order c.args.self.now.state.principals (search rules)
