use Rattle.std.proofs.Common.{sym}
use Rattle.chpw_table.proofs.SortingLemmas.{name_at_place}
use Rattle.chpw_table.proofs.table.Table.number_of.Goals as goal

pub returns-in-Some-clause-named : goal.returns-in-Some-clause-named
returns-in-Some-clause-named c = name_at_place c.args.name.now c.args.self.now.state.principals c.in-Some.place (sym c.in-Some.ensures.value)
