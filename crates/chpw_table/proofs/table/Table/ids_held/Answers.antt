use Rattle.std.proofs.Common.{rules}
use Rattle.chpw_table.proofs.HeldIdLemmas.{held_once, held_ids}
use Rattle.chpw_table.proofs.table.Table.ids_held.Goals as goal

pub returns-clause-once : goal.returns-clause-once
returns-clause-once c = held_once c.args.self.now.state.used (search rules)

pub returns-clause-held : goal.returns-clause-held
returns-clause-held c = λ s a id. held_ids c.args.self.now.state s a (search rules) id
