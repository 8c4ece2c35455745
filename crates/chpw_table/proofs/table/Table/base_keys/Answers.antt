use Rattle.std.proofs.Common.{rules}
use Rattle.chpw_table.proofs.BaseLemmas.{base_holders}
use Rattle.chpw_table.proofs.table.Table.base_keys.Goals as goal

pub returns-clause-holders : goal.returns-clause-holders
returns-clause-holders c =
    base_holders c.args.self.now.state c.args.name.now c.args.key c.in-Some.place c.in_ok-keys.keys
    (search rules) c.requires.count (search rules)
