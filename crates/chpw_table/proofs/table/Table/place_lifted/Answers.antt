use Rattle.std.proofs.Common.{rules}
use Rattle.chpw_table.proofs.PlacingLemmas.{lifted_place}
use Rattle.chpw_table.proofs.table.Table.place_lifted.Goals as goal

pub returns : goal.returns
returns c = record {
  placed = lifted_place c.args.self.now.state c.args.name.now c.args.key c.in-Some.place c.in-Some.principal.now
      c.in_ok-keys.keys (search rules) c.requires.count c.in-Some.ensures.at (search rules);
}
