use Rattle.std.proofs.Common.{rules}
use Rattle.chpw_table.proofs.PlacingLemmas.{removed_place}
use Rattle.chpw_table.proofs.table.Table.place_removed.Goals as goal

pub returns : goal.returns
returns c = record {
  placed = removed_place c.args.self.now.state c.args.name.now c.in-Some.place c.in-Some.field-0-1.now (search rules) c.in-Some.ensures.at;
}
