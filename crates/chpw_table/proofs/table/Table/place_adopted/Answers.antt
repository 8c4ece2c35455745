use Rattle.std.proofs.Common.{rules}
use Rattle.chpw_table.proofs.PlacingLemmas.{adopted_place, joining_place, no_keys_at}
use Rattle.chpw_table.proofs.table.Table.place_adopted.Goals as goal

pub returns-in_ok-keys-in-Some : goal.returns-in_ok-keys-in-Some
returns-in_ok-keys-in-Some c = record {
  placed = adopted_place c.args.self.now.state c.args.name.now c.args.key c.in-Some.place c.in-Some.principal.now
      c.in_ok-keys-in-Some.keys (search rules) (search rules) c.requires.count c.in-Some.ensures.at (search rules);
}

pub returns-in_ok-clone-in-None : goal.returns-in_ok-clone-in-None
returns-in_ok-clone-in-None c =
    let none = no_keys_at c.args.self.now.state c.args.name.now c.in-None.ensures.none in
    record {
      placed = joining_place c.args.self.now.state c.args.name.now c.args.key _ c.in_ok-keys-in-None.keys _
          (search rules) (search rules) c.requires.count c.requires.name none c.place_for-place.ensures.within (c.requires.room none)
          c.place_for-place.ensures.order (search rules) (search rules);
    }
