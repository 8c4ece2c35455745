use Rattle.std.proofs.Common.{ℕ, ◌∙◌, ap, ap₂}
use Rattle.chpw_connections.specs.Held.{slots_of}
use Rattle.slab.specs.Slab.{get}
use Rattle.chpw_connection.specs.Holding.{growth_at}
use Rattle.chpw_slots.specs.Longest.{has_room_besides}
use Rattle.chpw_connection.specs.declared.eviction.EvictionRule.{EvictionRule}
use Rattle.chpw_connections.proofs.set.Connections.has_room_to_read.Goals as goal

pub returns-else-has_room_for : goal.returns-else-has_room_for
returns-else-has_room_for c = record {
  value = c.could_make_room.ensures.value
      ∙ ap (λ (count : ℕ). has_room_besides c.room_to_read-most.result.0 c.room_to_read-most.result.1
      (slots_of c.args.self.now) c.args.slot count) c.growth-count.ensures.value
      ∙ ap₂ (λ (most : ℕ) (who : EvictionRule). has_room_besides most who
      (slots_of c.args.self.now) c.args.slot (growth_at (get (slots_of c.args.self.now) c.args.slot)))
      c.room_to_read-most.ensures.most c.room_to_read-most.ensures.who;
}
