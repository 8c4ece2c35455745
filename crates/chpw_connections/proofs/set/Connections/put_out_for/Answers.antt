use Rattle.std.proofs.Common.{rules, arith, le_refl, refl, ◌∙◌, ap, Bool, not, [], ◌∷◌}
use Rattle.std.proofs.lemmas.Bool.Decides.{nat_tests}
use Rattle.chpw_connections.specs.Held.{slots_of}
use Rattle.chpw_slots.proofs.HoldsLemmas.{longest_besides_not_queued}
use Rattle.chpw_connections.proofs.RoomLemmas.{room_start, room_next}
use Rattle.chpw_slots.proofs.GivenLemmas.{room_stays, fewer_held, nobody_room}
use Rattle.slab.specs.Slab.{get}
use Rattle.chpw_connections.specs.Noting.{noted_by, slot_if}
use Rattle.chpw_connection.specs.Slot.{is_gone_in}
use Rattle.chpw_connections.proofs.NoteLemmas.{notes_as}
use Rattle.chpw_connections.proofs.EndsLemmas.{ends_none, ends_next, can_fail}
use Rattle.chpw_connections.proofs.NeedLemmas.{needed_none, needed_next}
use Rattle.chpw_connections.proofs.set.Connections.put_out_for.Goals as goal

pub loop-who-init : goal.loop-who-init
loop-who-init c = record {
  makes_room = room_start c.args.who (slots_of c.args.self.now) c.args.slot;
  needed = needed_none c.args.most c.args.count c.args.who (slots_of c.args.self.now) c.args.slot;
  enough = c.requires.enough;
  notes = ends_none c.args.who (slots_of c.args.self.now) c.args.slot (noted_by c.args.self.now);
  held = le_refl _;
  rest = search rules;
  queues = refl;
}

pub loop-who-preserved : goal.loop-who-preserved
loop-who-preserved c = record {
  makes_room = room_next c.args.who (slots_of c.args.self.now) (slots_of c.loop-who.self) (slots_of c.fail.new.self) c.args.slot c.in-Some.other
      c.loop-who.invariant.makes_room c.in-Some.ensures.found c.fail.ensures.happens;
  needed = needed_next c.args.most c.args.count c.args.who (slots_of c.args.self.now) (slots_of c.loop-who.self) (slots_of c.fail.new.self)
      c.args.slot c.in-Some.other c.loop-who.invariant.makes_room c.in-Some.ensures.found c.fail.ensures.happens (grind (arith, nat_tests));
  enough = room_stays c.args.most c.args.who c.args.count (slots_of c.loop-who.self) (slots_of c.fail.new.self) c.args.slot c.in-Some.other
      c.in-Some.ensures.found c.fail.ensures.happens c.loop-who.invariant.enough;
  notes = ends_next c.args.who (slots_of c.args.self.now) (slots_of c.loop-who.self) (slots_of c.fail.new.self) c.args.slot c.in-Some.other
      c.loop-who.invariant.makes_room c.in-Some.ensures.found c.fail.ensures.happens (noted_by c.args.self.now) (noted_by c.loop-who.self)
      (noted_by c.fail.new.self) c.loop-who.invariant.notes
      (notes_as (noted_by c.loop-who.self) (noted_by c.fail.new.self)
      (slot_if (not (is_gone_in (get (slots_of c.loop-who.self) c.in-Some.other))) c.in-Some.other) (c.in-Some.other ∷ [])
      (ap (λ (t : Bool). slot_if (not t) c.in-Some.other) (can_fail c.args.who (slots_of c.args.self.now) (slots_of c.loop-who.self)
      (slots_of c.fail.new.self) c.args.slot c.in-Some.other c.loop-who.invariant.makes_room c.in-Some.ensures.found c.fail.ensures.happens))
      c.fail.ensures.notes);
  held = let less = fewer_held c.args.who (slots_of c.loop-who.self) (slots_of c.fail.new.self) c.args.slot c.in-Some.other
      c.in-Some.ensures.found c.fail.ensures.happens in omega arith;
  rest = search rules;
  queues = c.fail.ensures.same (longest_besides_not_queued (slots_of c.loop-who.self)
      c.args.slot c.args.who c.in-Some.other c.in-Some.ensures.found) ∙ c.loop-who.invariant.queues;
}

pub loop-who-smaller : goal.loop-who-smaller
loop-who-smaller c = fewer_held c.args.who (slots_of c.loop-who.self)
    (slots_of c.fail.new.self) c.args.slot c.in-Some.other c.in-Some.ensures.found c.fail.ensures.happens

pub returns-in-None-clause-room : goal.returns-in-None-clause-room
returns-in-None-clause-room c =
    nobody_room c.args.most c.args.who (slots_of c.loop-who.self) c.args.slot c.args.count c.in-None.ensures.none c.loop-who.invariant.enough
