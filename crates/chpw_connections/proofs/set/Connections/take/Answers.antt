use Rattle.std.proofs.Common.{◌∙◌, sym, ap, inr, rules, Bool, not, [], ◌∷◌}
use Rattle.slab.specs.Slab.{get}
use Rattle.chpw_connections.specs.Held.{slots_of, bounds_of}
use Rattle.chpw_connections.specs.Noting.{noted_by, slot_if}
use Rattle.chpw_connection.specs.Slot.{is_gone_in}
use Rattle.chpw_connections.proofs.NoteLemmas.{notes_as, late_can_fail}
use Rattle.chpw_slots.specs.Waiting.{lists_of}
use Rattle.chpw_connections.specs.Queues.{queues_of}
use Rattle.chpw_slots.proofs.HoldsLemmas.{front_leaves, others_stay}
use Rattle.chpw_connections.proofs.set.Connections.take.Goals as goal

pub returns-then-is_late-clause-others : goal.returns-then-is_late-clause-others
returns-then-is_late-clause-others c other apart =
    let old = c.args.self.now in
    others_stay (lists_of old.queues) (queues_of c.fail.new.self) old.slots.connections c.args.worker c.in_ok-slot.slot other
    c.in_ok-slot.ensures.some c.fail.ensures.leaves old.waiting apart

pub returns-then-is_late-clause-none : goal.returns-then-is_late-clause-none
returns-then-is_late-clause-none c =
    let old = c.args.self.now in
    inr record {
      slot = c.in_ok-slot.slot;
      first = front_leaves (lists_of old.queues) (queues_of c.fail.new.self) old.slots.connections c.args.worker c.in_ok-slot.slot
          c.in_ok-slot.ensures.some c.fail.ensures.leaves old.waiting;
      late = sym c.is_late.ensures.value ∙ c.if-is_late.true;
      ends = c.fail.ensures.happens;
      counted = search rules;
      noted = notes_as (noted_by old) (noted_by c.fail.new.self) (slot_if (not (is_gone_in (get (slots_of old) c.in_ok-slot.slot))) c.in_ok-slot.slot)
          (c.in_ok-slot.slot ∷ []) (ap (λ (t : Bool). slot_if (not t) c.in_ok-slot.slot) (late_can_fail (bounds_of old) c.args.now
          (get (slots_of old) c.in_ok-slot.slot) (sym c.is_late.ensures.value ∙ c.if-is_late.true))) c.fail.ensures.notes;
    }
