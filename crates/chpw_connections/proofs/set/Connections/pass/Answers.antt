use Rattle.std.proofs.Common.{length, ℕ, ap, ◌≡◌, ◌≤◌, ◌∙◌, arith, rules, sym, refl, le_refl}
use Rattle.chpw_connections.specs.Held.{slots_of, bounds_of, expired_by}
use Rattle.chpw_connections.specs.Queues.{queues_of, queue_of}
use Rattle.chpw_connection.specs.Late.{is_late_in}
use Rattle.chpw_connections.specs.Noting.{noted_by, slots_below, slots_where}
use Rattle.chpw_connections.proofs.NoteLemmas.{notes_as, notes_first, notes_next, late_noted}
use Rattle.chpw_connections.proofs.PassLemmas.{passed_next, left_first, left_step, left_last}
use Rattle.chpw_connections.proofs.ExpiryLemmas.{first_below, next_below, all_below}
use Rattle.chpw_connections.proofs.set.Connections.pass.Goals as goal

pub loop-slot-init : goal.loop-slot-init
loop-slot-init c = record {
  passed = record { below = λ k lt. absurd (omega arith); above = λ k le. refl };
  queues = λ worker. sym (left_first _ _);
  notes = notes_first (is_late_in (bounds_of c.args.self.now) c.args.now) (slots_of c.args.self.now) (noted_by c.args.self.now);
  workers = refl;
  held = le_refl _;
  counts = search rules;
  expired = first_below (bounds_of c.args.self.now) c.args.now (slots_of c.args.self.now) (expired_by c.args.self.now) (omega arith);
  bounds = refl;
}

pub loop-slot-preserved : goal.loop-slot-preserved
loop-slot-preserved c = record {
  passed = passed_next (bounds_of c.args.self.now) (bounds_of c.loop-slot.self) c.args.now c.loop-slot.slot (slots_of c.args.self.now)
      (slots_of c.loop-slot.self) (slots_of c.pass_slot.new.self) c.loop-slot.invariant.bounds c.loop-slot.invariant.passed
      c.pass_slot.ensures.passed c.pass_slot.ensures.others;
  queues = left_step (bounds_of c.args.self.now) (bounds_of c.loop-slot.self) c.args.now c.loop-slot.slot (slots_of c.args.self.now)
      (slots_of c.loop-slot.self) (queues_of c.args.self.now) (queues_of c.loop-slot.self) (queues_of c.pass_slot.new.self)
      c.loop-slot.invariant.bounds (c.loop-slot.invariant.passed.above c.loop-slot.slot (le_refl _)) c.loop-slot.invariant.queues
      c.pass_slot.ensures.queues;
  notes = notes_next (is_late_in (bounds_of c.args.self.now) c.args.now) (slots_of c.args.self.now) (noted_by c.args.self.now)
      (noted_by c.loop-slot.self) (noted_by c.pass_slot.new.self) c.loop-slot.slot c.loop-slot.invariant.notes
      (late_noted (bounds_of c.args.self.now) (bounds_of c.loop-slot.self) c.args.now c.loop-slot.slot (slots_of c.args.self.now)
      (slots_of c.loop-slot.self) (noted_by c.loop-slot.self) (noted_by c.pass_slot.new.self) c.loop-slot.invariant.bounds
      (c.loop-slot.invariant.passed.above c.loop-slot.slot (le_refl _)) c.pass_slot.ensures.notes);
  workers = c.pass_slot.ensures.workers ∙ c.loop-slot.invariant.workers;
  held = omega arith;
  counts = search rules;
  expired = next_below (bounds_of c.args.self.now) (bounds_of c.loop-slot.self) c.args.now c.loop-slot.slot (slots_of c.args.self.now)
      (slots_of c.loop-slot.self) (expired_by c.args.self.now) (expired_by c.loop-slot.self) (expired_by c.pass_slot.new.self)
      c.loop-slot.invariant.bounds (c.loop-slot.invariant.passed.above c.loop-slot.slot (le_refl _)) c.loop-slot.invariant.expired
      c.pass_slot.ensures.expired;
  bounds = search rules;
}

pub returns-clause-queues : goal.returns-clause-queues
returns-clause-queues c worker =
    let slots = slots_of c.args.self.now in
    let few : length slots.slots ≤ c.loop-slot.slot = omega (arith, c.capacity-slot-end.ensures.slots) in
    c.loop-slot.invariant.queues worker ∙ left_last (bounds_of c.args.self.now) c.args.now slots c.loop-slot.slot (queue_of c.args.self.now worker) few

pub returns-clause-expired : goal.returns-clause-expired
returns-clause-expired c =
    let slots = slots_of c.args.self.now in
    let few : length slots.slots ≤ c.loop-slot.slot = omega (arith, c.capacity-slot-end.ensures.slots) in
    c.loop-slot.invariant.expired ∙ all_below (bounds_of c.args.self.now) c.args.now slots c.loop-slot.slot (expired_by c.args.self.now) few

pub returns-clause-notes : goal.returns-clause-notes
returns-clause-notes c =
    let all : c.loop-slot.slot ≡ c.capacity-slot-end.result = omega arith in
    notes_as (noted_by c.args.self.now) (noted_by c.loop-slot.self)
    (slots_below (is_late_in (bounds_of c.args.self.now) c.args.now) (slots_of c.args.self.now) c.loop-slot.slot)
    (slots_where (is_late_in (bounds_of c.args.self.now) c.args.now) (slots_of c.args.self.now))
    (ap (λ (n : ℕ). slots_below (is_late_in (bounds_of c.args.self.now) c.args.now) (slots_of c.args.self.now) n)
    (all ∙ c.capacity-slot-end.ensures.value)) c.loop-slot.invariant.notes
