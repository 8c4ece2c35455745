use Rattle.std.proofs.Common.{rules, ℕ, ◌≡◌, ◌∙◌, ap, arith, le_refl}
use Rattle.chpw_connections.specs.Held.{slots_of}
use Rattle.chpw_connection.specs.Confirming.{Confirms, is_confirmed_in}
use Rattle.chpw_connections.specs.Noting.{noted_by, slots_below, slots_where}
use Rattle.chpw_connections.proofs.NoteLemmas.{notes_as, notes_next, test_noted}
use Rattle.chpw_connections.proofs.ConfirmLemmas.{happened_next}
use Rattle.chpw_connections.proofs.set.Connections.confirm.Goals as goal

pub loop-slot-preserved : goal.loop-slot-preserved
loop-slot-preserved c = record {
  confirmed = happened_next (Confirms c.args.ticket c.args.now) c.loop-slot.slot (slots_of c.args.self.now) (slots_of c.loop-slot.self)
      (slots_of c.confirm_slot.new.self) c.loop-slot.invariant.confirmed c.confirm_slot.ensures.confirmed c.confirm_slot.ensures.others;
  notes = notes_next (is_confirmed_in c.args.ticket) (slots_of c.args.self.now) (noted_by c.args.self.now) (noted_by c.loop-slot.self)
      (noted_by c.confirm_slot.new.self) c.loop-slot.slot c.loop-slot.invariant.notes
      (test_noted (is_confirmed_in c.args.ticket) c.loop-slot.slot (slots_of c.args.self.now) (slots_of c.loop-slot.self) (noted_by c.loop-slot.self)
      (noted_by c.confirm_slot.new.self) (c.loop-slot.invariant.confirmed.above c.loop-slot.slot (le_refl _)) c.confirm_slot.ensures.notes);
  held = omega arith;
  rest = search rules;
  queues = search rules;
}

pub returns-clause-notes : goal.returns-clause-notes
returns-clause-notes c =
    let all : c.loop-slot.slot ≡ c.capacity-slot-end.result = omega arith in
    notes_as (noted_by c.args.self.now) (noted_by c.loop-slot.self)
    (slots_below (is_confirmed_in c.args.ticket) (slots_of c.args.self.now) c.loop-slot.slot)
    (slots_where (is_confirmed_in c.args.ticket) (slots_of c.args.self.now))
    (ap (λ (n : ℕ). slots_below (is_confirmed_in c.args.ticket) (slots_of c.args.self.now) n) (all ∙ c.capacity-slot-end.ensures.value))
    c.loop-slot.invariant.notes
