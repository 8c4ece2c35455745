use Rattle.std.proofs.Common.{◌≡◌, ap, arith, inl, inr, length, rules}
use Rattle.chpw_sockets.proofs.PlaceLemmas.{written_back}
use Rattle.chpw_sockets.proofs.PostLemmas.{queues_there, taken}
use Rattle.chpw_sockets.proofs.places.Sockets.take_datagram.Goals as goal

pub returns-in-Ok-clause-queued : goal.returns-in-Ok-clause-queued
returns-in-Ok-clause-queued g c = rw c.in-Some.is (λ worker queued.
    let here : c.deref_mut-in-Ok.result.now ≡ c.args.self.now.by_slot.items = search rules in
    let count : length c.decide.new.by_slot ≡ c.args.self.now.by_slot.len = search (rules, arith, c.decide.ensures.places, ap length here) in
    record {
      sender = c.in-Ok.sender;
      message = c.in-Ok.message.now;
      this =
          queues_there _ _ _ _ _ _ _ _ _ _ _ _ _ _ _ c.receive.ensures.rest here
          (written_back c.args.self.now.by_slot.len c.decide.new.by_slot _ count) (c.decide.ensures.queued worker queued);
    })

pub returns-in-Ok-clause-in_turn : goal.returns-in-Ok-clause-in_turn
returns-in-Ok-clause-in_turn g c = λ some. elim (c.decide.ensures.in_turn some) [
  | inl same ↦ inl same
  | inr drops ↦ inr (c.in-Ok.sender, c.in-Ok.message.now, drops)
]

pub returns-in-Ok-clause-taken : goal.returns-in-Ok-clause-taken
returns-in-Ok-clause-taken g c = rw c.in-Some.is (
    let here : c.deref_mut-in-Ok.result.now ≡ c.args.self.now.by_slot.items = search rules in
    let count : length c.decide.new.by_slot ≡ c.args.self.now.by_slot.len = search (rules, arith, c.decide.ensures.places, ap length here) in
    let room : c.deref_mut.result.now ≡ c.args.self.now.datagram.items = search rules in
    inl (taken g.D.DatagramChannel.left g.D.DatagramChannel.sent c.in-Some.datagrams c.receive.new.self c.decide.new.datagrams _ _ _ _ _ _ _ _ _ _ _ _ _
    (ap length room) c.in-Ok.ensures.received c.receive.ensures.sent c.receive.ensures.rest
    c.decide.ensures.left c.decide.ensures.again c.decide.ensures.rest
    (λ worker queued.
    queues_there _ _ _ _ _ _ _ _ _ _ _ _ _ _ _ c.receive.ensures.rest here
    (written_back c.args.self.now.by_slot.len c.decide.new.by_slot _ count) (c.decide.ensures.queued worker queued))))
