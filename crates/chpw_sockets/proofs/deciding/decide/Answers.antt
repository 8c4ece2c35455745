use Rattle.std.proofs.Common.{◌<◌, length, arith}
use Rattle.std.proofs.lemmas.Bool.Decides.{nat_tests}
use Rattle.chpw_sockets.specs.Shares.{datagrams_in, most_datagrams}
use Rattle.chpw_sockets.proofs.deciding.decide.Goals as goal

pub returns-in-Ok-true-clause-queued : goal.returns-in-Ok-true-clause-queued
returns-in-Ok-true-clause-queued g c worker is = record {
  decided = record {
    unanswered = c.in-Ok-true.ensures.decided.0 c.in-Ok-true.field-0-test;
    apart = c.may_be_queued.ensures.apart c.if-may_be_queued.true;
    room = c.may_be_queued.ensures.room c.if-may_be_queued.true;
  };
  queued = c.queue.ensures.queued worker is;
}

pub returns-in-Ok-true-clause-few : goal.returns-in-Ok-true-clause-few
returns-in-Ok-true-clause-few g c few =
    let room = c.may_be_queued.ensures.room c.if-may_be_queued.true in
    let less : datagrams_in c.args.by_slot.now < most_datagrams (length c.args.by_slot.now) = grind (arith, nat_tests, room) in
    rw c.queue.ensures.places (omega (arith, less, c.queue.ensures.one_more))
