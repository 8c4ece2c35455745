use Rattle.std.proofs.Common.{arith}
use Rattle.chpw_transfers.proofs.NotedLemmas.{looks_first, looks_next, looks_all}
use Rattle.chpw_transfers.proofs.rounds.look_at_noted.Goals as goal

pub loop-init : goal.loop-init
loop-init g c = looks_first (g.N.Noting.noted c.args.noting.now) (g.N.Noting.looked_at c.args.noting.now)

pub loop-preserved : goal.loop-preserved
loop-preserved g c =
    looks_next (g.N.Noting.noted c.args.noting.now) (g.N.Noting.noted c.loop.noting) (g.N.Noting.noted c.look_at_first.new.self)
    (g.N.Noting.looked_at c.args.noting.now) (g.N.Noting.looked_at c.loop.noting) (g.N.Noting.looked_at c.look_at_first.new.self)
    c.loop.counter c.count-end.result c.count-end.ensures.count (omega arith) c.loop.invariant c.look_at_first.ensures.first

pub returns : goal.returns
returns g c = record {
  each = looks_all (g.N.Noting.noted c.args.noting.now) (g.N.Noting.noted c.loop.noting) (g.N.Noting.looked_at c.args.noting.now)
      (g.N.Noting.looked_at c.loop.noting) c.loop.counter c.count-end.result c.count-end.ensures.count (omega arith) c.loop.invariant;
}
