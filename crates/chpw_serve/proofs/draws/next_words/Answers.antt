use Rattle.std.proofs.Common.{◌≡◌, ℕ, List, refl, sym, subst, ◌∙◌, arith}
use Rattle.std.proofs.lemmas.List.{length-replicate, length-set, take_all, take_more_set}
use Rattle.chpw_serve.specs.InTurn.{InTurn}
use Rattle.chpw_serve.proofs.DrawLemmas.{drawn_on}
use Rattle.chpw_serve.proofs.draws.next_words.Goals as goal

pub loop-i-init : goal.loop-i-init
loop-i-init g c = (length-replicate _ _, refl)

pub loop-i-preserved : goal.loop-i-preserved
loop-i-preserved g c =
    let len = c.loop-i.invariant.0 in (
      length-set _ _ _ ∙ len,
      subst (λ (xs : List ℕ). InTurn g.X.Words.gives c.args.words.now xs c.next.new.self)
          (sym (take_more_set c.loop-i.drawn c.loop-i.i c.next.result (omega arith)))
          (drawn_on g.X.Words.gives _ _ _ _ _ c.loop-i.invariant.1 c.next.ensures.given),
    )

pub returns : goal.returns
returns g c =
    let len = c.loop-i.invariant.0 in
    record {
      words = subst (λ (xs : List ℕ). InTurn g.X.Words.gives c.args.words.now xs c.loop-i.words)
          (take_all c.loop-i.i c.loop-i.drawn (omega arith)) c.loop-i.invariant.1;
      count = len;
    }
