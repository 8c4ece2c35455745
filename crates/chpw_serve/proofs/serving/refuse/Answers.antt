use Rattle.std.proofs.Common.{refl, subst, None}
use Rattle.chpw_table.specs.Replies.{Answer}
use Rattle.chpw_serve.specs.Hearing.{refusal}
use Rattle.chpw_serve.proofs.serving.refuse.Goals as goal

pub returns-in-Err : goal.returns-in-Err
returns-in-Err g c = record {
  end = (
    _,
    record {
      moment = c.draw-drawn.result.now;
      words = c.draw-drawn.result.words;
      moment_is = c.draw-drawn.ensures.moment;
      words_are = c.draw-drawn.ensures.words;
      nine = c.draw-drawn.ensures.nine;
      bytes_are = refl;
      heard = subst (λ (a : Answer). g.O.Observer.hears c.args.observer.now (refusal c.args.peer
          c.draw-drawn.result.now None a) c.refused.new.self) c.too_long.ensures.value c.refused.ensures.heard;
    },
    refl,
  );
}
