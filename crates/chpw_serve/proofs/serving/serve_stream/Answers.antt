use Rattle.std.proofs.Common.{refl, sym, subst, inl, inr, List, ℕ}
use Rattle.std.specs.Io.KnownBytes.{Appends}
use Rattle.chpw_frame.specs.Stream.{message, sent}
use Rattle.chpw_frame.specs.Receiving.{TakesPiece, AppendsFront}
use Rattle.chpw_serve.specs.declared.serving.Ended.TheVariants as end
use Rattle.chpw_serve.proofs.ServingLemmas.{so_far_start, so_far_on, so_far_ends, too_long_ends}
use Rattle.chpw_serve.proofs.serving.serve_stream.Goals as goal

pub returns-in-Err : goal.returns-in-Err
returns-in-Err g c = record {
  served = so_far_ends _ _ _ _ _ _ _ _ _ _ _ _ end.Memory c.loop-served.invariant c.loop-served-test.true
      (inl (c.in-Err.ensures.refused, (refl, refl)));
}

pub returns-in-Ok-Ended : goal.returns-in-Ok-Ended
returns-in-Ok-Ended g c = record {
  served = so_far_ends _ _ _ _ _ _ _ _ _ _ _ _ end.Input c.loop-served.invariant c.loop-served-test.true
      (rw c.in-Ok-Ended.field-0-is at c.in-Ok-Ended.ensures.piece, (refl, refl));
}

pub returns-in-Ok-CutOff : goal.returns-in-Ok-CutOff
returns-in-Ok-CutOff g c = record {
  served = so_far_ends _ _ _ _ _ _ _ _ _ _ _ _ end.CutOff c.loop-served.invariant c.loop-served-test.true
      (rw c.in-Ok-CutOff.field-0-is at c.in-Ok-CutOff.ensures.piece, (refl, refl));
}

pub returns-in-Ok-ReadFault : goal.returns-in-Ok-ReadFault
returns-in-Ok-ReadFault g c = record {
  served = so_far_ends _ _ _ _ _ _ _ _ _ _ _ _ end.ReadFault c.loop-served.invariant c.loop-served-test.true
      (rw c.in-Ok-ReadFault.field-0-is at c.in-Ok-ReadFault.ensures.piece, (refl, refl));
}

pub returns-in-Ok-TooLong : goal.returns-in-Ok-TooLong
returns-in-Ok-TooLong g c = record {
  served = so_far_ends _ _ _ _ _ _ _ _ _ _ _ _ c.refuse.result c.loop-served.invariant c.loop-served-test.true
      (too_long_ends _ _ _ _ _ _ _ _ _ _ c.refuse.result (rw c.in-Ok-TooLong.field-0-is at c.in-Ok-TooLong.ensures.piece) c.refuse.ensures.end refl);
}

pub returns-in-Err-answer_message : goal.returns-in-Err-answer_message
returns-in-Err-answer_message g c =
    let old = g.R.Read.remaining c.loop-served.reader in
    let new = g.R.Read.remaining c.read_tcp.new.reader in
    record {
      served = so_far_ends _ _ _ _ _ _ _ _ _ _ _ _ end.Memory c.loop-served.invariant c.loop-served-test.true
          (inr (inl (record {
            text = c.deref.result.now;
            moment = c.draw-drawn.result.now;
            words = c.draw-drawn.result.words;
            taken = subst (λ (text : List ℕ). TakesPiece (message text) old new)
                (sym c.deref.ensures.value) (rw c.in-Ok-Message.field-0-is at c.in-Ok-Message.ensures.piece).0;
            moment_is = c.draw-drawn.ensures.moment;
            words_are = c.draw-drawn.ensures.words;
            nine = c.draw-drawn.ensures.nine;
            adds_it = c.in-Err-answer_message.ensures.refused;
            out = refl;
          })));
    }

pub returns-in-Err-write_tcp : goal.returns-in-Err-write_tcp
returns-in-Err-write_tcp g c =
    let old = g.R.Read.remaining c.loop-served.reader in
    let new = g.R.Read.remaining c.read_tcp.new.reader in
    let out = g.W.Write.contents c.loop-served.writer in
    let then = g.W.Write.contents c.write_tcp.new.writer in
    record {
      served = so_far_ends _ _ _ _ _ _ _ _ _ _ _ _ end.WriteFault c.loop-served.invariant c.loop-served-test.true
          (inl (
            record {
              text = c.deref.result.now;
              moment = c.draw-drawn.result.now;
              words = c.draw-drawn.result.words;
              opened = c.in-Ok.answer.opened;
              reply = c.in-Ok.answer.bytes.items;
            },
            subst (λ (text : List ℕ). TakesPiece (message text) old new)
                (sym c.deref.ensures.value) (rw c.in-Ok-Message.field-0-is at c.in-Ok-Message.ensures.piece).0,
            record {
              moment = c.draw-drawn.ensures.moment;
              words = c.draw-drawn.ensures.words;
              nine = c.draw-drawn.ensures.nine;
              gate = c.answer_message.new.gate;
              answer = c.in-Ok.ensures.answers;
              passed = refl;
            },
            subst (λ (bytes : List ℕ). AppendsFront out then (sent bytes)) c.deref-in-loop-served.ensures.value c.in-Err-write_tcp.ensures.front,
          ));
    }

pub loop-served-preserved : goal.loop-served-preserved
loop-served-preserved g c =
    let old = g.R.Read.remaining c.loop-served.reader in
    let new = g.R.Read.remaining c.read_tcp.new.reader in
    let out = g.W.Write.contents c.loop-served.writer in
    let then = g.W.Write.contents c.write_tcp.new.writer in
    so_far_on _ _ _ _ _ _ _ _ _ _ _ _ c.loop-served.invariant c.loop-served-test.true (
      record {
        text = c.deref.result.now;
        moment = c.draw-drawn.result.now;
        words = c.draw-drawn.result.words;
        opened = c.in-Ok.answer.opened;
        reply = c.in-Ok.answer.bytes.items;
      },
      (
        subst (λ (text : List ℕ). TakesPiece (message text) old new)
            (sym c.deref.ensures.value) (rw c.in-Ok-Message.field-0-is at c.in-Ok-Message.ensures.piece).0,
        record {
          moment = c.draw-drawn.ensures.moment;
          words = c.draw-drawn.ensures.words;
          nine = c.draw-drawn.ensures.nine;
          gate = c.answer_message.new.gate;
          answer = c.in-Ok.ensures.answers;
          passed = c.pass_answered.ensures.passed;
        },
        subst (λ (bytes : List ℕ). Appends out then (sent bytes)) c.deref-in-loop-served.ensures.value c.in-Ok-write_tcp.ensures.whole,
      ),
    )

pub loop-served-init : goal.loop-served-init
loop-served-init g c = so_far_start _ _ _ _ _ _ _ _ _
