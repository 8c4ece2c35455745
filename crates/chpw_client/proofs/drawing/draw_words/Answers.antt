use Rattle.chpw_serve.proofs.DrawLemmas.{drawn_more}
use Rattle.chpw_client.proofs.drawing.draw_words.Goals as goal

pub returns : goal.returns
returns g c = record {
  words = drawn_more g.X.Words.gives _ _ _ _ _ c.next_words-session.ensures.words
      (drawn_more g.X.Words.gives _ _ _ _ _ c.next_words-subkey.ensures.words
      (drawn_more g.X.Words.gives _ _ _ _ _ c.next_words-ticket.ensures.words
      (drawn_more g.X.Words.gives _ _ _ _ _ c.next_words-authenticator.ensures.words
      c.next_words-private.ensures.words)));
}
