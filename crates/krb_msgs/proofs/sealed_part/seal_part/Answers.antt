use Rattle.std.proofs.Common.{◌≡◌, ◌<◌, ℕ, List, length, subst, sym, ◌∙◌}
use Rattle.krb_codec.specs.Texts.{text}
use Rattle.krb_codec.proofs.CompleteLemmas.{and_true}
use Rattle.krb_msgs.proofs.PartLemmas.{some_text}
use Rattle.krb_msgs.proofs.sealed_part.seal_part.Goals as goal

pub seal-requires : goal.seal-requires
seal-requires g c =
    let e : c.deref.result.now ≡ text g.T.Element.shape (g.T.Element.value c.args.content.now) = c.deref.ensures.value ∙ c.in_ok-plain.ensures in
    record {
      some = subst (λ (z : List ℕ). 0 < length z) (sym e)
          (some_text g.T.Element.shape (g.T.Element.value c.args.content.now) (and_true _ _ g.T.Element.legal).0);
    }
