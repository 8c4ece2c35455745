use Rattle.std.proofs.Common.{subst}
use Rattle.krb_codec.specs.Reading.{Gives}
use Rattle.krb_codec.proofs.SoundLemmas.{is_found}
use Rattle.krb_codec.proofs.CompleteLemmas.{all_again, and_true}
use Rattle.krb_codec.proofs.reading.read_all.Goals as goal

pub returns-clause-value : goal.returns-clause-value
returns-clause-value g c = is_found g.T.Element.shape g.T.Element.value c.args.text.now c.whole.result c.whole.ensures

pub returns-clause-found : goal.returns-clause-found
returns-clause-found g c = λ v h. subst (λ r. Gives g.T.Element.value c.whole.result r)
    (all_again g.T.Element.shape (and_true _ _ g.T.Element.legal).1 c.args.text.now v h) c.whole.ensures
