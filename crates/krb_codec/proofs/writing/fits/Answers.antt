use Rattle.std.proofs.Common.{ap, ◌∙◌}
use Rattle.std.specs.Prelude.{is_some}
use Rattle.krb_codec.proofs.SinkLemmas.{has_length}
use Rattle.krb_codec.proofs.writing.fits.Goals as goal

pub returns : goal.returns
returns g c = record {
  value = c.is_some.ensures ∙ ap is_some c.text_len.ensures.value ∙ has_length g.T.Element.shape (g.T.Element.value c.args.value.now);
}
