use Rattle.std.proofs.Common.{ap, ◌∙◌, Option, ℕ}
use Rattle.krb_codec.specs.Sinks.{puts, length_put, length_place, length_enclose}
use Rattle.krb_codec.proofs.SinkLemmas.{length_is}
use Rattle.krb_codec.proofs.writing.text_len.Goals as goal

pub returns-in-Ok : goal.returns-in-Ok
returns-in-Ok g c =
    let s = g.T.Element.shape in
    let v = g.T.Element.value c.args.value.now in
    record {
      value = c.bytes.ensures ∙ c.in-Ok.ensures ∙ ap (λ (h : Option ℕ). puts length_put length_place length_enclose s h v) c.new-length.ensures ∙ length_is s v;
    }
