use Rattle.std.proofs.Common.{ap, ◌∙◌, List, [], ℕ}
use Rattle.krb_codec.specs.Sinks.{puts, text_put, text_place, text_enclose}
use Rattle.krb_codec.proofs.SinkLemmas.{text_held}
use Rattle.krb_codec.proofs.writing.write_all.Goals as goal

pub returns : goal.returns
returns g c =
    let s = g.T.Element.shape in
    let v = g.T.Element.value c.args.value.now in
    c.into_vec.ensures ∙ c.in_ok-put_value.ensures ∙ ap (λ (t : List ℕ). puts text_put text_place text_enclose s t v) c.new-sink.ensures ∙ text_held s [] v
