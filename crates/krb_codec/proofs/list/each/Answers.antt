use Rattle.std.proofs.Common.{◌≡◌, ◌++◌, ◌∷◌, [], length, map, arith, sym, ◌∙◌}
use Rattle.std.proofs.lemmas.Result.{err_from_is_err_and}
use Rattle.std.proofs.lemmas.List.{map_push}
use Rattle.krb_codec.specs.Shapes.{many}
use Rattle.krb_codec.specs.Reading.{reads}
use Rattle.krb_codec.proofs.ListLemmas.{goes_on, ends, starts_out}
use Rattle.krb_codec.proofs.SoundLemmas.{shorter}
use Rattle.krb_codec.proofs.CompleteLemmas.{and_true}
use Rattle.krb_codec.proofs.list.each.Goals as goal

pub items-init : goal.items-init
unfolding reads
items-init g c = (length c.args.region.now.left, omega arith, rw c.new-items.ensures.items (starts_out _))

pub returns-in_err-item-clause-read : goal.returns-in_err-item-clause-read
returns-in_err-item-clause-read g c =
    let p = err_from_is_err_and c.from_residual.result c.from_residual.ensures.1 in
    rw (p.1, p.2) (ends (reads g.T.Element.shape) (map g.T.Element.value c.items.items.items)
    c.items.invariant.0 c.items.region c.in_err-item.field-0.0 (reads (many g.T.Element.shape) c.args.region.now)
    (sym c.is_empty.ensures ∙ c.items-test.true) c.items.invariant.1 c.in_err-item.ensures c.items.invariant.2)

pub items-smaller : goal.items-smaller
items-smaller g c = shorter g.T.Element.shape c.items.region c.read_value.new.region _ (and_true _ _ g.T.Element.legal).0 c.in_ok-item.ensures

pub items-preserved : goal.items-preserved
items-preserved g c =
    let less = shorter g.T.Element.shape c.items.region c.read_value.new.region _ (and_true _ _ g.T.Element.legal).0 c.in_ok-item.ensures in
    let more : map g.T.Element.value c.push.new.self.items
    ≡ map g.T.Element.value c.items.items.items ++ g.T.Element.value c.in_ok-item.item ∷ [] =
    rw c.in_ok-push.ensures.items (map_push _ c.items.items.items c.in_ok-item.item) in
    rw more (goes_on (reads g.T.Element.shape)
    (map g.T.Element.value c.items.items.items) c.items.invariant.0 c.items.region c.read_value.new.region
    (g.T.Element.value c.in_ok-item.item) (reads (many g.T.Element.shape) c.args.region.now)
    (sym c.is_empty.ensures ∙ c.items-test.true) c.items.invariant.1 less c.in_ok-item.ensures c.items.invariant.2)
