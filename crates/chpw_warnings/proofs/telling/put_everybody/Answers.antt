use Rattle.chpw_warnings.proofs.TextLemmas.{three}
use Rattle.chpw_warnings.proofs.telling.put_everybody.Goals as goal

pub returns : goal.returns
returns c = record {
  value = three _ _ _ _ _ _ _ c.in_ok-extend_from_slice.ensures.items c.in_ok-put_name.ensures.value
      c.in_ok-extend_from_slice-2.ensures.items;
}
