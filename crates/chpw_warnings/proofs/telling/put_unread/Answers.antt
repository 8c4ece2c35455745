use Rattle.chpw_warnings.proofs.TextLemmas.{put_three}
use Rattle.chpw_warnings.proofs.telling.put_unread.Goals as goal

pub returns : goal.returns
returns c = record {
  value = put_three c.put_quoted.result _ _ _ _ _ _ _ c.in_ok-put_place.ensures.value c.in_ok-extend_from_slice.ensures.items
      c.put_quoted.ensures.value;
}
