-- One more part after those written.
use Rattle.std.proofs.Common.{◌≡◌, ◌<◌, ◌∙◌, sym, ap, get_or, take, length, arith, true, string_bytes, [], ◌++◌}
use Rattle.std.specs.List.{join_with_byte}
use Rattle.std.proofs.lemmas.List.Folds.{list_all_more}
use Rattle.chpw_config_text.specs.Writable.{is_writable_part}
use Rattle.chpw_config_text.proofs.TextLemmas.{join_first, join_next}
use Rattle.chpw_config_text.proofs.names.name_text.Goals as goal
use Rattle.chpw_config_text.proofs.names.name_text.Goals.{then-place-gt0+in_ok-push_str, else-place-gt0}

pub loop-place-preserved : goal.loop-place-preserved
loop-place-preserved c =
    let parts = c.args.name.now.parts in
    let place = c.loop-place.place in
    let items = c.as_slice-part-items.ensures.value in
    let within : place < length parts = rw items at c.loop-place-test.true in
    let same : c.as_slice.result.now ≡ get_or parts place c.part-item.result = c.as_slice.ensures.value ∙ rw items at c.part-item.is in
    let here = c.in_ok-part_text.ensures.value in
    let pushed = c.in_ok-push_str-2.ensures.bytes in
    let so_far = c.loop-place.invariant.joined in
    let writable_part : is_writable_part (get_or parts place c.part-item.result) ≡ true = rw same at c.in_ok-part_text.ensures.just in
    record {
      joined = elim c.if-place-gt0.branch [
        | then-place-gt0+in_ok-push_str w ↦
            let slash = w.in_ok-push_str.ensures.bytes in
            let text = w.text-is in
            let next = join_next parts place c.part-item.result w.if-place-gt0.true within in
            cc
        | else-place-gt0 w ↦
            let text = w.text-is in
            let none : place ≡ 0 = omega (arith, w.if-place-gt0.false) in
            let next = join_first parts place c.part-item.result none within in
            let empty : string_bytes c.loop-place.text ≡ [] = so_far ∙ ap (λ n. join_with_byte 47 (take n parts)) none in
            pushed ∙ ap (λ t. string_bytes t ++ c.in_ok-part_text.field-0.now) text
            ∙ ap (λ bytes. bytes ++ c.in_ok-part_text.field-0.now) empty ∙ here ∙ same ∙ sym next
      ];
      writable = list_all_more is_writable_part parts place c.part-item.result within ∙ rw (c.loop-place.invariant.writable, writable_part);
    }
