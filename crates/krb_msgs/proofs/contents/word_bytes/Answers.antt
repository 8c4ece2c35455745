use Rattle.std.proofs.Common.{◌≡◌, ◌∙◌, ◌∷◌, [], slice_index_or, ap, length, rules, sym}
use Rattle.krb_msgs.specs.Making.{word_bytes}
use Rattle.krb_msgs.proofs.WordLemmas.{after_place, cells}
use Rattle.krb_msgs.proofs.contents.word_bytes.Goals as goal

pub returns : goal.returns
returns c =
    let four : length c.args.words ≡ 4 = search rules in
    let is : (slice_index_or c.to_le_bytes.result 0 0 ∷ slice_index_or c.to_le_bytes.result 1 0
    ∷ slice_index_or c.to_le_bytes.result 2 0 ∷ slice_index_or c.to_le_bytes.result 3 0
    ∷ slice_index_or c.to_le_bytes-2.result 0 0 ∷ slice_index_or c.to_le_bytes-2.result 1 0
    ∷ slice_index_or c.to_le_bytes-2.result 2 0 ∷ slice_index_or c.to_le_bytes-2.result 3 0
    ∷ slice_index_or c.to_le_bytes-3.result 0 0 ∷ slice_index_or c.to_le_bytes-3.result 1 0
    ∷ slice_index_or c.to_le_bytes-3.result 2 0 ∷ slice_index_or c.to_le_bytes-3.result 3 0
    ∷ slice_index_or c.to_le_bytes-4.result 0 0 ∷ slice_index_or c.to_le_bytes-4.result 1 0
    ∷ slice_index_or c.to_le_bytes-4.result 2 0 ∷ slice_index_or c.to_le_bytes-4.result 3 0 ∷ [])
    ≡ word_bytes (cells 0 4 c.args.words) = search rules in
    record { value = is ∙ ap word_bytes (sym (after_place c.args.words 0 4 four)) }
