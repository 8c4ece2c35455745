use Rattle.std.proofs.Common.{◌≡◌, ◌+◌, ◌≤◌, length, length-append, arith, ap, ◌∙◌}
use Rattle.chpw_record.specs.Records.{name_bytes}
use Rattle.chpw_record.proofs.LengthLemmas.{name_short}
use Rattle.chpw_record.proofs.record.framed_key.Goals as goal

pub overflow_cast-size : goal.overflow_cast-size
overflow_cast-size c =
    let items = c.as_slice-text.ensures.value ∙ c.in_ok-put_name.ensures.value in
    let sum : length c.as_slice-text.result.now ≡ length c.in_ok-text.text.items + length (name_bytes c.args.name.now) =
    ap length items ∙ length-append c.in_ok-text.text.items (name_bytes c.args.name.now) in
    let first : length c.in_ok-text.text.items ≡ 57 = c.in_ok-text.ensures.length in
    let name : length (name_bytes c.args.name.now) ≤ 1033 = name_short c.args.name.now c.requires.name in
    omega (arith, sum, first, name)
