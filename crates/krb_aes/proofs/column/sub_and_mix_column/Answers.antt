use Rattle.std.proofs.Common.{ap, ◌∙◌, arith}
use Rattle.std.specs.Int.{w32, to_le_bytes}
use Rattle.krb_aes.specs.Field.{sub_byte}
use Rattle.krb_aes.proofs.ColumnTables.{SUB_AND_MIX-0, SUB_AND_MIX-8, SUB_AND_MIX-16, SUB_AND_MIX-24}
use Rattle.krb_aes.proofs.ColumnLemmas.{column_of_words}
use Rattle.krb_aes.proofs.column.sub_and_mix_column.Goals as goal

pub returns : goal.returns
returns c =
    let v = c.args in
    column_of_words 2 3 1 1 (sub_byte v.a) (sub_byte v.b) (sub_byte v.c) (sub_byte v.d) _ _ _ _
    (SUB_AND_MIX-0 v.a (omega arith))
    (ap (to_le_bytes w32) c.rotate_left.ensures ∙ SUB_AND_MIX-8 v.b (omega arith))
    (ap (to_le_bytes w32) c.rotate_left-2.ensures ∙ SUB_AND_MIX-16 v.c (omega arith))
    (ap (to_le_bytes w32) c.rotate_left-3.ensures ∙ SUB_AND_MIX-24 v.d (omega arith))
