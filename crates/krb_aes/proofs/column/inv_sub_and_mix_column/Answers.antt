use Rattle.std.proofs.Common.{ap, ◌∙◌, arith}
use Rattle.std.specs.Int.{w32, to_le_bytes}
use Rattle.krb_aes.specs.Field.{inv_sub_byte}
use Rattle.krb_aes.proofs.ColumnTables.{INV_SUB_AND_MIX-0, INV_SUB_AND_MIX-8, INV_SUB_AND_MIX-16, INV_SUB_AND_MIX-24}
use Rattle.krb_aes.proofs.ColumnLemmas.{column_of_words}
use Rattle.krb_aes.proofs.column.inv_sub_and_mix_column.Goals as goal

pub returns : goal.returns
returns c =
    let v = c.args in
    column_of_words 14 11 13 9 (inv_sub_byte v.a) (inv_sub_byte v.b) (inv_sub_byte v.c) (inv_sub_byte v.d) _ _ _ _
    (INV_SUB_AND_MIX-0 v.a (omega arith))
    (ap (to_le_bytes w32) c.rotate_left.ensures ∙ INV_SUB_AND_MIX-8 v.b (omega arith))
    (ap (to_le_bytes w32) c.rotate_left-2.ensures ∙ INV_SUB_AND_MIX-16 v.c (omega arith))
    (ap (to_le_bytes w32) c.rotate_left-3.ensures ∙ INV_SUB_AND_MIX-24 v.d (omega arith))
