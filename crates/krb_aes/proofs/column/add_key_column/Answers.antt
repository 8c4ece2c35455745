use Rattle.std.proofs.Common.{◌∙◌, ap, arith}
use Rattle.std.specs.Int.{w32, to_le_bytes}
use Rattle.std.proofs.lemmas.Nat.{le_bytes_4}
use Rattle.krb_aes.specs.Bytes.{xor_bytes}
use Rattle.krb_aes.proofs.ColumnLemmas.{to_le_bytes-xor}
use Rattle.krb_aes.proofs.column.add_key_column.Goals as goal

pub returns : goal.returns
returns c =
    c.to_le_bytes.ensures ∙ to_le_bytes-xor c.args.column _
    ∙ ap (xor_bytes (to_le_bytes w32 c.args.column))
    (le_bytes_4 c.args.key.now _ (omega arith) (λ i. let f = c.fits-key i in omega arith) c.from_le_bytes.ensures)
