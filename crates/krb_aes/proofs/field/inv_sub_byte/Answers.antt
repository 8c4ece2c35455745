use Rattle.std.proofs.Common.{arith}
use Rattle.krb_aes.proofs.SubstitutionTables.{INV_SBOX-at}
use Rattle.krb_aes.proofs.field.inv_sub_byte.Goals as goal

pub returns : goal.returns
returns c = INV_SBOX-at c.args.b (omega arith)
