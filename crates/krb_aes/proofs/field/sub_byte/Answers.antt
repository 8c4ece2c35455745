use Rattle.std.proofs.Common.{arith}
use Rattle.krb_aes.proofs.SubstitutionTables.{SBOX-at}
use Rattle.krb_aes.proofs.field.sub_byte.Goals as goal

pub returns : goal.returns
returns c = SBOX-at c.args.b (omega arith)
