-- A slice of `u8` has bytes.
use Rattle.std.proofs.Common.{arith}
use Rattle.chpw_config_text.proofs.TextLemmas.{bytes_tested}
use Rattle.chpw_config_text.proofs.fields.hexadecimal.Goals as goal

pub returns-in_err-encode-clause-typed : goal.returns-in_err-encode-clause-typed
returns-in_err-encode-clause-typed c = bytes_tested c.args.key.now (λ i. omega (arith, c.type_inv.key i))

pub returns-clause-typed : goal.returns-clause-typed
returns-clause-typed c = bytes_tested c.args.key.now (λ i. omega (arith, c.type_inv.key i))
