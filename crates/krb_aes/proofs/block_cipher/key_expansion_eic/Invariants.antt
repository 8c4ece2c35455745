use Rattle.krb_aes.specs.EquivalentInverse.{IsKeyExpansionEic}
use Rattle.krb_aes.proofs.block_cipher.key_expansion_eic.Given as goal

abbrev pub invariant-loop-round : goal.invariant-loop-round
invariant-loop-round l = IsKeyExpansionEic l.back l.words l.round
