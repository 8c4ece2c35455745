use Rattle.std.proofs.Common.{ap, ◌∙◌}
use Rattle.krb_keys.specs.declared.key.Key.TheVariants.{Aes256}
use Rattle.krb_keys.proofs.KeysLemmas.{dk_of_16, dk_of_32}
use Rattle.krb_keys.proofs.derivation.derive_key.Goals as goal

pub returns-in-Aes128 : goal.returns-in-Aes128
returns-in-Aes128 c =
    let k1 = rw (c.cipher_of-cipher.ensures.value, c.constant_block-first.ensures) at c.encrypt_block.ensures.value in
    record { value = dk_of_16 c.args.key.now c.args.constant.now c.encrypt_block.new.block _ c.in-Aes128.is k1 c.encrypt_block.array_long }

pub returns-in-Aes256 : goal.returns-in-Aes256
returns-in-Aes256 c =
    let k1 = rw (c.cipher_of-cipher.ensures.value, c.constant_block-first.ensures) at c.encrypt_block.ensures.value in
    let k2 = rw c.cipher_of-cipher.ensures.value at c.encrypt_block-in-Aes256.ensures.value in
    record {
      value =
          ap Aes256 c.two_blocks.ensures
          ∙ dk_of_32 c.args.key.now c.args.constant.now c.encrypt_block.new.block c.encrypt_block-in-Aes256.new.block _ c.in-Aes256.is k1 k2
          c.encrypt_block.array_long c.encrypt_block-in-Aes256.array_long;
    }
