use Rattle.std.proofs.Common.{◌≡◌, true, false, nat_lt, length, arith}
use Rattle.std.proofs.lemmas.Bool.Decides.{nat_tests}
use Rattle.krb_keys.specs.Hmac.{key_block}
use Rattle.krb_keys.proofs.hmac.key_block.Goals as goal

pub returns-then-key-gt-HASH_BLOCK_LEN : goal.returns-then-key-gt-HASH_BLOCK_LEN
unfolding key_block
returns-then-key-gt-HASH_BLOCK_LEN c =
    let t : nat_lt 64 (length c.args.key.now) ≡ true = grind (arith, nat_tests) in
    rw (t, ← c.digest.ensures) c.zero_padded.ensures

pub returns-else-key-gt-HASH_BLOCK_LEN : goal.returns-else-key-gt-HASH_BLOCK_LEN
unfolding key_block
returns-else-key-gt-HASH_BLOCK_LEN c =
    let t : nat_lt 64 (length c.args.key.now) ≡ false = grind (arith, nat_tests) in
    rw t c.zero_padded-else-key-gt-HASH_BLOCK_LEN.ensures
