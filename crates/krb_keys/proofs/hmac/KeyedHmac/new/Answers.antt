use Rattle.krb_keys.specs.Hmac.{padded_key}
use Rattle.krb_keys.specs.HashStates.{IsKeyed}
use Rattle.krb_keys.proofs.hmac.KeyedHmac.new.Goals as goal

pub returns : goal.returns
unfolding IsKeyed padded_key
returns c = (rw (← c.key_block-block.ensures) c.hash_of_pad.ensures, rw (← c.key_block-block.ensures) c.hash_of_pad-2.ensures)
