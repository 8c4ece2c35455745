use Rattle.std.proofs.Common.{◌++◌}
use Rattle.std.proofs.lemmas.List.{append_assoc}
use Rattle.sha1.specs.Sha1.{Holds}
use Rattle.krb_keys.specs.Hmac.{padded_key}
use Rattle.krb_keys.specs.HashStates.{IsKeyed}
use Rattle.krb_keys.proofs.hmac.KeyedHmac.of_joined.Goals as goal

pub returns : goal.returns
unfolding IsKeyed
returns c = λ key held.
    let first : Holds c.copy_of-first.result (padded_key 0x36 key) = rw c.copy_of-first.ensures held.0 in
    let taken = c.update-2.ensures _ (c.update.ensures _ first) in
    c.outer_hash.ensures key (c.args.text.now ++ c.args.more.now) held (rw append_assoc at taken)
