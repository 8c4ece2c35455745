use Rattle.std.proofs.Common.{ℕ, List, ◌++◌, ap, ◌∙◌}
use Rattle.sha1.specs.Sha1.{sha1, Holds}
use Rattle.krb_keys.specs.Hmac.{hmac, padded_key}
use Rattle.krb_keys.specs.HashStates.{IsKeyed}
use Rattle.krb_keys.proofs.hmac.KeyedHmac.outer_hash.Goals as goal

pub returns : goal.returns
unfolding hmac IsKeyed
returns c = λ key text held inner.
    let middle = c.finalize-middle.ensures _ inner in
    let outer : Holds c.copy_of-outer.result (padded_key 0x5c key) = rw c.copy_of-outer.ensures held.1 in
    c.finalize.ensures _ (c.update.ensures _ outer) ∙ ap (λ (x : List ℕ). sha1 (padded_key 0x5c key ++ x)) middle
