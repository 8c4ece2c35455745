-- For the proofs of the hashes alone: the state that the code keeps of a key.
use Rattle.std.specs.Prelude.{ℕ, List}
use Rattle.sha1.specs.Sha1.{Holds}
use Rattle.krb_keys.specs.Hmac.{padded_key}
use Rattle.krb_keys.specs.declared.hmac.KeyedHmac.{KeyedHmac}

-- the two hashes have absorbed the key's pads
unfoldable pub IsKeyed : KeyedHmac → List ℕ → Type 0
IsKeyed keyed key =
    Holds keyed.inner (padded_key 0x36 key) × Holds keyed.outer (padded_key 0x5c key)
