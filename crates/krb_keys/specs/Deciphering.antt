-- For the proofs of `unseal` alone: what holds between its steps.
use Rattle.std.specs.Prelude.{◌≡◌, ◌-◌, ℕ, List, length, take, drop}
use Rattle.krb_aes.specs.KeyExpansion.{IsKey}
use Rattle.krb_aes.specs.Aes.{unaes}
use Rattle.krb_aes.specs.Cts.{uncts}
use Rattle.krb_keys.specs.Keys.{bytes_of}
use Rattle.krb_keys.specs.Sealing.{encryption_key, enciphered}
use Rattle.krb_keys.specs.declared.key.Key.{Key}

-- a text that deciphering gives, under Ke, from this body
unfoldable pub IsDeciphered : Key → ℕ → List ℕ → List ℕ → Type 0
IsDeciphered key usage body text =
    let ke : List ℕ = bytes_of (encryption_key key usage) in
    IsKey ke × (length text ≡ length body)
    × (text ≡ uncts (unaes ke) body) × (enciphered key usage text ≡ body)

-- what is between confounder and checksum
abbrev pub plain_part : List ℕ → List ℕ
plain_part text = drop 16 (take (length text - 12) text)
