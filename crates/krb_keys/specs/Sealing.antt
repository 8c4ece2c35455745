-- Sealed texts of the encryption types 17 and 18 (RFC 3961 section 5.3, RFC 3962 section 6).
use Rattle.std.specs.Prelude.{◌≡◌, ℕ, ◌<◌, List, [], ◌∷◌, ◌++◌, length, take}
use Rattle.std.specs.Int.{w32, to_be_bytes}
use Rattle.krb_aes.specs.Bytes.{AreBytes}
use Rattle.krb_aes.specs.Aes.{aes}
use Rattle.krb_aes.specs.Cts.{cts}
use Rattle.krb_keys.specs.Hmac.{hmac}
use Rattle.krb_keys.specs.Keys.{bytes_of, dk}
use Rattle.krb_keys.specs.declared.key.Key.{Key}

-- Ke, the encryption key, of a key and a key usage
unfoldable pub encryption_key : Key → ℕ → Key
encryption_key key usage = dk key (to_be_bytes w32 usage ++ 0xaa ∷ [])

-- Ki, the integrity key
unfoldable pub integrity_key : Key → ℕ → Key
integrity_key key usage = dk key (to_be_bytes w32 usage ++ 0x55 ∷ [])

-- a confounder and a plain text, enciphered with ciphertext stealing under Ke
unfoldable pub enciphered : Key → ℕ → List ℕ → List ℕ
enciphered key usage text = cts (aes (bytes_of (encryption_key key usage))) text

-- their checksum: the first 96 bits of the HMAC under Ki
unfoldable pub checksum_of : Key → ℕ → List ℕ → List ℕ
checksum_of key usage text = take 12 (hmac (bytes_of (integrity_key key usage)) text)

-- the sealed text
unfoldable pub sealed : Key → ℕ → List ℕ → List ℕ → List ℕ
sealed key usage confounder plain =
    enciphered key usage (confounder ++ plain) ++ checksum_of key usage (confounder ++ plain)

-- a text is the sealed text of a plain text that isn't empty, with some confounder of 16 bytes
abbrev pub IsSealed : Key → ℕ → List ℕ → List ℕ → Type 0
IsSealed key usage text plain =
    (confounder : List ℕ) × (length confounder ≡ 16) × (0 < length plain)
    × AreBytes confounder × AreBytes plain × (text ≡ sealed key usage confounder plain)

-- a text that seals no plain text
abbrev pub SealsNothing : Key → ℕ → List ℕ → Type 0
SealsNothing key usage text = (plain : List ℕ) → IsSealed key usage text plain → ⊥
