-- HMAC (RFC 2104) with SHA-1, on lists of bytes.
use Rattle.std.specs.Prelude.{ℕ, ◌-◌, nat_lt, List, ◌++◌, length, map, replicate, bit_xor, if◌then◌else◌}
use Rattle.sha1.specs.Sha1.{sha1}

-- a key as a block of 64 bytes: a longer one is hashed first, and zeros fill it up
unfoldable pub key_block : List ℕ → List ℕ
key_block key =
    let short : List ℕ = (if nat_lt 64 (length key) then sha1 key else key) in
    short ++ replicate (64 - length short) 0

-- the key's block, XORed with a byte: 0x36 makes the inner pad, 0x5c the outer
unfoldable pub padded_key : ℕ → List ℕ → List ℕ
padded_key pad key = map (λ b. bit_xor b pad) (key_block key)

-- HMAC-SHA1 of a text under a key (section 2)
unfoldable pub hmac : List ℕ → List ℕ → List ℕ
hmac key text = sha1 (padded_key 0x5c key ++ sha1 (padded_key 0x36 key ++ text))
