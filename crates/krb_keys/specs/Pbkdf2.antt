-- PBKDF2 (RFC 2898 section 5.2) with HMAC-SHA1, on lists of bytes.
use Rattle.std.specs.Prelude.{ℕ, zero, suc, ◌+◌, ◌-◌, ◌/◌, List, ◌++◌, take}
use Rattle.std.specs.Int.{w32, to_be_bytes}
use Rattle.std.specs.List.{flat_map, range_with_len}
use Rattle.krb_aes.specs.Bytes.{xor_bytes}
use Rattle.krb_keys.specs.Hmac.{hmac}

-- U (j + 1): the HMAC of a text, taken again j times
unfoldable pub repeated : List ℕ → List ℕ → ℕ → List ℕ
repeated password text zero = hmac password text
repeated password text (suc j) = hmac password (repeated password text j)

-- U 1 xor .. xor U (j + 1)
unfoldable pub xored : List ℕ → List ℕ → ℕ → List ℕ
xored password text zero = hmac password text
xored password text (suc j) = xor_bytes (xored password text j) (repeated password text (suc j))

-- F: block i under n iterations, where U 1 is that of the salt followed by i in four bytes
abbrev pub pbkdf2_block : List ℕ → List ℕ → ℕ → ℕ → List ℕ
pbkdf2_block password salt n i = xored password (salt ++ to_be_bytes w32 i) (n - 1)

-- blocks 1 to k, joined
unfoldable pub blocks : List ℕ → List ℕ → ℕ → ℕ → List ℕ
blocks password salt n k = flat_map (pbkdf2_block password salt n) (range_with_len 1 k)

-- PBKDF2 of `count` bytes: as many blocks of 20 bytes as hold them, truncated
unfoldable pub pbkdf2 : List ℕ → List ℕ → ℕ → ℕ → List ℕ
pbkdf2 password salt n count = take count (blocks password salt n ((count + 19) / 20))
