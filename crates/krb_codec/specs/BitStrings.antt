-- The contents of a BIT STRING of 32 flags (X.690 section 8.6, RFC 4120 section 5.2.8).
use Rattle.std.specs.Prelude.{◌≡◌, ℕ, ◌-◌, ◌%◌, ◌^◌, Bool, true, false, ◌&&◌, List, [], ◌∷◌, ◌++◌}
use Rattle.std.specs.Prelude.{length, take, slice_index, Result, Ok, nat_lt, ◌==◌, if◌then◌else◌}
use Rattle.std.specs.Int.{w32, to_be_bytes, bit_at}
use Rattle.krb_codec.specs.declared.fault.FaultKind.TheVariants.{BadInteger}
use Rattle.krb_codec.specs.declared.fault.DerFault.{DerFault}
use Rattle.krb_codec.specs.Faults.{fault}
use Rattle.krb_codec.specs.Integers.{number}

-- the last byte ends in this many zero bits; where there is no byte, the number is 0
unfoldable pub ends_in_zeros : ℕ → List ℕ → Bool
ends_in_zeros unused [] = unused == 0
ends_in_zeros unused (b ∷ bytes) = slice_index (b ∷ bytes) (length bytes) % 2 ^ unused == 0

-- The first byte counts the last one's unused bits, 0 to 7 (sections 8.6.2.2 and 8.6.2.3), which
-- are 0 (section 11.2.1).
abbrev pub is_bit_string : List ℕ → Bool
is_bit_string [] = false
is_bit_string (unused ∷ bytes) = nat_lt unused 8 && ends_in_zeros unused bytes

-- the first 32 bits, filled with zeros, as a number whose highest bit is the first; later bits
-- are ignored
unfoldable pub first_word : List ℕ → ℕ
first_word bytes = number (take 4 (bytes ++ (0 ∷ 0 ∷ 0 ∷ 0 ∷ [])))

-- whether bit i of 32 is set, bit 0 the highest
abbrev pub is_set : ℕ → ℕ → Bool
is_set flags i = nat_lt i 32 && bit_at flags (31 - i) == 1

abbrev pub flags_of : List ℕ → ℕ
flags_of [] = 0
flags_of (unused ∷ bytes) = first_word bytes

-- the contents of a BIT STRING at a place
unfoldable pub bits_in : ℕ → List ℕ → Result ℕ DerFault
bits_in place content =
    if is_bit_string content then Ok (flags_of content) else fault place BadInteger

-- contents spell flags
abbrev pub IsBits : List ℕ → ℕ → Type 0
IsBits content flags = (is_bit_string content ≡ true) × (flags ≡ flags_of content)

-- 32 bits, none unused
unfoldable pub bits_octets : ℕ → List ℕ
bits_octets flags = 0 ∷ to_be_bytes w32 flags
