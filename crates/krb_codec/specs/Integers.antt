-- The contents of an INTEGER (X.690 section 8.3) and the sequence numbers of RFC 4120 section 5.5.1.
use Rattle.std.specs.Prelude.{◌≡◌, ℕ, ◌^◌, Bool, true, false, not, ◌&&◌, ◌||◌, List, [], ◌∷◌, length, Result, Ok, Err}
use Rattle.std.specs.Prelude.{nat_lt, nat_le, ◌==◌, if◌then◌else◌, ℤ, pos, negsuc, ◌-ℤ◌, ◌≤ℤ◌, int_lt, unsigned_abs}
use Rattle.std.specs.Int.{w64, to_be_bytes, cast_unsigned, int_rem_euclid}
use Rattle.std.specs.Int.Digits.{number_from_digits}
use Rattle.krb_codec.specs.declared.fault.FaultKind.TheVariants.{BadInteger, OutOfRange}
use Rattle.krb_codec.specs.declared.fault.DerFault.{DerFault}
use Rattle.krb_codec.specs.Faults.{fault}

-- bytes as a number, the first the highest
abbrev pub number : List ℕ → ℕ
number bytes = number_from_digits 256 bytes

-- Whether a byte only repeats the sign of those after it: all its bits and the next byte's highest
-- are 0, or all are 1 (section 8.3.2).
abbrev pub repeats_sign : ℕ → List ℕ → Bool
repeats_sign a [] = false
repeats_sign a (b ∷ bytes) = a == 0 && nat_lt b 128 || a == 255 && nat_le 128 b

-- at least one byte, and the first doesn't only repeat the sign
abbrev pub is_shortest_integer : List ℕ → Bool
is_shortest_integer [] = false
is_shortest_integer (a ∷ bytes) = not (repeats_sign a bytes)

-- two's complement: where the first bit is 1, the bytes' number minus 256 ^ length (section 8.3.3)
abbrev pub signed : List ℕ → ℤ
signed [] = pos 0
signed (a ∷ bytes) =
    if nat_lt a 128 then pos (number (a ∷ bytes))
    else pos (number (a ∷ bytes)) -ℤ pos (256 ^ length (a ∷ bytes))

-- the contents of an INTEGER at a place, from low to high, both included
unfoldable pub integer_in : ℤ → ℤ → ℕ → List ℕ → Result ℤ DerFault
integer_in low high place content =
    if not (is_shortest_integer content) then fault place BadInteger
    else if int_lt (signed content) low || int_lt high (signed content) then fault place OutOfRange
    else Ok (signed content)

-- contents spell a number
abbrev pub IsInteger : ℤ → ℤ → List ℕ → ℤ → Type 0
IsInteger low high content n =
    (is_shortest_integer content ≡ true) × (n ≡ signed content) × (low ≤ℤ n) × (n ≤ℤ high)

-- the bytes without the leading ones that only repeat the sign
abbrev pub without_sign : List ℕ → List ℕ
without_sign [] = []
without_sign (a ∷ bytes) = if repeats_sign a bytes then without_sign bytes else a ∷ bytes

-- the shortest form of a number, from its 64 bits in two's complement
unfoldable pub integer_octets : ℤ → List ℕ
integer_octets n = without_sign (to_be_bytes w64 (cast_unsigned w64 n))

-- the ranges of a sequence number on the wire: an Int32 or a UInt32
abbrev pub least_sequence_number : ℤ
least_sequence_number = negsuc 2147483647

abbrev pub greatest_sequence_number : ℤ
greatest_sequence_number = pos 4294967295

-- a number modulo 2 ^ 32
abbrev pub word_of : ℤ → ℕ
word_of n = unsigned_abs (int_rem_euclid n (pos 4294967296))

-- what was read, modulo 2 ^ 32
abbrev pub in_word : Result ℤ DerFault → Result ℕ DerFault
in_word (Ok n) = Ok (word_of n)
in_word (Err e) = Err e

-- A sequence number: a negative one stands for the number that equals it modulo 2 ^ 32.
unfoldable pub sequence_number_in : ℕ → List ℕ → Result ℕ DerFault
sequence_number_in place content =
    in_word (integer_in least_sequence_number greatest_sequence_number place content)

-- contents spell a sequence number
abbrev pub IsSequenceNumber : List ℕ → ℕ → Type 0
IsSequenceNumber content n =
    (is_shortest_integer content ≡ true) × (n ≡ word_of (signed content))
    × (least_sequence_number ≤ℤ signed content) × (signed content ≤ℤ greatest_sequence_number)

-- no negative one is written
abbrev pub sequence_number_octets : ℕ → List ℕ
sequence_number_octets n = integer_octets (pos n)
