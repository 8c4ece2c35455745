-- n-fold (RFC 3961 section 5.1), on natural numbers.
use Rattle.std.specs.Prelude.{ℕ, zero, suc, ◌+◌, ◌-◌, ◌*◌, ◌/◌, ◌%◌, ◌^◌, ◌==◌, find, sum, map, List, [], ◌∷◌, ◌++◌, length, take, drop}
use Rattle.std.specs.List.{flat_map, range_with_len}
use Rattle.std.specs.Option.{unwrap_or}

-- the number that bytes spell, the highest first
unfoldable pub value : List ℕ → ℕ
value [] = 0
value (byte ∷ bytes) = byte * 256 ^ length bytes + value bytes

-- the n bytes of a number
unfoldable pub number_bytes : ℕ → ℕ → List ℕ
number_bytes zero number = []
number_bytes (suc n) number = number_bytes n (number / 256) ++ number % 256 ∷ []

-- a number of w bits, rotated right by r of them
unfoldable pub rotated : ℕ → ℕ → ℕ → ℕ
rotated w r number = number / 2 ^ r + number % 2 ^ r * 2 ^ (w - r)

-- copy i of the input, from 0: each is rotated right by 13 bits from the one before
unfoldable pub copy : List ℕ → ℕ → List ℕ
copy input i =
    let w : ℕ = 8 * length input in
    number_bytes (length input) (rotated w (13 * i % w) (value input))

-- the fewest copies of m bytes that make up whole parts of n bytes: m times their number is the
-- least common multiple of m and n. Of the first n numbers the last one, n, always is such a
-- number.
unfoldable pub copy_count : ℕ → ℕ → ℕ
copy_count m n = unwrap_or (find (λ k. k * m % n == 0) (range_with_len 1 n)) n

-- that many copies, joined
unfoldable pub joined : List ℕ → ℕ → List ℕ
joined input n = flat_map (copy input) (range_with_len 0 (copy_count (length input) n))

-- the sum of the first k parts of n bytes
unfoldable pub sum_of_parts : ℕ → List ℕ → ℕ → ℕ
sum_of_parts n bytes k = sum (map (λ p. value (take n (drop (n * p) bytes))) (range_with_len 0 k))

-- what ones' complement addition makes of a sum s, where m is the number of all ones: 0 for 0,
-- else the number from 1 to m that equals s modulo m
unfoldable pub ones_complement : ℕ → ℕ → ℕ
ones_complement m zero = 0
ones_complement m (suc s) = s % m + 1

-- n-fold to n bytes
unfoldable pub nfold : List ℕ → ℕ → List ℕ
nfold input n =
    let text : List ℕ = joined input n in
    number_bytes n (ones_complement (256 ^ n - 1) (sum_of_parts n text (length text / n)))
