-- The words of a drill script, and the numbers, keys and names that they spell.
use Rattle.std.specs.Prelude.{ℕ, ◌+◌, ◌-◌, ◌*◌, Bool, true, false, not, ◌&&◌, ◌==◌, nat_lt}
use Rattle.std.specs.Prelude.{nat_le, if◌then◌else◌, List, [], ◌∷◌, length, Option, Some, None}
use Rattle.std.specs.Prelude.{Result, Ok, Err, option_and_then, unwrap_or, bytes_eq, codes}
use Rattle.std.specs.Char.{is_ascii_digit}
use Rattle.std.specs.List.{slice_split, list_all, position_or_len, before_first, after_first}
use Rattle.hex.specs.Hex.{decode_sized}
use Rattle.chpw_rules.specs.declared.limits.Limits.{Limits}
use Rattle.chpw_rules.specs.Limits.{is_in, iteration_counts, realm_lengths}
use Rattle.chpw_rules.specs.Names.{name_of}
use Rattle.chpw_table.specs.declared.request.Target.{Target}
use Rattle.chpw_commands.specs.declared.drill.words.CountedKey.{CountedKey}

-- one after the other; none if one is none
infixl 10 ◌>>=◌
abbrev pub ◌>>=◌ : {A B : Type 0} → Option A → (A → Option B) → Option B
o >>= f = option_and_then f o

-- the value if the test holds
abbrev pub keep_if : {A : Type 0} → Bool → A → Option A
keep_if test value = if test then Some value else None

-- words are separated by single spaces
abbrev pub words_of : List ℕ → List (List ℕ)
words_of line = slice_split (λ b. b == 32) line

-- the parts before and after the first such byte
abbrev pub split_first : ℕ → List ℕ → Option (List ℕ × List ℕ)
split_first c word =
    keep_if (nat_lt (position_or_len (λ b. b == c) word) (length word))
    (before_first (λ b. b == c) word, after_first (λ b. b == c) word)

-- the parts before and after the last such byte: that in the rest, or else this one
abbrev pub last_split : ℕ → ℕ → List ℕ → Option (List ℕ × List ℕ) → Option (List ℕ × List ℕ)
last_split c b bs None = keep_if (b == c) ([], bs)
last_split c b bs (Some parts) = Some (b ∷ parts.0, parts.1)

abbrev pub split_last : ℕ → List ℕ → Option (List ℕ × List ℕ)
split_last c [] = None
split_last c (b ∷ bs) = last_split c b bs (split_last c bs)

-- the number that decimal digits spell, after those that spell n
abbrev pub value_from : ℕ → List ℕ → ℕ
value_from n [] = n
value_from n (d ∷ ds) = value_from (10 * n + (d - 48)) ds

-- digits, the first of which is 0 only if it is the only one
abbrev pub is_number : List ℕ → Bool
is_number [] = false
is_number (d ∷ []) = is_ascii_digit d
is_number (d ∷ e ∷ ds) = not (d == 48) && list_all is_ascii_digit (d ∷ e ∷ ds)

-- a decimal number within a range
unfoldable pub number_in : Limits → List ℕ → Option ℕ
number_in range word =
    keep_if (is_number word && is_in range (value_from 0 word)) (value_from 0 word)

-- KEY: two hexadecimal digits of either case, the byte that both keys are made of
abbrev pub one_byte : {E : Type 0} → Result (List ℕ) E → Option ℕ
one_byte (Ok (byte ∷ [])) = Some byte
one_byte _ = None

unfoldable pub key_byte : List ℕ → Option ℕ
key_byte word = one_byte (decode_sized word 1)

-- COUNT:KEY
unfoldable pub counted_key : List ℕ → Option CountedKey
counted_key word = do
  parts ← split_first 58 word
  count ← number_in iteration_counts parts.0
  byte ← key_byte parts.1
  Some (record { count = count; byte = byte })

-- NAME, in the script's realm, or NAME@REALM
unfoldable pub named_in : List ℕ → List ℕ → Option Target
named_in realm word =
    let parts = unwrap_or (split_last 64 word) (word, realm) in do
      name ← name_of parts.0
      keep_if (is_in realm_lengths (length parts.1)) (record { realm = parts.1; name = name })

-- each of these; none if one is none
abbrev pub each_of : {A B : Type 0} → (A → Option B) → List A → Option (List B)
each_of f [] = Some []
each_of f (x ∷ xs) = do
  y ← f x
  ys ← each_of f xs
  Some (y ∷ ys)
