-- The lines of the agent's protocol (agent/README.md): requests as they are written, answers as they are read. A line
-- is given without its newline.
use Rattle.std.specs.Prelude.{ℕ, ◌+◌, ◌-◌, ◌*◌, Bool, true, false, not, ◌&&◌, ◌||◌, ◌==◌, nat_lt, nat_le, bytes_eq, if◌then◌else◌}
use Rattle.std.specs.Prelude.{List, [], ◌∷◌, ◌++◌, length, map, codes, Option, Some, None, Result, Ok, Err}
use Rattle.std.specs.Char.{is_ascii_digit}
use Rattle.std.specs.Fmt.{decimal}
use Rattle.std.specs.Str.{is_utf8}
use Rattle.std.specs.List.{slice_split, list_all, join_with_byte, position_or_len, before_first, after_first}
use Rattle.hex.specs.Hex.{encode_lower, decode_of, decode_sized}
use Rattle.chpw_rules.specs.declared.name.Name.{Name}
use Rattle.chpw_rules.specs.Names.{name_from}
use Rattle.chpw_record.specs.declared.key.KeyRow.{KeyRow}
use Rattle.chpw_kdc.specs.declared.fields.KeyPair.{KeyPair}
use Rattle.chpw_kdc.specs.declared.fault.LineFault.{LineFault}
use Rattle.chpw_kdc.specs.declared.fault.LineFault.TheVariants as fault
use Rattle.chpw_kdc.specs.declared.answer.Reason.{Reason}
use Rattle.chpw_kdc.specs.declared.answer.Reason.TheVariants as reason
use Rattle.chpw_kdc.specs.declared.answer.Answer.{Answer}
use Rattle.chpw_kdc.specs.declared.answer.Answer.TheVariants as answer

-- ---- requests

-- NAME: the components in lower-case hexadecimal digits, with `/` between them
abbrev pub name_text : List (List ℕ) → List ℕ
name_text parts = join_with_byte 47 (map encode_lower parts)

-- the characters of the components, with one more for each
abbrev pub name_length : List (List ℕ) → ℕ
name_length [] = 0
name_length (part ∷ parts) = 2 * length part + 1 + name_length parts

-- no component is empty
abbrev pub is_filled : List ℕ → Bool
is_filled part = nat_lt 0 (length part)

-- a line can have the name: it has components, none is empty, and NAME has at most 900 characters
abbrev pub is_sayable : Name → Bool
is_sayable name = nat_lt 0 (length name.parts) && list_all is_filled name.parts && nat_le (name_length name.parts) 901

pub data Request : Type 0 where
  list_keys : Request
  get : Name → Request
  put : Name → KeyRow → Request

abbrev pub request_text : Request → List ℕ
request_text list_keys = codes "list keys"
request_text (get name) = codes "get " ++ name_text name.parts
request_text (put name key) =
    codes "put " ++ name_text name.parts ++ codes " " ++ decimal key.kvno ++ codes " " ++ encode_lower key.aes256
    ++ codes " " ++ encode_lower key.aes128

abbrev pub request_line : Request → List ℕ
request_line r = request_text r ++ codes "\n"

-- ---- the words of an answer

-- one after the other; the first fault, if there is one
infixl 10 ◌>>=◌
abbrev pub ◌>>=◌ : {A B : Type 0} → Result A LineFault → (A → Result B LineFault) → Result B LineFault
(Ok x) >>= f = f x
(Err e) >>= f = Err e

-- words are separated by single spaces
abbrev pub words_of : List ℕ → List (List ℕ)
words_of line = slice_split (λ b. b == 32) line

-- what comes before the first space, and after it
abbrev pub first_word : List ℕ → Option (List ℕ × List ℕ)
first_word line =
    if nat_lt (position_or_len (λ b. b == 32) line) (length line)
    then Some (before_first (λ b. b == 32) line, after_first (λ b. b == 32) line)
    else None

-- a digit, or a letter from a to f
abbrev pub is_lower_digit : ℕ → Bool
is_lower_digit b = (nat_le 48 b && nat_le b 57) || (nat_le 97 b && nat_le b 102)

abbrev pub is_lower_hex : List ℕ → Bool
is_lower_hex digits = list_all is_lower_digit digits

-- what was decoded, or this fault
abbrev pub decoded : {A E : Type 0} → LineFault → Result A E → Result A LineFault
decoded why (Ok bytes) = Ok bytes
decoded why (Err e) = Err why

-- a component
abbrev pub part_of : List ℕ → Result (List ℕ) LineFault
part_of [] = Err fault.Name
part_of (d ∷ ds) = if is_lower_hex (d ∷ ds) then decoded fault.Name (decode_of (d ∷ ds)) else Err fault.Name

abbrev pub parts_from : List (List ℕ) → Result (List (List ℕ)) LineFault
parts_from [] = Ok []
parts_from (word ∷ words) = do
  part ← part_of word
  parts ← parts_from words
  Ok (part ∷ parts)

unfoldable pub name_in : List ℕ → Result Name LineFault
name_in word = do
  parts ← parts_from (slice_split (λ b. b == 47) word)
  Ok (name_from parts)

-- a key of so many bytes
abbrev pub key_in : ℕ → List ℕ → Result (List ℕ) LineFault
key_in size digits = if is_lower_hex digits then decoded fault.Key (decode_sized digits size) else Err fault.Key

unfoldable pub keys_in : List ℕ → List ℕ → Result KeyPair LineFault
keys_in first second = do
  aes256 ← key_in 32 first
  aes128 ← key_in 16 second
  Ok (record { aes256 = aes256; aes128 = aes128 })

-- the number that decimal digits spell, after those that spell n
abbrev pub value_from : ℕ → List ℕ → ℕ
value_from n [] = n
value_from n (d ∷ ds) = value_from (10 * n + (d - 48)) ds

-- decimal digits up to 4294967295, without leading zeros
abbrev pub digits_value : List ℕ → Option ℕ
digits_value ds =
    if list_all is_ascii_digit ds && nat_le (value_from 0 ds) 4294967295 then Some (value_from 0 ds) else None

abbrev pub number_in : List ℕ → Option ℕ
number_in [] = None
number_in (d ∷ []) = digits_value (d ∷ [])
number_in (d ∷ e ∷ ds) = if d == 48 then None else digits_value (d ∷ e ∷ ds)

-- a version is 1 at least
abbrev pub version_from : Option ℕ → Result ℕ LineFault
version_from None = Err fault.Version
version_from (Some n) = if n == 0 then Err fault.Version else Ok n

unfoldable pub version_in : List ℕ → Result ℕ LineFault
version_in word = version_from (number_in word)

unfoldable pub reason_in : List ℕ → Result Reason LineFault
reason_in word =
    if bytes_eq word (codes "reserved") then Ok reason.Reserved
    else if bytes_eq word (codes "components") then Ok reason.Components
    else if bytes_eq word (codes "lockdown") then Ok reason.Lockdown
    else if bytes_eq word (codes "keys") then Ok reason.Keys
    else if bytes_eq word (codes "version") then Ok reason.Version
    else Err fault.Reason

-- ---- answers

-- has NAME KVNO AES256 AES128
abbrev pub has_from : List ℕ → List ℕ → List ℕ → List ℕ → Result Answer LineFault
has_from name kvno aes256 aes128 = do
  n ← name_in name
  k ← version_in kvno
  keys ← keys_in aes256 aes128
  Ok (answer.Has n k keys)

abbrev pub has_of : List (List ℕ) → Result Answer LineFault
has_of (name ∷ kvno ∷ aes256 ∷ aes128 ∷ []) = has_from name kvno aes256 aes128
has_of _ = Err fault.WordCount

-- other NAME REASON
abbrev pub other_of : List (List ℕ) → Result Answer LineFault
other_of (name ∷ why ∷ []) = do
  n ← name_in name
  r ← reason_in why
  Ok (answer.Other n r)
other_of _ = Err fault.WordCount

-- end COUNT
abbrev pub end_from : Option ℕ → Result Answer LineFault
end_from None = Err fault.Count
end_from (Some n) = Ok (answer.End n)

abbrev pub end_of : List (List ℕ) → Result Answer LineFault
end_of (count ∷ []) = end_from (number_in count)
end_of _ = Err fault.WordCount

-- none NAME
abbrev pub none_of : List (List ℕ) → Result Answer LineFault
none_of (name ∷ []) = do
  n ← name_in name
  Ok (answer.None n)
none_of _ = Err fault.WordCount

-- put NAME KVNO
abbrev pub put_of : List (List ℕ) → Result Answer LineFault
put_of (name ∷ kvno ∷ []) = do
  n ← name_in name
  k ← version_in kvno
  Ok (answer.Put n k)
put_of _ = Err fault.WordCount

-- refused NAME REASON
abbrev pub refused_of : List (List ℕ) → Result Answer LineFault
refused_of (name ∷ why ∷ []) = do
  n ← name_in name
  r ← reason_in why
  Ok (answer.Refused n r)
refused_of _ = Err fault.WordCount

-- failed NAME TEXT, or failed - TEXT
abbrev pub failed_from : Option (List ℕ × List ℕ) → Result Answer LineFault
failed_from None = Err fault.WordCount
failed_from (Some parts) =
    if bytes_eq parts.0 (codes "-") then Ok (answer.ListFailed parts.1)
    else do
      n ← name_in parts.0
      Ok (answer.Failed n parts.1)

-- an answer of more than a word
abbrev pub longer_of : List ℕ → List ℕ → Result Answer LineFault
longer_of word rest =
    if bytes_eq word (codes "failed") then failed_from (first_word rest)
    else if bytes_eq word (codes "has") then has_of (words_of rest)
    else if bytes_eq word (codes "other") then other_of (words_of rest)
    else if bytes_eq word (codes "end") then end_of (words_of rest)
    else if bytes_eq word (codes "none") then none_of (words_of rest)
    else if bytes_eq word (codes "put") then put_of (words_of rest)
    else if bytes_eq word (codes "refused") then refused_of (words_of rest)
    else Err fault.UnknownWord

abbrev pub answer_from : Option (List ℕ × List ℕ) → Result Answer LineFault
answer_from None = Err fault.UnknownWord
answer_from (Some parts) = longer_of parts.0 parts.1

abbrev pub answer_of : List ℕ → Result Answer LineFault
answer_of line =
    if not (is_utf8 line) then Err fault.NotText
    else if bytes_eq line (codes "changed") then Ok answer.Changed
    else answer_from (first_word line)

abbrev pub is_changed : Answer → Bool
is_changed answer.Changed = true
is_changed a = false
