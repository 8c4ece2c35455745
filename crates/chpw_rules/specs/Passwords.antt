-- What a policy asks of a password: its number of bytes, and its number of character classes.
use Rattle.std.specs.Prelude.{ℕ, min, Bool, ◌||◌, ◌==◌, List, [], ◌∷◌, length, count_by, if◌then◌else◌}
use Rattle.std.specs.List.{list_any}
use Rattle.chpw_rules.specs.declared.password.Class.{Class}
use Rattle.chpw_rules.specs.declared.password.Class.TheVariants.{Lower, Upper, Digit, Punctuation, Other}
use Rattle.chpw_rules.specs.declared.password.Facts.{Facts}
use Rattle.chpw_rules.specs.Limits.{range, is_in}

-- the punctuation of ASCII
abbrev pub is_punctuation : ℕ → Bool
is_punctuation byte =
    is_in (range 0x21 0x2f) byte || is_in (range 0x3a 0x40) byte
    || is_in (range 0x5b 0x60) byte || is_in (range 0x7b 0x7e) byte

-- the one class of a byte: `a` to `z`; `A` to `Z`; `0` to `9`; punctuation; every other byte
abbrev pub class_of : ℕ → Class
class_of byte =
    if is_in (range 0x61 0x7a) byte then Lower
    else if is_in (range 0x41 0x5a) byte then Upper
    else if is_in (range 0x30 0x39) byte then Digit
    else if is_punctuation byte then Punctuation
    else Other

abbrev pub classes : List Class
classes = Lower ∷ Upper ∷ Digit ∷ Punctuation ∷ Other ∷ []

-- a class by its position among them
abbrev pub number_of : Class → ℕ
number_of Lower = 0
number_of Upper = 1
number_of Digit = 2
number_of Punctuation = 3
number_of Other = 4

abbrev pub is_of_class : Class → ℕ → Bool
is_of_class class byte = number_of (class_of byte) == number_of class

-- the classes of which the password has a byte
abbrev pub class_count : List ℕ → ℕ
class_count password = count_by (λ class. list_any (is_of_class class) password) classes

-- the length in bytes, at most the greatest u32
abbrev pub facts_of : List ℕ → Facts
facts_of password = record {
  length = min (length password) 4294967295;
  classes = class_count password;
}
