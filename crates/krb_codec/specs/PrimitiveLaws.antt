-- Laws of times and flags alone.
use Rattle.std.specs.Prelude.{◌≡◌, ◌↔◌, ℕ, ◌+◌, ◌-◌, ◌/◌, ◌%◌, ◌<◌, List, slice_index, Some, ℤ}
use Rattle.std.specs.Int.{bit_at}
use Rattle.krb_codec.specs.BitStrings.{IsBits}
use Rattle.krb_codec.specs.Times.{IsTime, IsWritable, seconds_of, time_of, time_octets}

-- reading and writing a time are inverse to each other
abbrev pub TimesAreInverse : Type 0
TimesAreInverse = (text : List ℕ) (seconds : ℤ)
    → (seconds_of text ≡ Some seconds) ↔ (time_of seconds ≡ Some text)

-- in the years 0 to 9999, and there alone, seconds have a text that spells them
abbrev pub TimesHaveTexts : Type 0
TimesHaveTexts = (seconds : ℤ) → IsWritable seconds ↔ ((text : List ℕ) × IsTime text seconds)

-- seconds have one text
abbrev pub TimesHaveOneText : Type 0
TimesHaveOneText = (text : List ℕ) (seconds : ℤ) → IsTime text seconds → text ≡ time_octets seconds

-- a text spells one time
abbrev pub TextsHaveOneTime : Type 0
TextsHaveOneTime = (text : List ℕ) (seconds others : ℤ)
    → IsTime text seconds → IsTime text others → seconds ≡ others

-- Bit i of the flags, counted from the highest, is bit i of the string, counted from the highest
-- of the first byte after the count of unused bits; it is 0 past the end.
abbrev pub FlagsAreBits : Type 0
FlagsAreBits = (content : List ℕ) (flags : ℕ) → ((k : ℕ) → slice_index content k < 256)
    → IsBits content flags → (i : ℕ) → i < 32
    → bit_at flags (31 - i) ≡ bit_at (slice_index content (1 + i / 8)) (7 - i % 8)
