-- KerberosTime: a GeneralizedTime in UTC with seconds and no fraction, `YYYYMMDDHHMMSSZ`
-- (X.690 section 11.7, RFC 4120 section 5.2.3).
use Rattle.std.specs.Prelude.{◌≡◌, ℕ, ◌+◌, ◌-◌, ◌*◌, ◌/◌, ◌%◌, Bool, ◌&&◌, not, List, [], ◌∷◌, ◌++◌, length, take}
use Rattle.std.specs.Prelude.{slice_index, Option, Some, None, Result, Ok, ◌==◌, if◌then◌else◌, ℤ, pos, negsuc, int_lt}
use Rattle.std.specs.Str.{all_ascii_digits}
use Rattle.jiff_core.specs.Calendar.{IsBetween}
use Rattle.krb_codec.specs.declared.fault.FaultKind.TheVariants.{BadTime}
use Rattle.krb_codec.specs.declared.fault.DerFault.{DerFault}
use Rattle.krb_codec.specs.declared.time.CivilTime.{CivilTime}
use Rattle.krb_codec.specs.Faults.{fault}
use Rattle.krb_codec.specs.CivilTimes.{IsCivilTime, is_civil_time, seconds_at, civil_at}

-- the two decimal digits of a number below 100
abbrev pub pair : ℕ → List ℕ
pair n = (48 + n / 10) ∷ (48 + n % 10) ∷ []

-- YYYYMMDDHHMMSSZ
abbrev pub civil_text : CivilTime → List ℕ
civil_text t =
    pair (t.year / 100) ++ pair (t.year % 100) ++ pair t.month ++ pair t.day
    ++ pair t.hour ++ pair t.minute ++ pair t.second ++ (90 ∷ [])

-- a text spells a time
abbrev pub IsTime : List ℕ → ℤ → Type 0
IsTime text seconds =
    (t : CivilTime) × IsCivilTime t × (text ≡ civil_text t) × (seconds ≡ seconds_at t)

-- ---- reading

-- the number that the two digits at a place write
abbrev pub pair_at : List ℕ → ℕ → ℕ
pair_at text i = 10 * (slice_index text i - 48) + (slice_index text (i + 1) - 48)

abbrev pub civil_of : List ℕ → CivilTime
civil_of text = record {
  year = 100 * pair_at text 0 + pair_at text 2;
  month = pair_at text 4;
  day = pair_at text 6;
  hour = pair_at text 8;
  minute = pair_at text 10;
  second = pair_at text 12;
}

-- fourteen digits and a Z
abbrev pub has_time_form : List ℕ → Bool
has_time_form text =
    (length text == 15) && all_ascii_digits (take 14 text) && (slice_index text 14 == 90)

-- they write a day of the calendar and a time of day
abbrev pub is_time : List ℕ → Bool
is_time text = has_time_form text && is_civil_time (civil_of text)

unfoldable pub seconds_of : List ℕ → Option ℤ
seconds_of text = if is_time text then Some (seconds_at (civil_of text)) else None

-- the contents of a GeneralizedTime at a place
unfoldable pub time_in : ℕ → List ℕ → Result ℤ DerFault
time_in place text = if is_time text then Ok (seconds_at (civil_of text)) else fault place BadTime

-- ---- writing

-- from 0000-01-01T00:00:00Z to 9999-12-31T23:59:59Z
abbrev pub IsWritable : ℤ → Type 0
IsWritable seconds = IsBetween (negsuc 62167219199) (pos 253402300799) seconds

abbrev pub is_writable : ℤ → Bool
is_writable seconds =
    not (int_lt seconds (negsuc 62167219199)) && not (int_lt (pos 253402300799) seconds)

-- the one text of a time
unfoldable pub time_octets : ℤ → List ℕ
time_octets seconds = civil_text (civil_at seconds)

unfoldable pub time_of : ℤ → Option (List ℕ)
time_of seconds = if is_writable seconds then Some (time_octets seconds) else None
