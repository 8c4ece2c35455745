-- A time as it is printed (RFC 3339 section 5.6): `YYYY-MM-DDTHH:MM:SS.FFFFFFZ`, in UTC, with six
-- digits of the second's fraction.
use Rattle.std.specs.Prelude.{◌≡◌, ℕ, ℤ, ◌/◌, ◌%◌, List, ◌++◌, codes, slice_range}
use Rattle.krb_codec.specs.Times.{IsTime, pair, time_octets}

-- the six decimal digits of a number below 1,000,000
abbrev pub six_digits : ℕ → List ℕ
six_digits n = pair (n / 10000) ++ pair (n / 100 % 100) ++ pair (n % 100)

-- a time `YYYYMMDDHHMMSSZ` and microseconds: full-date, `T` and full-time
abbrev pub date_time : List ℕ → ℕ → List ℕ
date_time time micros =
    slice_range time 0 4 ++ codes "-" ++ slice_range time 4 6 ++ codes "-" ++ slice_range time 6 8
    ++ codes "T" ++ slice_range time 8 10 ++ codes ":" ++ slice_range time 10 12
    ++ codes ":" ++ slice_range time 12 14 ++ codes "." ++ six_digits micros ++ codes "Z"

abbrev pub time_text : ℤ → ℕ → List ℕ
time_text seconds micros = date_time (time_octets seconds) micros

-- a text says a time: its date and time of day spell these seconds (RFC 4120 section 5.2.3)
abbrev pub Tells : List ℕ → ℤ → ℕ → Type 0
Tells text seconds micros = (time : List ℕ) × IsTime time seconds × (text ≡ date_time time micros)
