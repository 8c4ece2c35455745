-- Days of the proleptic Gregorian calendar in the years 0 to 9999, with times of day, and the
-- seconds since 1970-01-01T00:00:00Z at which they begin. There are no leap seconds.
use Rattle.std.specs.Prelude.{ℕ, zero, suc, ◌+◌, ◌*◌, ◌/◌, ◌%◌, ◌≤◌, Bool, ◌&&◌, not, nat_le, if◌then◌else◌, ℤ, pos, ◌+ℤ◌, ◌-ℤ◌, ◌*ℤ◌, int_lt, unsigned_abs}
use Rattle.std.specs.Int.{int_div_euclid, int_rem_euclid, IsInRange, is_in_range}
use Rattle.jiff_core.specs.Calendar.{days_from_civil, days_in_month}
use Rattle.krb_codec.specs.declared.time.CivilTime.{CivilTime}

-- the calendar has the day, and the day has the time
abbrev pub IsCivilTime : CivilTime → Type 0
IsCivilTime t =
    (t.year ≤ 9999) × IsInRange 1 12 t.month
    × IsInRange 1 (days_in_month (pos t.year) t.month) t.day
    × (t.hour ≤ 23) × (t.minute ≤ 59) × (t.second ≤ 59)

-- the calendar has the day, and the day has the time, as a test
abbrev pub is_civil_day : CivilTime → Bool
is_civil_day t =
    nat_le t.year 9999 && is_in_range 1 12 t.month
    && is_in_range 1 (days_in_month (pos t.year) t.month) t.day

abbrev pub is_time_of_day : CivilTime → Bool
is_time_of_day t = nat_le t.hour 23 && nat_le t.minute 59 && nat_le t.second 59

abbrev pub is_civil_time : CivilTime → Bool
is_civil_time t = is_civil_day t && is_time_of_day t

-- the day's number, which is 0 on 1970-01-01
abbrev pub day_number : CivilTime → ℤ
day_number t = days_from_civil (pos t.year) t.month t.day

-- the seconds of a day before it
abbrev pub second_of_day : CivilTime → ℕ
second_of_day t = 3600 * t.hour + 60 * t.minute + t.second

-- the seconds since 1970-01-01T00:00:00Z
abbrev pub seconds_at : CivilTime → ℤ
seconds_at t = day_number t *ℤ pos 86400 +ℤ pos (second_of_day t)

-- ---- the day and the time at some seconds

-- the greatest number up to n that passes a test, or 0
unfoldable pub greatest : (ℕ → Bool) → ℕ → ℕ
greatest passes zero = 0
greatest passes (suc n) = if passes (suc n) then suc n else greatest passes n

-- a date is no later than a day, which is given by its number
abbrev pub has_come : ℤ → ℤ → ℕ → ℕ → Bool
has_come today year month day = not (int_lt today (days_from_civil year month day))

-- of a day in the years 0 to 9999: the last year that has begun, the last month of it that has
-- begun, and the days of the month that have come
unfoldable pub year_of : ℤ → ℕ
year_of today = greatest (λ y. has_come today (pos y) 1 1) 9999

unfoldable pub month_of : ℤ → ℕ
month_of today = greatest (λ m. has_come today (pos (year_of today)) m 1) 12

unfoldable pub day_of : ℤ → ℕ
day_of today =
    1 + unsigned_abs (today -ℤ days_from_civil (pos (year_of today)) (month_of today) 1)

-- the day and the time of day at some seconds since 1970-01-01T00:00:00Z
abbrev pub civil_at : ℤ → CivilTime
civil_at seconds =
    let today = int_div_euclid seconds (pos 86400) in
    let second = unsigned_abs (int_rem_euclid seconds (pos 86400)) in
    record {
      year = year_of today;
      month = month_of today;
      day = day_of today;
      hour = second / 3600;
      minute = second / 60 % 60;
      second = second % 60;
    }
