-- Day numbers and dates, and seconds and times, are found from one another.
use Rattle.std.proofs.Common.{◌≡◌, ℕ, zero, suc, ◌+◌, ◌-◌, ◌*◌, ◌/◌, ◌%◌, ◌<◌, ◌≤◌, Bool}
use Rattle.std.proofs.Common.{true, false, refl, sym, ap, subst, ◌∙◌, arith, ℤ, pos, negsuc}
use Rattle.std.proofs.Common.{◌+ℤ◌, ◌-ℤ◌, ◌*ℤ◌, ◌<ℤ◌, ◌≤ℤ◌, unsigned_abs, ◌⊎◌, inl, inr}
use Rattle.std.specs.Prelude.{int_lt}
use Rattle.std.specs.Int.{int_div_euclid, int_rem_euclid, IsInRange}
use Rattle.std.proofs.lemmas.Bool.{cases_Bool, both_ways, cases_order, not-true, not-false, not_from_true, not_from_false}
use Rattle.std.proofs.lemmas.Int.{ints, by_lt_z}
use Rattle.jiff_core.specs.Calendar.{days_from_civil, days_in_month, day_count, IsBetween, IsCivilDate}
use Rattle.jiff_core.proofs.SignedLemmas.{signed_arith}
use Rattle.jiff_core.proofs.CalendarLemmas.{days_from_civil-day_count, day_count-lt_year, day_count-lt_month}
use Rattle.jiff_core.proofs.CalendarLemmas.{day_count-day, day_count-day_of_year, day_count-next_month}
use Rattle.jiff_core.proofs.CalendarLemmas.{day_count-next_year, day_count-last_of_year, day_count-end}
use Rattle.jiff_core.proofs.MarchLemmas.{day_count-early}
use Rattle.jiff_core.proofs.DateLemmas.{civil, days_from_civil-day}
use Rattle.jiff_core.specs.Date.{epoch_day}
use Rattle.jiff_core.specs.declared.civil.date.Date.{Date}
use Rattle.krb_codec.specs.declared.time.CivilTime.{CivilTime}
use Rattle.krb_codec.proofs.IntegerLemmas.{false_below, not_below, true_below}
use Rattle.krb_codec.specs.CivilTimes.{IsCivilTime, greatest, has_come, year_of, month_of, day_of, civil_at, day_number, second_of_day, seconds_at}

-- ---- the greatest number that passes a test

pub greatest-le : (f : ℕ → Bool) (n : ℕ) → greatest f n ≤ n
unfolding greatest
greatest-le f zero = omega arith
greatest-le f (suc n) = elim (cases_Bool (f (suc n))) [
  | inl e ↦ rw e (omega arith)
  | inr e ↦ rw e (let le = greatest-le f n in omega (arith, le))
]

pub le-greatest : (f : ℕ → Bool) (n k : ℕ) → f k ≡ true → k ≤ n → k ≤ greatest f n
unfolding greatest
le-greatest f zero k passes le = le
le-greatest f (suc n) k passes le = elim (cases_Bool (f (suc n))) [
  | inl e ↦ rw e le
  | inr e ↦ rw e (le-greatest f n k passes (elim (cases_order k (suc n)) [
    | inl same ↦ absurd (both_ways (f (suc n)) e (subst (λ m. f m ≡ true) same passes))
    | inr apart ↦ omega (arith, apart)
  ]))
]

pub greatest_passes : (f : ℕ → Bool) (n : ℕ) → (greatest f n ≡ 0) ⊎ (f (greatest f n) ≡ true)
unfolding greatest
greatest_passes f zero = inl refl
greatest_passes f (suc n) = elim (cases_Bool (f (suc n))) [
  | inl e ↦ rw e (inr e)
  | inr e ↦ rw e (greatest_passes f n)
]

-- a number that passes, while none above it does
pub greatest_is : (f : ℕ → Bool) (n k : ℕ) → k ≤ n → (k ≡ 0) ⊎ (f k ≡ true) → ((j : ℕ) → k < j → j ≤ n → f j ≡ false) → greatest f n ≡ k
greatest_is f n k le passes above =
    let most = greatest-le f n in
    let least : k ≤ greatest f n = elim passes [ inl none ↦ omega (arith, none) | inr e ↦ le-greatest f n k e le ] in
    elim (cases_order k (greatest f n)) [
      | inl same ↦ sym same
      | inr (inl lt) ↦ absurd (elim (greatest_passes f n) [
        | inl none ↦ omega (arith, lt, none)
        | inr e ↦ both_ways (f (greatest f n)) (above (greatest f n) lt most) e
      ])
      | inr (inr gt) ↦ absurd (omega (arith, gt, least))
    ]

-- ---- which dates have come

come : (today : ℤ) (y : ℤ) (m d : ℕ) → days_from_civil y m d ≤ℤ today → has_come today y m d ≡ true
come today y m d le = not_from_false _ (false_below today (days_from_civil y m d) le)

not_come : (today : ℤ) (y : ℤ) (m d : ℕ) → today <ℤ days_from_civil y m d → has_come today y m d ≡ false
not_come today y m d lt = not_from_true _ (true_below today (days_from_civil y m d) lt)

has_come_is : (today : ℤ) (y : ℤ) (m d : ℕ) → has_come today y m d ≡ true → days_from_civil y m d ≤ℤ today
has_come_is today y m d e = not_below today (days_from_civil y m d) (not-true _ e)

has_not_come_is : (today : ℤ) (y : ℤ) (m d : ℕ) → has_come today y m d ≡ false → today <ℤ days_from_civil y m d
has_not_come_is today y m d e = let lt = not-false (int_lt today (days_from_civil y m d)) e in omega (arith, signed_arith, lt)

-- day numbers are in the order of day counts
before : (y₁ : ℤ) (m₁ d₁ : ℕ) (y₂ : ℤ) (m₂ d₂ : ℕ) → day_count y₁ m₁ d₁ < day_count y₂ m₂ d₂ → days_from_civil y₁ m₁ d₁ <ℤ days_from_civil y₂ m₂ d₂
before y₁ m₁ d₁ y₂ m₂ d₂ lt =
    let a = days_from_civil-day_count y₁ m₁ d₁ in
    let b = days_from_civil-day_count y₂ m₂ d₂ in
    omega (arith, ints, a, b, lt)

no_later : (y₁ : ℤ) (m₁ d₁ : ℕ) (y₂ : ℤ) (m₂ d₂ : ℕ) → day_count y₁ m₁ d₁ ≤ day_count y₂ m₂ d₂ → days_from_civil y₁ m₁ d₁ ≤ℤ days_from_civil y₂ m₂ d₂
no_later y₁ m₁ d₁ y₂ m₂ d₂ le =
    let a = days_from_civil-day_count y₁ m₁ d₁ in
    let b = days_from_civil-day_count y₂ m₂ d₂ in
    omega (arith, ints, a, b, le)

-- ---- the date of a day number

-- the calendar has a date, in the years 0 to 9999
abbrev pub IsDay : ℕ → ℕ → ℕ → Type 0
IsDay y m d = (y ≤ 9999) × IsInRange 1 12 m × IsInRange 1 (days_in_month (pos y) m) d

civil_date : (y m d : ℕ) → IsDay y m d → IsCivilDate (pos y) m d
civil_date y m d h = ((omega (arith, ints, h.0), omega (arith, ints, h.0)), h.1, h.2)

pub year_of-date : (y m d : ℕ) → IsDay y m d → year_of (days_from_civil (pos y) m d) ≡ y
unfolding year_of
year_of-date y m d h =
    let today = days_from_civil (pos y) m d in
    let first : day_count (pos y) 1 1 ≤ day_count (pos y) m d = let e = day_count-day_of_year (pos y) m d h.2.0 in omega (arith, e, h.2) in
    greatest_is (λ j. has_come today (pos j) 1 1) 9999 y h.0 (inr (come today (pos y) 1 1 (no_later (pos y) 1 1 (pos y) m d first)))
    (λ j lt le. not_come today (pos j) 1 1 (before (pos y) m d (pos j) 1 1
    (day_count-lt_year (pos y) m d (pos j) 1 1 (civil_date y m d h) (omega arith) (omega (arith, ints, lt)))))

pub month_of-date : (y m d : ℕ) → IsDay y m d → month_of (days_from_civil (pos y) m d) ≡ m
unfolding month_of
month_of-date y m d h =
    let today = days_from_civil (pos y) m d in
    let first : day_count (pos y) m 1 ≤ day_count (pos y) m d = let e = day_count-day (pos y) m 1 d (omega arith) h.2.0 in omega (arith, e, h.2) in
    rw (year_of-date y m d h) (greatest_is (λ j. has_come today (pos y) j 1) 12 m h.1.1 (inr (come today (pos y) m 1 (no_later (pos y) m 1 (pos y) m d first)))
    (λ j lt le. not_come today (pos y) j 1 (before (pos y) m d (pos y) j 1 (day_count-lt_month (pos y) m d j 1 (civil_date y m d h) (omega arith) lt))))

pub day_of-date : (y m d : ℕ) → IsDay y m d → day_of (days_from_civil (pos y) m d) ≡ d
unfolding day_of
day_of-date y m d h =
    let e = days_from_civil-day (pos y) m d 1 h.2.0 (omega arith) in
    let difference : days_from_civil (pos y) m d -ℤ days_from_civil (pos y) m 1 ≡ pos (d - 1) = omega (arith, ints, e, h.2.0) in
    rw (year_of-date y m d h, month_of-date y m d h) (ap (λ z. 1 + unsigned_abs z) difference ∙ omega (arith, h.2.0))

first_day : days_from_civil (pos 0) 1 1 ≡ negsuc 719527
first_day = let a = days_from_civil-day_count (pos 0) 1 1 in
    let b = day_count-early (pos 0) 9999 1 1 refl (omega arith) (omega arith) (omega arith) in omega (arith, ints, a, b)

day_after_last : days_from_civil (pos 10000) 1 1 ≡ pos 2932897
day_after_last = let a = days_from_civil-day_count (pos 10000) 1 1 in omega (arith, ints, a, day_count-end)

-- a day in the years 0 to 9999
abbrev pub IsDayNumber : ℤ → Type 0
IsDayNumber today = IsBetween (negsuc 719527) (pos 2932896) today

year_has_come : (today : ℤ) → IsDayNumber today → days_from_civil (pos (year_of today)) 1 1 ≤ℤ today
unfolding year_of
year_has_come today h = elim (greatest_passes (λ y. has_come today (pos y) 1 1) 9999) [
  | inl none ↦ rw none (omega (arith, ints, first_day, h))
  | inr e ↦ has_come_is today (pos (year_of today)) 1 1 e
]

next_year_has_not : (today : ℤ) → IsDayNumber today → today <ℤ days_from_civil (pos (year_of today + 1)) 1 1
unfolding year_of
next_year_has_not today h =
    let f : ℕ → Bool = λ y. has_come today (pos y) 1 1 in
    let most = greatest-le f 9999 in
    elim (cases_Bool (f (greatest f 9999 + 1))) [
      | inl e ↦ elim (cases_order (greatest f 9999) 9999) [
        | inl last ↦ rw last (omega (arith, ints, day_after_last, h))
        | inr apart ↦ let more = le-greatest f 9999 (greatest f 9999 + 1) e (omega (arith, apart, most)) in absurd (omega (arith, more))
      ]
      | inr e ↦ has_not_come_is today (pos (greatest f 9999 + 1)) 1 1 e
    ]

-- the last month that has begun, and its length
month_facts : (today : ℤ) → IsDayNumber today → IsInRange 1 12 (month_of today)
    × (days_from_civil (pos (year_of today)) (month_of today) 1 ≤ℤ today)
    × (today <ℤ (days_from_civil (pos (year_of today)) (month_of today) 1 +ℤ pos (days_in_month (pos (year_of today)) (month_of today))))
unfolding month_of
month_facts today h =
    let y = year_of today in
    let f : ℕ → Bool = λ m. has_come today (pos y) m 1 in
    let m = greatest f 12 in
    let most = greatest-le f 12 in
    let least : 1 ≤ m = le-greatest f 12 1 (come today (pos y) 1 1 (year_has_come today h)) (omega arith) in
    let begun : days_from_civil (pos y) m 1 ≤ℤ today = elim (greatest_passes f 12) [
      | inl none ↦ absurd (omega (arith, none, least))
      | inr e ↦ has_come_is today (pos y) m 1 e
    ] in
    let a = days_from_civil-day_count (pos y) m 1 in
    let ends : today <ℤ (days_from_civil (pos y) m 1 +ℤ pos (days_in_month (pos y) m)) = elim (cases_order m 12) [
      | inl last ↦
          let b = days_from_civil-day_count (pos (y + 1)) 1 1 in
          let next = next_year_has_not today h in
          let years = day_count-next_year (pos y) (pos (y + 1)) (omega (arith, ints)) (omega (arith, ints)) in
          let end = day_count-last_of_year (pos y) in
          let december = day_count-day (pos y) 12 1 31 (omega arith) (omega arith) in
          let a12 : days_from_civil (pos y) m 1 ≡ days_from_civil (pos y) 12 1 = ap (λ k. days_from_civil (pos y) k 1) last in
          let c = days_from_civil-day_count (pos y) 12 1 in
          let length_is : days_in_month (pos y) m ≡ 31 = ap (days_in_month (pos y)) last in
          omega (arith, ints, b, c, next, years, end, december, a12, length_is)
      | inr apart ↦
          let b = days_from_civil-day_count (pos y) (m + 1) 1 in
          let months = day_count-next_month (pos y) m least in
          elim (cases_Bool (f (m + 1))) [
            | inl e ↦ let more = le-greatest f 12 (m + 1) e (omega (arith, apart, most)) in absurd (omega (arith, more))
            | inr e ↦ let next = has_not_come_is today (pos y) (m + 1) 1 e in omega (arith, ints, a, b, months, next)
          ]
    ] in
    ((least, most), begun, ends)

pub year_low : (today : ℤ) → year_of today ≤ 9999
unfolding year_of
year_low today = greatest-le (λ y. has_come today (pos y) 1 1) 9999

whole : (z : ℤ) → pos 0 ≤ℤ z → z ≡ pos (unsigned_abs z)
whole (pos n) h = refl
whole (negsuc n) h = absurd (omega (arith, ints, h))

-- the date of a day is in the calendar, and has its number
pub date_of_day : (today : ℤ) → IsDayNumber today → IsDay (year_of today) (month_of today) (day_of today)
    × (days_from_civil (pos (year_of today)) (month_of today) (day_of today) ≡ today)
unfolding day_of
date_of_day today h =
    let y = year_of today in
    let m = month_of today in
    let first = days_from_civil (pos y) m 1 in
    let month = month_facts today h in
    let is = whole (today -ℤ first) (omega (arith, ints, month.1)) in
    let k = unsigned_abs (today -ℤ first) in
    let e = days_from_civil-day (pos y) m (1 + k) 1 (omega arith) (omega arith) in
    ((year_low today, month.0, (omega arith, omega (arith, ints, is, month.2))), omega (arith, ints, is, e))

-- ---- the date of the calendar's code

year_not_negative : (d : Date) → IsDayNumber (epoch_day d) → pos 0 ≤ℤ d.year
year_not_negative d h = by_lt_z d.year (pos 0)
    (λ lt. let early = before d.year d.month d.day (pos 0) 1 1 (day_count-lt_year d.year d.month d.day (pos 0) 1 1
    (civil d) (omega arith) lt) in absurd (omega (arith, ints, early, first_day, h)))
    (λ le. le)

pub date_found : (d : Date) (today : ℤ) → epoch_day d ≡ today → IsDayNumber today
    → (pos 0 ≤ℤ d.year) × (unsigned_abs d.year ≡ year_of today) × (d.month ≡ month_of today) × (d.day ≡ day_of today)
date_found d today is h =
    let known = civil d in
    let above = year_not_negative d (subst IsDayNumber (sym is) h) in
    let y = unsigned_abs d.year in
    let year : d.year ≡ pos y = whole d.year above in
    let low : y ≤ 9999 = let within = d.year_in in omega (arith, ints, year, within) in
    let days : IsInRange 1 (days_in_month (pos y) d.month) d.day = subst (λ z. IsInRange 1 (days_in_month z d.month) d.day) year d.day_in in
    let same : days_from_civil (pos y) d.month d.day ≡ today = ap (λ z. days_from_civil z d.month d.day) (sym year) ∙ is in (
      above,
      sym (year_of-date y d.month d.day (low, d.month_in, days)) ∙ ap year_of same,
      sym (month_of-date y d.month d.day (low, d.month_in, days)) ∙ ap month_of same,
      sym (day_of-date y d.month d.day (low, d.month_in, days)) ∙ ap day_of same,
    )

-- ---- seconds

-- seconds are the whole days before them and the rest of a day
pub seconds_parts : (seconds : ℤ) → (seconds ≡ int_div_euclid seconds (pos 86400) *ℤ pos 86400 +ℤ pos
    (unsigned_abs (int_rem_euclid seconds (pos 86400)))) × (unsigned_abs (int_rem_euclid seconds (pos 86400)) < 86400)
seconds_parts (pos n) = (omega (arith, ints), omega arith)
seconds_parts (negsuc n) = (omega (arith, ints), omega arith)

pub day_number_range : (seconds : ℤ) → IsBetween (negsuc 62167219199) (pos 253402300799) seconds → IsDayNumber (int_div_euclid seconds (pos 86400))
day_number_range seconds h = let parts = seconds_parts seconds in omega (arith, ints, parts, h)

parts_again : (day seconds : ℤ) (s : ℕ) → seconds ≡ day *ℤ pos 86400 +ℤ pos s
    → s < 86400 → (int_div_euclid seconds (pos 86400) ≡ day) × (unsigned_abs (int_rem_euclid seconds (pos 86400)) ≡ s)
parts_again day seconds s is lt = let parts = seconds_parts seconds in (omega (arith, ints, is, lt, parts), omega (arith, ints, is, lt, parts))

-- the time at some seconds is in the calendar, and has those seconds
pub civil_at_is : (seconds : ℤ) → IsBetween (negsuc 62167219199) (pos 253402300799) seconds
    → IsCivilTime (civil_at seconds) × (seconds_at (civil_at seconds) ≡ seconds)
civil_at_is seconds h =
    let today = int_div_euclid seconds (pos 86400) in
    let s = unsigned_abs (int_rem_euclid seconds (pos 86400)) in
    let parts = seconds_parts seconds in
    let date = date_of_day today (day_number_range seconds h) in
    let clock : 3600 * (s / 3600) + 60 * (s / 60 % 60) + s % 60 ≡ s = omega arith in (
      (date.0.0, date.0.1, date.0.2, omega (arith, parts), omega arith, omega arith),
      ap (λ d. d *ℤ pos 86400 +ℤ pos (3600 * (s / 3600) + 60 * (s / 60 % 60) + s % 60)) date.1 ∙ ap (λ n. today *ℤ pos 86400 +ℤ pos n) clock ∙ sym parts.0,
    )

pub same_time : (a b c d e f : ℕ) (t : CivilTime) → a ≡ t.year → b ≡ t.month → c ≡ t.day → d ≡ t.hour → e ≡ t.minute → f ≡ t.second
    → ◌≡◌ {A = CivilTime} (record { year = a; month = b; day = c; hour = d; minute = e; second = f }) t
same_time a b c d e f t ha hb hc hd he hf = rw (ha, hb, hc, hd, he, hf) refl

-- the time at a time's seconds is that time
pub civil_at-seconds_at : (t : CivilTime) → IsCivilTime t → civil_at (seconds_at t) ≡ t
civil_at-seconds_at t h =
    let parts = parts_again (day_number t) (seconds_at t) (second_of_day t) refl (omega (arith, h.3, h.4, h.5)) in
    let day : IsDay t.year t.month t.day = (h.0, h.1, h.2) in
    same_time _ _ _ _ _ _ t
    (ap year_of parts.0 ∙ year_of-date t.year t.month t.day day)
    (ap month_of parts.0 ∙ month_of-date t.year t.month t.day day)
    (ap day_of parts.0 ∙ day_of-date t.year t.month t.day day)
    (ap (λ s. s / 3600) parts.1 ∙ omega (arith, h.3, h.4, h.5))
    (ap (λ s. s / 60 % 60) parts.1 ∙ omega (arith, h.3, h.4, h.5))
    (ap (λ s. s % 60) parts.1 ∙ omega (arith, h.3, h.4, h.5))

day_number_of : (y m d : ℕ) → IsDay y m d → IsDayNumber (days_from_civil (pos y) m d)
day_number_of y m d h =
    let first : day_count (pos y) 1 1 ≤ day_count (pos y) m d = let e = day_count-day_of_year (pos y) m d h.2.0 in omega (arith, e, h.2) in
    let low : days_from_civil (pos 0) 1 1 ≤ℤ days_from_civil (pos y) m d = elim (cases_order 0 y) [
      | inl none ↦ no_later (pos 0) 1 1 (pos y) m d (subst (λ k. day_count (pos k) 1 1 ≤ day_count (pos y) m d) (sym none) first)
      | inr apart ↦ no_later (pos 0) 1 1 (pos y) m d (let lt = day_count-lt_year (pos 0) 1 1
          (pos y) m d (civil_date 0 1 1 (omega arith, (omega arith, omega arith), (omega arith, omega arith))) h.2.0
          (omega (arith, ints, apart)) in omega (arith, lt))
    ] in
    let high = before (pos y) m d (pos 10000) 1 1
    (day_count-lt_year (pos y) m d (pos 10000) 1 1 (civil_date y m d h) (omega arith) (omega (arith, ints, h.0))) in
    (omega (arith, ints, low, first_day), omega (arith, ints, high, day_after_last))

-- a time's seconds lie in the years 0 to 9999
pub seconds_at_range : (t : CivilTime) → IsCivilTime t → IsBetween (negsuc 62167219199) (pos 253402300799) (seconds_at t)
seconds_at_range t h = let day = day_number_of t.year t.month t.day (h.0, h.1, h.2) in omega (arith, ints, day, h.3, h.4, h.5)
