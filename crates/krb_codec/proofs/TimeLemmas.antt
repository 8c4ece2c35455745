-- Times and the texts that spell them.
use Rattle.std.proofs.Common.{◌≡◌, ℕ, zero, suc, ◌+◌, ◌-◌, ◌*◌, ◌/◌, ◌%◌, ◌<◌, ◌≤◌, Bool, true, false}
use Rattle.std.proofs.Common.{cond, ◌&&◌, not, List, [], ◌∷◌, length, take, get_or, refl, sym, ap}
use Rattle.std.proofs.Common.{subst, ◌∙◌, arith, eqb, leb, ℤ, pos, negsuc, ◌+ℤ◌, ◌*ℤ◌, ◌≤ℤ◌, ◌<ℤ◌}
use Rattle.std.proofs.Common.{◌↔◌, ◌⊎◌, inl, inr, w64, to_z, of_z, FitsSigned, Option, Some, None, Ok}
use Rattle.std.proofs.lemmas.Bool.{and_parts, and_from, and_right, le-leb, leb-true, eqb-true}
use Rattle.std.proofs.lemmas.Int.{ints, to_z-of_z, by_lt_z}
use Rattle.std.specs.Int.{IsInRange, is_in_range}
use Rattle.std.specs.Str.{all_ascii_digits}
use Rattle.jiff_core.specs.Calendar.{days_in_month, IsEpochDay}
use Rattle.jiff_core.specs.Date.{epoch_day}
use Rattle.jiff_core.specs.declared.civil.date.Date.{Date}
use Rattle.jiff_core.proofs.CalendarLemmas.{days_in_month_bounds}
use Rattle.krb_codec.specs.declared.fault.FaultKind.TheVariants.{BadTime}
use Rattle.krb_codec.specs.Faults.{fault}
use Rattle.krb_codec.specs.declared.time.CivilTime.{CivilTime}
use Rattle.krb_codec.specs.CivilTimes.{IsCivilTime, is_civil_day, is_time_of_day, is_civil_time, day_number, seconds_at, civil_at}
use Rattle.krb_codec.specs.Times.{civil_text, civil_of, has_time_form, is_time, IsTime, seconds_of, time_in, IsWritable, is_writable, time_octets, time_of}
use Rattle.krb_codec.proofs.CivilTimeLemmas.{civil_at_is, civil_at-seconds_at, same_time, seconds_at_range}
use Rattle.krb_codec.proofs.IntegerLemmas.{false_below, true_below}
use Rattle.krb_codec.proofs.StepLemmas.{guard_then, ok_is}

-- ---- tests and facts

in_range : (low high n : ℕ) → is_in_range low high n ≡ true → IsInRange low high n
in_range low high n e = let parts = and_parts (leb low n) (leb n high) e in (leb-true low n parts.0, leb-true n high parts.1)

in_range_test : (low high n : ℕ) → IsInRange low high n → is_in_range low high n ≡ true
in_range_test low high n h = and_from (leb low n) (leb n high) (le-leb low n h.0) (le-leb n high h.1)

pub civil_day_is : (t : CivilTime) → is_civil_day t ≡ true → (t.year ≤ 9999) × IsInRange 1 12 t.month × IsInRange 1 (days_in_month (pos t.year) t.month) t.day
civil_day_is t e =
    let month = is_in_range 1 12 t.month in
    let d = and_parts (leb t.year 9999 && month) (is_in_range 1 (days_in_month (pos t.year) t.month) t.day) e in
    let y = and_parts (leb t.year 9999) month d.0 in
    (leb-true t.year 9999 y.0, in_range 1 12 t.month y.1, in_range 1 _ t.day d.1)

pub civil_time_is : (t : CivilTime) → is_civil_time t ≡ true → IsCivilTime t
civil_time_is t e =
    let parts = and_parts (is_civil_day t) (is_time_of_day t) e in
    let day = civil_day_is t parts.0 in
    let a = and_parts (leb t.hour 23 && leb t.minute 59) (leb t.second 59) parts.1 in
    let b = and_parts (leb t.hour 23) (leb t.minute 59) a.0 in
    (day.0, day.1, day.2, leb-true t.hour 23 b.0, leb-true t.minute 59 b.1, leb-true t.second 59 a.1)

pub civil_time_test : (t : CivilTime) → IsCivilTime t → is_civil_time t ≡ true
civil_time_test t h =
    rw (
      le-leb t.year 9999 h.0,
      in_range_test 1 12 t.month h.1,
      in_range_test 1 (days_in_month (pos t.year) t.month) t.day h.2,
      le-leb t.hour 23 h.3,
      le-leb t.minute 59 h.4,
      le-leb t.second 59 h.5,
    ) refl

-- each of the first bytes is a digit
pub digit_at : (n : ℕ) (text : List ℕ) → all_ascii_digits (take n text) ≡ true → (i : ℕ) → i < n → i < length text → IsInRange 48 57 (get_or text i 0)
digit_at zero text e i lt within = absurd (omega arith)
digit_at (suc n) [] e i lt within = absurd (omega arith)
digit_at (suc n) (c ∷ text) e zero lt within = in_range 48 57 c (and_parts (is_in_range 48 57 c) (all_ascii_digits (take n text)) e).0
digit_at (suc n) (c ∷ text) e (suc i) lt within =
    digit_at n text (and_parts (is_in_range 48 57 c) (all_ascii_digits (take n text)) e).1 i (omega arith) (omega arith)

-- ---- digits

tens : (a b : ℕ) → IsInRange 48 57 a → IsInRange 48 57 b → a ≡ 48 + (10 * (a - 48) + (b - 48)) / 10
tens a b ha hb = omega arith

ones : (a b : ℕ) → IsInRange 48 57 a → IsInRange 48 57 b → b ≡ 48 + (10 * (a - 48) + (b - 48)) % 10
ones a b ha hb = omega arith

centuries : (a b c d : ℕ) → IsInRange 48 57 a → IsInRange 48 57 b → IsInRange 48 57 c → IsInRange 48 57 d
    → (100 * (10 * (a - 48) + (b - 48)) + (10 * (c - 48) + (d - 48))) / 100 ≡ 10 * (a - 48) + (b - 48)
centuries a b c d ha hb hc hd = omega arith

years : (a b c d : ℕ) → IsInRange 48 57 a → IsInRange 48 57 b → IsInRange 48 57 c → IsInRange 48 57 d
    → (100 * (10 * (a - 48) + (b - 48)) + (10 * (c - 48) + (d - 48))) % 100 ≡ 10 * (c - 48) + (d - 48)
years a b c d ha hb hc hd = omega arith

-- a text of digits and a Z is what is written for its parts
pub text_of_parts : (text : List ℕ) → length text ≡ 15
    → ((i : ℕ) → i < 14 → IsInRange 48 57 (get_or text i 0)) → get_or text 14 0 ≡ 90 → text ≡ civil_text (civil_of text)
text_of_parts (a ∷ b ∷ c ∷ d ∷ e ∷ f ∷ g ∷ h ∷ i ∷ j ∷ k ∷ l ∷ m ∷ n ∷ z ∷ []) len digit end =
    let da : IsInRange 48 57 a = digit 0 (omega arith) in
    let db : IsInRange 48 57 b = digit 1 (omega arith) in
    let dc : IsInRange 48 57 c = digit 2 (omega arith) in
    let dd : IsInRange 48 57 d = digit 3 (omega arith) in
    let de : IsInRange 48 57 e = digit 4 (omega arith) in
    let df : IsInRange 48 57 f = digit 5 (omega arith) in
    let dg : IsInRange 48 57 g = digit 6 (omega arith) in
    let dh : IsInRange 48 57 h = digit 7 (omega arith) in
    let di : IsInRange 48 57 i = digit 8 (omega arith) in
    let dj : IsInRange 48 57 j = digit 9 (omega arith) in
    let dk : IsInRange 48 57 k = digit 10 (omega arith) in
    let dl : IsInRange 48 57 l = digit 11 (omega arith) in
    let dm : IsInRange 48 57 m = digit 12 (omega arith) in
    let dn : IsInRange 48 57 n = digit 13 (omega arith) in
    let first = centuries a b c d da db dc dd in
    let last = years a b c d da db dc dd in
    rw (
      first,
      last,
      ← tens a b da db,
      ← ones a b da db,
      ← tens c d dc dd,
      ← ones c d dc dd,
      ← tens e f de df,
      ← ones e f de df,
      ← tens g h dg dh,
      ← ones g h dg dh,
      ← tens i j di dj,
      ← ones i j di dj,
      ← tens k l dk dl,
      ← ones k l dk dl,
      ← tens m n dm dn,
      ← ones m n dm dn,
      end,
    ) refl
text_of_parts text len digit end = absurd (omega (arith, len))

pub form_parts : (text : List ℕ) → has_time_form text ≡ true
    → (length text ≡ 15) × ((i : ℕ) → i < 14 → IsInRange 48 57 (get_or text i 0)) × (get_or text 14 0 ≡ 90)
form_parts text e =
    let a = and_parts (eqb (length text) 15 && all_ascii_digits (take 14 text)) (eqb (get_or text 14 0) 90) e in
    let b = and_parts (eqb (length text) 15) (all_ascii_digits (take 14 text)) a.0 in
    let len = eqb-true (length text) 15 b.0 in
    (len, λ i lt. digit_at 14 text b.1 i lt (omega (arith, len)), eqb-true _ _ a.1)

-- ---- what is read

pub seconds_none : (text : List ℕ) → is_time text ≡ false → seconds_of text ≡ None
unfolding seconds_of
seconds_none text e = ap (λ b. cond b (Some (seconds_at (civil_of text))) None) e

pub seconds_some : (text : List ℕ) → is_time text ≡ true → seconds_of text ≡ Some (seconds_at (civil_of text))
unfolding seconds_of
seconds_some text e = ap (λ b. cond b (Some (seconds_at (civil_of text))) None) e

pub some_if : {A : Type 0} (b : Bool) (x y : A) → cond b (Some x) None ≡ Some y → (b ≡ true) × (x ≡ y)
some_if true x y e = (refl, cc)
some_if false x y e = absurd cc

pub none_if : {A : Type 0} (b : Bool) (x : A) → cond b (Some x) None ≡ None → b ≡ false
none_if true x e = absurd cc
none_if false x e = refl

-- a text that is a time spells it
pub time_spelled_by : (text : List ℕ) → is_time text ≡ true → IsTime text (seconds_at (civil_of text))
time_spelled_by text e =
    let parts = and_parts (has_time_form text) (is_civil_time (civil_of text)) e in
    let form = form_parts text parts.0 in
    (civil_of text, civil_time_is (civil_of text) parts.1, text_of_parts text form.0 form.1 form.2, refl)

-- the seconds as an `i64` computes them
pub seconds_computed : (day second : ℤ) (s : ℕ) → IsEpochDay day → second ≡ pos s → second ≤ℤ pos 1000000
    → to_z w64 (of_z w64 (to_z w64 (of_z w64 (to_z w64 (of_z w64 day) *ℤ pos 86400)) +ℤ to_z w64 (of_z w64 second))) ≡ day *ℤ pos 86400 +ℤ pos s
seconds_computed day second s bound is small =
    let f : FitsSigned w64 day = omega (arith, ints) in
    let g : FitsSigned w64 (day *ℤ pos 86400) = omega (arith, ints) in
    let h : FitsSigned w64 second = omega (arith, ints) in
    let k : FitsSigned w64 (day *ℤ pos 86400 +ℤ second) = omega (arith, ints) in
    rw (to_z-of_z w64 day f, to_z-of_z w64 (day *ℤ pos 86400) g, to_z-of_z w64 second h, to_z-of_z w64 (day *ℤ pos 86400 +ℤ second) k, is) refl

-- ---- dates

pub date_is : (d : Date) (t : CivilTime) → d.year ≡ pos t.year
    → d.month ≡ t.month → d.day ≡ t.day → t.year ≤ 9999 → (is_civil_day t ≡ true) × (epoch_day d ≡ day_number t)
date_is d t year month day low =
    let month_in : IsInRange 1 12 t.month = subst (λ m. IsInRange 1 12 m) month d.month_in in
    let first : IsInRange 1 (days_in_month (pos t.year) d.month) d.day = subst (λ y. IsInRange 1 (days_in_month y d.month) d.day) year d.day_in in
    let second : IsInRange 1 (days_in_month (pos t.year) t.month) d.day = subst (λ m. IsInRange 1 (days_in_month (pos t.year) m) d.day) month first in
    let day_in : IsInRange 1 (days_in_month (pos t.year) t.month) t.day = subst (λ n. IsInRange 1 (days_in_month (pos t.year) t.month) n) day second in (
      rw (
        le-leb t.year 9999 low,
        in_range_test 1 12 t.month month_in,
        in_range_test 1 (days_in_month (pos t.year) t.month) t.day day_in,
      ) refl,
      rw (year, month, day) refl,
    )

-- ---- what is written

digit_test : (n : ℕ) → n < 10 → is_in_range 48 57 (48 + n) ≡ true
digit_test n lt = in_range_test 48 57 (48 + n) (omega arith)

pair_part : (n : ℕ) → n < 100 → 10 * (48 + n / 10 - 48) + (48 + n % 10 - 48) ≡ n
pair_part n lt = omega arith

year_part : (n : ℕ) → n < 10000 → 100 * (n / 100) + n % 100 ≡ n
year_part n lt = omega arith

pub civil_text_again : (t : CivilTime) → IsCivilTime t → civil_of (civil_text t) ≡ t
civil_text_again t h =
    let days : t.day ≤ 31 = omega (arith, h.2, days_in_month_bounds (pos t.year) t.month) in
    let century = pair_part (t.year / 100) (omega (arith, h.0)) in
    let rest = pair_part (t.year % 100) (omega (arith, h.0)) in
    let year : 100 * (10 * (48 + t.year / 100 / 10 - 48) + (48 + t.year / 100 % 10 - 48))
    + (10 * (48 + t.year % 100 / 10 - 48) + (48 + t.year % 100 % 10 - 48)) ≡ t.year =
    omega (arith, century, rest, year_part t.year (omega (arith, h.0))) in
    same_time _ _ _ _ _ _ t year (pair_part t.month (omega (arith, h.1)))
    (pair_part t.day (omega (arith, days))) (pair_part t.hour (omega (arith, h.3)))
    (pair_part t.minute (omega (arith, h.4))) (pair_part t.second (omega (arith, h.5)))

pub civil_text_form : (t : CivilTime) → IsCivilTime t → has_time_form (civil_text t) ≡ true
civil_text_form t h =
    let days : t.day ≤ 31 = omega (arith, h.2, days_in_month_bounds (pos t.year) t.month) in
    let lead : (n : ℕ) → n < 100 → is_in_range 48 57 (48 + n / 10) ≡ true = λ n lt. digit_test (n / 10) (omega arith) in
    let last : (n : ℕ) → is_in_range 48 57 (48 + n % 10) ≡ true = λ n. digit_test (n % 10) (omega arith) in
    rw (
      lead (t.year / 100) (omega (arith, h.0)),
      last (t.year / 100),
      lead (t.year % 100) (omega arith),
      last (t.year % 100),
      lead t.month (omega (arith, h.1)),
      last t.month,
      lead t.day (omega (arith, days)),
      last t.day,
      lead t.hour (omega (arith, h.3)),
      last t.hour,
      lead t.minute (omega (arith, h.4)),
      last t.minute,
      lead t.second (omega (arith, h.5)),
      last t.second,
    ) refl

pub civil_text_is_time : (t : CivilTime) → IsCivilTime t → is_time (civil_text t) ≡ true
civil_text_is_time t h = and_from (has_time_form (civil_text t)) (is_civil_time (civil_of (civil_text t)))
    (civil_text_form t h) (ap is_civil_time (civil_text_again t h) ∙ civil_time_test t h)

-- ---- contents

-- what is read is spelled
pub time_sound : (place : ℕ) (content : List ℕ) (seconds : ℤ) → time_in place content ≡ Ok seconds → IsTime content seconds
unfolding time_in
time_sound place content seconds e =
    let g = guard_then (is_time content) _ (Ok (seconds_at (civil_of content))) seconds e in
    subst (IsTime content) (ok_is _ _ g.1) (time_spelled_by content g.0)

-- what is spelled is read
time_tests : (content : List ℕ) (seconds : ℤ) → IsTime content seconds → (is_time content ≡ true) × (seconds_at (civil_of content) ≡ seconds)
time_tests content seconds (t, civil, is, value) =
    (ap is_time is ∙ civil_text_is_time t civil, ap (λ c. seconds_at (civil_of c)) is ∙ ap seconds_at (civil_text_again t civil) ∙ sym value)

pub time_complete : (place : ℕ) (content : List ℕ) (seconds : ℤ) → IsTime content seconds → time_in place content ≡ Ok seconds
unfolding time_in
time_complete place content seconds h =
    let is = time_tests content seconds h in
    ap (λ b. cond b (Ok (seconds_at (civil_of content))) (fault place BadTime)) is.0 ∙ ap (λ (n : ℤ). Ok n) is.1

some_is : {A : Type 0} (x y : A) → ◌≡◌ {A = Option A} (Some x) (Some y) → x ≡ y
some_is x y e = cc

pub time_in_none : (place : ℕ) (content : List ℕ) → seconds_of content ≡ None → time_in place content ≡ fault place BadTime
unfolding time_in seconds_of
time_in_none place content e = ap (λ b. cond b (Ok (seconds_at (civil_of content))) (fault place BadTime))
    (none_if (is_time content) (seconds_at (civil_of content)) e)

-- the text of a time in the years 0 to 9999 spells it
pub time_spelled : (seconds : ℤ) → IsWritable seconds → IsTime (time_octets seconds) seconds
unfolding time_octets
time_spelled seconds h = let is = civil_at_is seconds h in (civil_at seconds, is.0, refl, sym is.1)

-- a text that spells a time is the time's text
pub time_text_only : (text : List ℕ) (seconds : ℤ) → IsTime text seconds → time_octets seconds ≡ text
unfolding time_octets
time_text_only text seconds (t, civil, is, value) = ap (λ n. civil_text (civil_at n)) value ∙ ap civil_text (civil_at-seconds_at t civil) ∙ sym is

pub time_in_years : (text : List ℕ) (seconds : ℤ) → IsTime text seconds → IsWritable seconds
time_in_years text seconds (t, civil, is, value) = subst IsWritable (sym value) (seconds_at_range t civil)

pub seconds_of-exact : (text : List ℕ) (seconds : ℤ) → (seconds_of text ≡ Some seconds) ↔ IsTime text seconds
unfolding seconds_of
seconds_of-exact text seconds = (
  λ e. let g = some_if (is_time text) (seconds_at (civil_of text)) seconds e in subst (IsTime text) g.1 (time_spelled_by text g.0),
  λ h.
      let is = time_tests text seconds h in
      ap (λ b. cond b (Some (seconds_at (civil_of text))) None) is.0 ∙ ap (λ (n : ℤ). Some n) is.1,
)

pub time_of_none : (seconds : ℤ) → (seconds <ℤ negsuc 62167219199) ⊎ (pos 253402300799 <ℤ seconds) → time_of seconds ≡ None
unfolding time_of
time_of_none seconds (inl below) = let t : is_writable seconds ≡ false = rw (true_below _ _ below) refl in ap (λ b. cond b (Some (time_octets seconds)) None) t
time_of_none seconds (inr above) =
    let t : is_writable seconds ≡ false = and_right _ _ (ap not (true_below _ _ above)) in
    ap (λ b. cond b (Some (time_octets seconds)) None) t

pub time_of_some : (seconds : ℤ) → IsWritable seconds → time_of seconds ≡ Some (time_octets seconds)
unfolding time_of
time_of_some seconds h = let t : is_writable seconds ≡ true = rw (false_below _ _ h.0, false_below _ _ h.1) refl in
    ap (λ b. cond b (Some (time_octets seconds)) None) t

some_or_none : {A : Type 0} (x : A) → ◌≡◌ {A = Option A} (Some x) None → ⊥
some_or_none x e = cc

writable_or_not : (seconds : ℤ) → IsWritable seconds ⊎ ((seconds <ℤ negsuc 62167219199) ⊎ (pos 253402300799 <ℤ seconds))
writable_or_not seconds = by_lt_z seconds (negsuc 62167219199) (λ below. inr (inl below))
    (λ above. by_lt_z (pos 253402300799) seconds (λ out. inr (inr out)) (λ within. inl (above, within)))

pub outside : (seconds : ℤ) → (seconds <ℤ negsuc 62167219199) ⊎ (pos 253402300799 <ℤ seconds) → IsWritable seconds → ⊥
outside seconds (inl below) h = omega (arith, ints, below, h)
outside seconds (inr above) h = omega (arith, ints, above, h)

pub time_of-exact : (seconds : ℤ) (text : List ℕ) → (time_of seconds ≡ Some text) ↔ IsTime text seconds
time_of-exact seconds text = elim (writable_or_not seconds) [
  | inl within ↦ (
    λ e. subst (λ t. IsTime t seconds) (some_is _ _ (sym (time_of_some seconds within) ∙ e)) (time_spelled seconds within),
    λ h. time_of_some seconds within ∙ ap (λ (t : List ℕ). Some t) (time_text_only text seconds h),
  )
  | inr out ↦
      (λ e. absurd (some_or_none text (sym e ∙ time_of_none seconds out)), λ h. absurd (outside seconds out (time_in_years text seconds h)))
]

-- the two calls are inverse to each other
pub seconds_of-time_of : (text : List ℕ) (seconds : ℤ) → (seconds_of text ≡ Some seconds) ↔ (time_of seconds ≡ Some text)
seconds_of-time_of text seconds =
    let read = seconds_of-exact text seconds in
    let written = time_of-exact seconds text in
    (λ e. written.1 (read.0 e), λ e. read.1 (written.0 e))

pub one_time : (text : List ℕ) (seconds others : ℤ) → IsTime text seconds → IsTime text others → seconds ≡ others
one_time text seconds others h k = some_is seconds others (sym ((seconds_of-exact text seconds).1 h) ∙ (seconds_of-exact text others).1 k)
