-- What is printed of a time.
use Rattle.std.proofs.Common.{◌≡◌, ◌∙◌, ℕ, ℤ, pos, ◌+◌, ◌/◌, ◌%◌, ◌<◌, ◌≤◌, true, List, ◌++◌, codes, Option, Some, refl, sym, ap, subst, arith}
use Rattle.std.specs.Prelude.{IsSome, is_some}
use Rattle.std.proofs.lemmas.Bool.{and_from, le-leb}
use Rattle.std.proofs.lemmas.List.Folds.{list_all-append}
use Rattle.jiff_core.proofs.CalendarLemmas.{days_in_month_bounds}
use Rattle.krb_codec.specs.Times.{IsTime, IsWritable, pair, time_octets, time_of}
use Rattle.krb_codec.proofs.TimeLemmas.{time_of_some, time_spelled}
use Rattle.chpw_rules.specs.Limits.{range, is_in}
use Rattle.chpw_printing.specs.Quoting.{are_graphic, is_field}
use Rattle.chpw_printing.specs.Times.{Tells, date_time, time_text}

-- what krb_codec writes of it
pub time_is : (seconds : ℤ) (text : List ℕ) → IsWritable seconds → time_of seconds ≡ Some text → text ≡ time_octets seconds
time_is seconds text h found =
    let same : Some text ≡ Some (time_octets seconds) = sym found ∙ time_of_some seconds h in
    cc

pub time_some : (seconds : ℤ) (found : Option (List ℕ)) → IsWritable seconds → found ≡ time_of seconds → IsSome found
time_some seconds found h same = ap is_some (same ∙ time_of_some seconds h)

-- a graphic text, with the proof
abbrev Graphic : Type 0
Graphic = (text : List ℕ) × (are_graphic text ≡ true)

abbrev then : Graphic → Graphic → Graphic
then x y = (x.0 ++ y.0, list_all-append (is_in (range 0x21 0x7e)) x.0 y.0 ∙ and_from _ _ x.1 y.1)

digit_graphic : (n : ℕ) → n < 10 → is_in (range 0x21 0x7e) (48 + n) ≡ true
digit_graphic n h = and_from _ _ (le-leb 33 (48 + n) (omega arith)) (le-leb (48 + n) 126 (omega (arith, h)))

pair_graphic : (n : ℕ) → n < 100 → are_graphic (pair n) ≡ true
pair_graphic n h =
    and_from _ _ (digit_graphic (n / 10) (omega (arith, h))) (and_from _ _ (digit_graphic (n % 10) (omega arith)) refl)

abbrev digits : (n : ℕ) → n < 100 → Graphic
digits n h = (pair n, pair_graphic n h)

abbrev mark : (text : List ℕ) → are_graphic text ≡ true → Graphic
mark text h = (text, h)

abbrev six : (n : ℕ) → n < 1000000 → Graphic
six n h =
    then (then (digits (n / 10000) (omega (arith, h))) (digits (n / 100 % 100) (omega arith))) (digits (n % 100) (omega arith))

date_field : (time : List ℕ) (seconds : ℤ) (micros : ℕ) → IsTime time seconds → micros < 1000000 → is_field (date_time time micros) ≡ true
date_field time seconds micros h low =
    let t = h.0 in
    let civil = h.1 in
    let days : t.day ≤ 31 = omega (arith, civil.2, days_in_month_bounds (pos t.year) t.month) in
    let dash = mark (codes "-") refl in
    let colon = mark (codes ":") refl in
    let year = then (digits (t.year / 100) (omega (arith, civil.0))) (digits (t.year % 100) (omega arith)) in
    let date = then (then (then (then year dash) (digits t.month (omega (arith, civil.1)))) dash) (digits t.day (omega (arith, days))) in
    let hours = then (then date (mark (codes "T") refl)) (digits t.hour (omega (arith, civil.3))) in
    let minutes = then (then hours colon) (digits t.minute (omega (arith, civil.4))) in
    let seconds = then (then minutes colon) (digits t.second (omega (arith, civil.5))) in
    let whole = then (then (then seconds (mark (codes ".") refl)) (six micros low)) (mark (codes "Z") refl) in
    subst (λ (xs : List ℕ). is_field (date_time xs micros) ≡ true) (sym h.2) whole.1

pub time_field : (seconds : ℤ) (micros : ℕ) → IsWritable seconds → micros < 1000000 → is_field (time_text seconds micros) ≡ true
time_field seconds micros h low = date_field (time_octets seconds) seconds micros (time_spelled seconds h) low

-- a time's text tells it
pub time_told : (seconds : ℤ) (micros : ℕ) → IsWritable seconds → Tells (time_text seconds micros) seconds micros
time_told seconds micros h = (time_octets seconds, time_spelled seconds h, refl)
