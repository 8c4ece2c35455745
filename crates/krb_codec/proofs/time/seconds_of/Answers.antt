use Rattle.std.proofs.Common.{◌≡◌, ◌+ℤ◌, ◌*ℤ◌, sym, ◌∙◌, ap, true, false, Some, ℤ, pos}
use Rattle.std.proofs.lemmas.Bool.{and_from, and_left, and_right}
use Rattle.krb_codec.specs.Times.{has_time_form, civil_of}
use Rattle.krb_codec.specs.CivilTimes.{is_civil_day, is_time_of_day, is_civil_time, day_number, second_of_day, seconds_at}
use Rattle.krb_codec.proofs.TimeLemmas.{form_parts, seconds_none, seconds_some, seconds_computed, some_if, none_if}
use Rattle.krb_codec.proofs.time.seconds_of.Goals as goal

pub returns-then-not-has_time_form : goal.returns-then-not-has_time_form
returns-then-not-has_time_form c =
    let none : has_time_form c.args.text.now ≡ false = sym c.has_time_form.ensures ∙ c.if-not-has_time_form.true in
    sym (seconds_none c.args.text.now (and_left _ (is_civil_time (civil_of c.args.text.now)) none))

pub civil_of-time-requires : goal.civil_of-time-requires
civil_of-time-requires c =
    let form = form_parts c.args.text.now (sym c.has_time_form.ensures ∙ c.if-not-has_time_form.false) in
    record { len = form.0; digits = form.1 }

pub returns-in-Some : goal.returns-in-Some
returns-in-Some c =
    let form : has_time_form c.args.text.now ≡ true = sym c.has_time_form.ensures ∙ c.if-not-has_time_form.false in
    let same = c.civil_of-time.ensures.value in
    let day = some_if (is_civil_day c.civil_of-time.result) (day_number c.civil_of-time.result) c.in-Some.day (sym c.in-Some.ensures.value) in
    let of_day : is_time_of_day c.civil_of-time.result ≡ true = sym c.is_time_of_day.ensures ∙ c.if-is_time_of_day.true in
    let civil : is_civil_time (civil_of c.args.text.now) ≡ true = ap is_civil_time (sym same)
    ∙ and_from (is_civil_day c.civil_of-time.result) (is_time_of_day c.civil_of-time.result) day.0 of_day in
    let value = seconds_computed c.in-Some.day c.second_of_day.result (second_of_day c.civil_of-time.result)
    c.in-Some.ensures.bound c.second_of_day.ensures.value c.second_of_day.ensures.bound in
    let seconds : c.in-Some.day *ℤ pos 86400 +ℤ pos (second_of_day c.civil_of-time.result)
    ≡ seconds_at (civil_of c.args.text.now) =
    ap (λ d. d *ℤ pos 86400 +ℤ pos (second_of_day c.civil_of-time.result)) (sym day.1) ∙ ap seconds_at same in
    ap (λ (n : ℤ). Some n) (value ∙ seconds) ∙ sym (seconds_some c.args.text.now
    (and_from (has_time_form c.args.text.now) (is_civil_time (civil_of c.args.text.now)) form civil))

pub returns-in_default : goal.returns-in_default
returns-in_default c =
    let same = c.civil_of-time.ensures.value in
    let of_day : is_time_of_day c.civil_of-time.result ≡ false = sym c.is_time_of_day.ensures ∙ c.if-is_time_of_day.false in
    let civil : is_civil_time (civil_of c.args.text.now) ≡ false = ap is_civil_time (sym same)
    ∙ and_right (is_civil_day c.civil_of-time.result) (is_time_of_day c.civil_of-time.result) of_day in
    sym (seconds_none c.args.text.now (and_right (has_time_form c.args.text.now) (is_civil_time (civil_of c.args.text.now)) civil))

pub returns-in_default-2 : goal.returns-in_default-2
returns-in_default-2 c =
    let same = c.civil_of-time.ensures.value in
    let day = none_if (is_civil_day c.civil_of-time.result) (day_number c.civil_of-time.result) (sym c.in_default.ensures.value) in
    let civil : is_civil_time (civil_of c.args.text.now) ≡ false = ap is_civil_time (sym same)
    ∙ and_left (is_civil_day c.civil_of-time.result) (is_time_of_day c.civil_of-time.result) day in
    sym (seconds_none c.args.text.now (and_right (has_time_form c.args.text.now) (is_civil_time (civil_of c.args.text.now)) civil))
