use Rattle.std.proofs.Common.{◌≡◌, ◌/◌, ◌%◌, ap, ◌∙◌, arith, rules, pos, unsigned_abs, w16, w64, FitsSigned, to_z, of_z}
use Rattle.std.specs.Int.{int_div_euclid, int_rem_euclid}
use Rattle.std.proofs.lemmas.Int.{ints, to_z-of_z}
use Rattle.std.specs.Int.Signed.{yes_non_neg}
use Rattle.jiff_core.specs.Date.{epoch_day}
use Rattle.krb_codec.specs.CivilTimes.{year_of, civil_at}
use Rattle.krb_codec.proofs.CivilTimeLemmas.{date_found, day_number_range, same_time, year_low}
use Rattle.krb_codec.proofs.time.civil_at.Goals as goal

pub overflow_cast-result : goal.overflow_cast-result
overflow_cast-result c =
    let fs : FitsSigned w64 c.args.seconds = c.ranges.seconds in
    let fq : FitsSigned w64 c.div_euclid.result = search rules in
    let quotient : c.div_euclid.result ≡ int_div_euclid c.args.seconds (pos 86400) =
    c.div_euclid.ensures ∙ ap (λ n. int_div_euclid n (pos 86400)) (to_z-of_z w64 c.args.seconds fs) in
    let is : epoch_day c.date_of-date.result ≡ int_div_euclid c.args.seconds (pos 86400) =
    c.date_of-date.ensures ∙ to_z-of_z w64 c.div_euclid.result fq ∙ quotient in
    let found = date_found c.date_of-date.result _ is (day_number_range c.args.seconds c.requires) in
    let within = c.date_of-date.result.year_in in
    let fy : FitsSigned w16 c.date_of-date.result.year = omega (arith, ints, within) in
    rw (to_z-of_z w16 c.date_of-date.result.year fy) (yes_non_neg found.0, omega (arith, found, year_low (int_div_euclid c.args.seconds (pos 86400))))

pub returns-clause-value : goal.returns-clause-value
returns-clause-value c =
    let fs : FitsSigned w64 c.args.seconds = c.ranges.seconds in
    let fq : FitsSigned w64 c.div_euclid.result = search rules in
    let fr : FitsSigned w64 c.rem_euclid-second.result = search rules in
    let quotient : c.div_euclid.result ≡ int_div_euclid c.args.seconds (pos 86400) =
    c.div_euclid.ensures ∙ ap (λ n. int_div_euclid n (pos 86400)) (to_z-of_z w64 c.args.seconds fs) in
    let rest : c.rem_euclid-second.result ≡ int_rem_euclid c.args.seconds (pos 86400) =
    c.rem_euclid-second.ensures.value ∙ ap (λ n. int_rem_euclid n (pos 86400)) (to_z-of_z w64 c.args.seconds fs) in
    let is : epoch_day c.date_of-date.result ≡ int_div_euclid c.args.seconds (pos 86400) =
    c.date_of-date.ensures ∙ to_z-of_z w64 c.div_euclid.result fq ∙ quotient in
    let found = date_found c.date_of-date.result _ is (day_number_range c.args.seconds c.requires) in
    let within = c.date_of-date.result.year_in in
    let fy : FitsSigned w16 c.date_of-date.result.year = omega (arith, ints, within) in
    let year : unsigned_abs (to_z w16 (of_z w16 c.date_of-date.result.year))
    ≡ year_of (int_div_euclid c.args.seconds (pos 86400)) =
    ap unsigned_abs (to_z-of_z w16 c.date_of-date.result.year fy) ∙ found.1 in
    let second : unsigned_abs (to_z w64 (of_z w64 c.rem_euclid-second.result))
    ≡ unsigned_abs (int_rem_euclid c.args.seconds (pos 86400)) =
    ap unsigned_abs (to_z-of_z w64 c.rem_euclid-second.result fr ∙ rest) in
    same_time _ _ _ _ _ _ (civil_at c.args.seconds) year found.2 found.3 (ap (λ s. s / 3600) second) (ap (λ s. s / 60 % 60) second) (ap (λ s. s % 60) second)
