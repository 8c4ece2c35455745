use Rattle.std.proofs.Common.{◌≡◌, ◌∙◌, ap, arith, Some, ℤ, pos, w32, w64, FitsSigned}
use Rattle.std.proofs.lemmas.Int.{ints, to_z-of_z}
use Rattle.krb_codec.proofs.TimeLemmas.{date_is}
use Rattle.krb_codec.proofs.time.day_number.Goals as goal

pub returns-in-Ok-clause-value : goal.returns-in-Ok-clause-value
returns-in-Ok-clause-value c =
    let parts = c.in-Ok.ensures.value in
    let year : c.in-Ok.date.year ≡ pos c.args.time.year = omega (arith, ints, parts.0, c.requires.year) in
    let month : c.in-Ok.date.month ≡ c.args.time.month = omega (arith, ints, parts.1, c.requires.month) in
    let day : c.in-Ok.date.day ≡ c.args.time.day = omega (arith, ints, parts.2, c.requires.day) in
    let is = date_is c.in-Ok.date c.args.time year month day c.requires.year in
    let bound = c.to_unix_epoch_day.ensures.bound in
    let f : FitsSigned w32 c.to_unix_epoch_day.result = omega (arith, ints, bound) in
    let g : FitsSigned w64 c.to_unix_epoch_day.result = omega (arith, ints, bound) in
    let number : c.from.result ≡ c.to_unix_epoch_day.result = c.from.ensures ∙ to_z-of_z w32 c.to_unix_epoch_day.result f in
    rw (number, to_z-of_z w64 c.to_unix_epoch_day.result g, is.0) (ap (λ (n : ℤ). Some n) (c.to_unix_epoch_day.ensures.value ∙ is.1))
