-- Digits after a number only raise it.
use Rattle.std.proofs.Common.{◌≡◌, ℕ, ◌+◌, ◌-◌, ◌*◌, ◌≤◌, ◌<◌, List, [], ◌∷◌, length, get_or, Bool, true, false, None, refl, arith, ◌&&◌}
use Rattle.std.proofs.lemmas.Bool.Decides.{nat_tests}
use Rattle.std.proofs.lemmas.Grind.{common_steps}
use Rattle.std.specs.Prelude.{nat_le, Some, if◌then◌else◌}
use Rattle.std.specs.Char.{is_ascii_digit}
use Rattle.std.specs.List.{list_all}
use Rattle.chpw_kdc.specs.Lines.{value_from, digits_value}

pub value_from_grows : (ds : List ℕ) (n : ℕ) → n ≤ value_from n ds
value_from_grows [] n = omega arith
value_from_grows (d ∷ ds) n = omega (arith, value_from_grows ds (10 * n + (d - 48)))

none_over : (b : Bool) (value high : ℕ) → high < value → None ≡ (if b && nat_le value high then Some value else None)
none_over true value high h = grind (arith, nat_tests, common_steps)
none_over false value high h = refl

-- where the digits so far are past the limit, so are all
pub over_high : (digits : List ℕ) (n : ℕ) (rest : List ℕ)
    → 1 ≤ length rest → value_from n rest ≡ value_from 0 digits → 4294967295 < 10 * n + (get_or rest 0 0 - 48) →
    None ≡ digits_value digits
over_high digits n [] h e over = absurd (omega arith)
over_high digits n (d ∷ rest) h e over =
    none_over (list_all is_ascii_digit digits) (value_from 0 digits) 4294967295
    (omega (arith, e, value_from_grows rest (10 * n + (d - 48))))
