-- Digits behind a number only raise it.
use Rattle.std.proofs.Common.{◌≡◌, ℕ, ◌+◌, ◌-◌, ◌*◌, ◌≤◌, ◌<◌, List, [], ◌∷◌, length, get_or, Bool, true, false, Option, None, refl, arith, ◌&&◌}
use Rattle.std.proofs.lemmas.Bool.Decides.{nat_tests}
use Rattle.std.proofs.lemmas.Grind.{common_steps}
use Rattle.std.specs.Prelude.{nat_le}
use Rattle.std.specs.Char.{is_ascii_digit}
use Rattle.std.specs.List.{list_all}
use Rattle.chpw_commands.specs.Words.{value_from, keep_if}

pub value_from_grows : (ds : List ℕ) (n : ℕ) → n ≤ value_from n ds
value_from_grows [] n = omega arith
value_from_grows (d ∷ ds) n = omega (arith, value_from_grows ds (10 * n + (d - 48)))

keep_if_over : (b : Bool) (value high : ℕ) → high < value → None ≡ keep_if (b && nat_le value high) value
keep_if_over true value high h = grind (arith, nat_tests, common_steps)
keep_if_over false value high h = refl

-- where the digits so far are past the limit, so are all
pub over_high : (digits : List ℕ) (n high : ℕ) (rest : List ℕ)
    → 1 ≤ length rest → value_from n rest ≡ value_from 0 digits → high < 10 * n + (get_or rest 0 0 - 48) →
    None ≡ keep_if (list_all is_ascii_digit digits && nat_le (value_from 0 digits) high) (value_from 0 digits)
over_high digits n high [] h e over = absurd (omega arith)
over_high digits n high (d ∷ rest) h e over =
    keep_if_over (list_all is_ascii_digit digits) (value_from 0 digits) high
    (omega (arith, e, value_from_grows rest (10 * n + (d - 48))))
