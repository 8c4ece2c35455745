-- Each slot has its turn.
use Rattle.std.proofs.Common.{◌≡◌, ℕ, ◌+◌, ◌-◌, ◌<◌, ◌≤◌, arith}
use Rattle.std.proofs.Math.Logic.{⊎_elim}
use Rattle.std.proofs.lemmas.Bool.{cases_lt}
use Rattle.std.proofs.lemmas.Bool.Decides.{nat_tests}
use Rattle.chpw_transfers.specs.Rounds.{comes_at}

pub has_turn : (first slots slot : ℕ) → slot < slots → (t : ℕ) × (t < slots) × (comes_at first slots t ≡ slot)
has_turn first slots slot within =
    ⊎_elim
    (λ (before : slot < first). ⊎_elim
    (λ (past : slots < first). (slot, within, grind (arith, nat_tests)))
    (λ (inside : first ≤ slots). (slot + (slots - first), omega arith, grind (arith, nat_tests)))
    (cases_lt slots first))
    (λ (from : first ≤ slot). (slot - first, omega arith, grind (arith, nat_tests)))
    (cases_lt slot first)
