use Rattle.std.proofs.Common.{◌≡◌, ℕ, ◌+◌, ◌-◌, ◌*◌, ◌^◌, ◌<◌, ◌≤◌, length, drop, get_or}
use Rattle.krb_keys.specs.Nfold.{value}
use Rattle.krb_keys.proofs.folding.add_bytes.Given as goal

abbrev pub invariant-loop-k : goal.invariant-loop-k
invariant-loop-k l =
    (l.carry ≤ 1) × ((j : ℕ) → j < l.k → get_or l.sum j 0 ≡ get_or l.initial.sum j 0)
    × (value (drop l.k l.sum) + l.carry * 256 ^ (length l.part - l.k) ≡ value (drop l.k l.initial.sum) + value (drop l.k l.part))
