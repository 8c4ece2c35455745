use Rattle.std.proofs.Common.{◌≡◌, ℕ, ◌-◌, ◌^◌, ◌<◌, length, get_or}
use Rattle.krb_keys.specs.Nfold.{value, ones_complement, joined, sum_of_parts}
use Rattle.krb_keys.proofs.folding.nfold.Given as goal

abbrev pub invariant-loop-p : goal.invariant-loop-p
invariant-loop-p l = (length l.part ≡ l.len) × ((k : ℕ) → get_or l.out k 0 < 256)
    × (value l.out ≡ ones_complement (256 ^ l.len - 1) (sum_of_parts l.len (joined l.input l.len) l.p))
