use Rattle.std.proofs.Common.{◌≡◌, ℕ, ◌-◌, List, ◌++◌}
use Rattle.std.specs.Int.{w32, to_be_bytes}
use Rattle.krb_keys.specs.HashStates.{IsKeyed}
use Rattle.krb_keys.specs.Pbkdf2.{xored, repeated}
use Rattle.krb_keys.proofs.password_key.pbkdf2_block.Given as goal

abbrev pub invariant-loop : goal.invariant-loop
invariant-loop l =
    (password : List ℕ) → IsKeyed l.keyed password
    → (l.hash ≡ repeated password (l.salt ++ to_be_bytes w32 l.index) (l.counter - 1))
    × (l.sum ≡ xored password (l.salt ++ to_be_bytes w32 l.index) (l.counter - 1))
