use Rattle.std.proofs.Common.{◌≡◌, ◌++◌, List, ℕ, length}
use Rattle.std.specs.List.{flat_map}
use Rattle.chpw_import.specs.Passwords.{salt_of}
use Rattle.chpw_import.proofs.password.default_salt.Given as goal

abbrev pub invariant-loop-parts : goal.invariant-loop-parts
invariant-loop-parts l =
    l.salt.items ++ flat_map (λ (part : List ℕ). part) l.parts ≡ salt_of l.realm l.name

abbrev pub decreases-loop-parts : goal.decreases-loop-parts
decreases-loop-parts l = length l.parts
