use Rattle.std.proofs.Common.{◌∷◌, map, take}
use Rattle.clap.specs.Walk.{Text}
use Rattle.chpw_invocation.specs.Addresses.{AreListed, HasAddress}
use Rattle.chpw_invocation.specs.Listening.{listened}
use Rattle.chpw_invocation.proofs.addresses.addresses_from.Given as goal

abbrev pub invariant-loop-text : goal.invariant-loop-text
invariant-loop-text l = (text : Text) → HasAddress text l.fn.first
    → AreListed (text ∷ map (λ t. t.now) (take l.text-index l.others)) (listened l.addresses)
