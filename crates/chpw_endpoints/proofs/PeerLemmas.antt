-- Peers that are the same are one peer.
use Rattle.std.proofs.Common.{◌≡◌, ℕ, ◌==◌, ap, arith, true}
use Rattle.std.proofs.lemmas.Bool.Decides.{nat_tests}
use Rattle.chpw_endpoints.specs.Peers.{is_peer}
use Rattle.chpw_endpoints.specs.declared.peer.Peer.{Peer}
use Rattle.chpw_endpoints.specs.declared.peer.Peer.TheVariants.{Host, Network}

same_number : (a b : ℕ) → (a == b) ≡ true → a ≡ b
same_number a b is = grind (arith, nat_tests)

pub same_peer : (a b : Peer) → is_peer a b ≡ true → a ≡ b
unfolding is_peer
same_peer (Host a) (Host b) is = ap (λ (n : ℕ). Host n) (same_number a b is)
same_peer (Network a) (Network b) is = ap (λ (n : ℕ). Network n) (same_number a b is)
same_peer (Host a) (Network b) is = absurd cc
same_peer (Network a) (Host b) is = absurd cc
