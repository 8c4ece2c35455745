-- How many connections a peer has, where one of them comes, changes or goes.
use Rattle.std.proofs.Common.{◌≡◌, ℕ, ◌+◌, ◌<◌, ◌≤◌, ap, arith, refl, Bool, true, false, cond, Option, Some, None, List, [], length}
use Rattle.std.specs.List.{sum_by}
use Rattle.std.proofs.lemmas.Bool.Decides.{nat_tests}
use Rattle.slab.specs.Slab.{Slab, get, Updates}
use Rattle.chpw_endpoints.specs.Peers.{is_peer}
use Rattle.chpw_endpoints.specs.declared.peer.Peer.{Peer}
use Rattle.chpw_endpoints.proofs.PeerLemmas.{same_peer}
use Rattle.chpw_connection.specs.Shares.{is_share_of, one_of_share, one_of_peer}
use Rattle.chpw_connection.specs.declared.connection.Connection.{Connection}
use Rattle.chpw_slots.specs.Shares.{count_of, is_share_full, IsShared}
use Rattle.chpw_slots.proofs.CountLemmas.{below, below_all}
use Rattle.chpw_slots.proofs.HeldLemmas.{changed_sum}

pub one_of_peer_le : (peer : Peer) (o : Option Connection) → one_of_peer peer o ≤ 1
one_of_peer_le peer None = omega arith
one_of_peer_le peer (Some c) = by_test (is_share_of peer c.share)
  where
    by_test : (t : Bool) → cond t 1 0 ≤ 1
    by_test true = omega arith
    by_test false = omega arith

-- what was in the slot goes, and what is there now comes
count_updates : (peer : Peer) (old new : Slab Connection) (key : ℕ) (o : Option Connection) → Updates old new key o
    → count_of peer new + one_of_peer peer (get old key) ≡ count_of peer old + one_of_peer peer o
unfolding count_of
count_updates peer old new key o updates =
    omega (
      arith,
      changed_sum (one_of_peer peer) None refl old.slots new.slots key updates.others,
      ap (one_of_peer peer) updates.changed,
    )

-- no connections are in no share
pub shared_none : (most : ℕ) (slots : Slab Connection) → slots.slots ≡ [] → IsShared most slots
unfolding count_of
shared_none most slots is peer =
    let none : count_of peer slots ≡ 0 = ap (λ (l : List (Option Connection)). sum_by (one_of_peer peer) l) is in
    omega (arith, none)

-- each slot in its turn, up to the last
pub count_all : (peer : Peer) (slots : Slab Connection) (n : ℕ) → length slots.slots ≤ n → below (one_of_peer peer) slots n ≡ count_of peer slots
unfolding count_of
count_all peer slots n few = below_all (one_of_peer peer) slots n few

-- one that goes leaves room for itself
pub shared_removed : (most : ℕ) (old new : Slab Connection) (key : ℕ) → Updates old new key None → IsShared most old → IsShared most new
shared_removed most old new key updates shared peer = omega (arith, count_updates peer old new key None updates, shared peer)

pub shared_with : (most : ℕ) (old new : Slab Connection) (key : ℕ) (c : Connection) → Updates old new key None → get old key ≡ Some c → IsShared most old
    → (peer : Peer) → count_of peer new + one_of_share peer c.share ≤ most
shared_with most old new key c updates is shared peer =
    omega (arith, count_updates peer old new key None updates, ap (one_of_peer peer) is, shared peer)

pub shared_put : (most : ℕ) (old new : Slab Connection) (key : ℕ) (c : Connection) → Updates old new key (Some c) → get old key ≡ None
    → ((peer : Peer) → count_of peer old + one_of_share peer c.share ≤ most) → IsShared most new
shared_put most old new key c updates free fits peer =
    omega (arith, count_updates peer old new key (Some c) updates, ap (one_of_peer peer) free, fits peer)

-- one if so
abbrev one_if : Bool → ℕ
one_if t = cond t 1 0

-- one more of a peer that has fewer than it may
room_for_one : (most : ℕ) (slots : Slab Connection) (share : Option Peer) → is_share_full most slots share ≡ false → IsShared most slots
    → (peer : Peer) → count_of peer slots + one_of_share peer share ≤ most
room_for_one most slots None room shared peer = omega (arith, shared peer)
room_for_one most slots (Some own) room shared peer = by_test (is_peer own peer) refl
  where
    few : count_of own slots < most
    few = grind (arith, nat_tests)

    by_test : (t : Bool) → is_peer own peer ≡ t → count_of peer slots + one_of_share peer (Some own) ≤ most
    by_test true is =
        let own_is : count_of own slots ≡ count_of peer slots = ap (λ (p : Peer). count_of p slots) (same_peer own peer is) in
        let one : one_of_share peer (Some own) ≡ 1 = ap (λ (t : Bool). one_if t) is in
        omega (arith, own_is, one, few)
    by_test false is =
        let none : one_of_share peer (Some own) ≡ 0 = ap (λ (t : Bool). one_if t) is in
        omega (arith, none, shared peer)

pub shared_accepted : (most : ℕ) (old new : Slab Connection) (key : ℕ) (c : Connection) → Updates old new key (Some c) → get old key ≡ None
    → is_share_full most old c.share ≡ false → IsShared most old → IsShared most new
shared_accepted most old new key c updates free room shared =
    shared_put most old new key c updates free (room_for_one most old c.share room shared)
