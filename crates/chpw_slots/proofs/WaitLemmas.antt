-- Who has waited the longest.
use Rattle.std.proofs.Common.{◌≡◌, ◌≢◌, ℕ, ◌≤◌, refl, sym, ap, subst, arith, Bool, true, false, ◌==◌, cond, Option, Some, None, ◌+◌, ◌<◌, length, nat_le}
use Rattle.std.proofs.Common.{below_more}
use Rattle.std.proofs.Math.Logic.{⊎_elim}
use Rattle.std.proofs.lemmas.Bool.Decides.{nat_tests}
use Rattle.slab.specs.Slab.{Slab, get}
use Rattle.chpw_endpoints.specs.declared.peer.Peer.{Peer}
use Rattle.chpw_connection.specs.Eviction.{gives_way_since}
use Rattle.chpw_connection.specs.Shares.{waits_of_peer}
use Rattle.chpw_slots.specs.Longest.{waits_besides, IsEarliest, IsNever, earlier}
use Rattle.chpw_connection.specs.declared.connection.Connection.{Connection}
use Rattle.chpw_connection.specs.declared.eviction.EvictionRule.{EvictionRule}
use Rattle.std.proofs.lemmas.Bool.{cases_lt}
use Rattle.std.proofs.lemmas.List.{get_or_past}
use Rattle.chpw_connection.specs.Slot.{waits_since}

-- the slot that room is made for is left out, and no other
pub besides_other : (slots : Slab Connection) (who : EvictionRule) (b k : ℕ) → k ≢ b → waits_besides slots (Some b) who k ≡ gives_way_since who (get slots k)
besides_other slots who b k differs =
    let e : (k == b) ≡ false = grind (arith, nat_tests) in
    ap (λ (t : Bool). cond t None (gives_way_since who (get slots k))) e

pub besides_same : (slots : Slab Connection) (who : EvictionRule) (b k : ℕ) → k ≡ b → waits_besides slots (Some b) who k ≡ None
besides_same slots who b k same =
    let e : (k == b) ≡ true = grind (arith, nat_tests) in
    ap (λ (t : Bool). cond t None (gives_way_since who (get slots k))) e

-- of those that wait since these moments, among the slots below a number
abbrev pub IsEarliestBelow : (ℕ → Option ℕ) → Option (ℕ × ℕ) → ℕ → Type 0
IsEarliestBelow since_at None n = (k : ℕ) → k < n → since_at k ≡ None
IsEarliestBelow since_at (Some p) n = (since_at p.1 ≡ Some p.0) × ((k s : ℕ) → k < n → since_at k ≡ Some s → p.0 ≤ s)

abbrev pub IsLongestBelow : Slab Connection → Option ℕ → EvictionRule → Option (ℕ × ℕ) → ℕ → Type 0
IsLongestBelow slots besides who longest n = IsEarliestBelow (λ k. waits_besides slots besides who k) longest n

abbrev pub IsLongestOfBelow : Slab Connection → Peer → Option (ℕ × ℕ) → ℕ → Type 0
IsLongestOfBelow slots peer longest n = IsEarliestBelow (λ k. waits_of_peer peer (get slots k)) longest n

-- the next slot
earliest_next : (since_at : ℕ → Option ℕ) (longest : Option (ℕ × ℕ)) (n : ℕ) (w : Option ℕ) → since_at n ≡ w
    → IsEarliestBelow since_at longest n → IsEarliestBelow since_at (earlier longest n w) (n + 1)
earliest_next since_at None n None is below = below_more (λ k. since_at k ≡ None) n below is
earliest_next since_at (Some p) n None is below = (
  below.0,
  (λ k s lt at. below_more (λ j. (t : ℕ) → since_at j ≡ Some t → p.0 ≤ t) n (λ j l t e. below.1 j t l e)
      (λ t e. absurd cc) k lt s at),
)
earliest_next since_at None n (Some since) is below = (
  is,
  (λ k s lt at. below_more (λ j. (t : ℕ) → since_at j ≡ Some t → since ≤ t) n (λ j l t e. absurd (let none = below j l in cc))
      (λ t e. let same : since ≡ t = cc in omega arith) k lt s at),
)
earliest_next since_at (Some p) n (Some since) is below =
    ⊎_elim
    (λ (later : since < p.0).
    let e : nat_le p.0 since ≡ false = grind (arith, nat_tests) in
    subst (λ (b : Bool). IsEarliestBelow since_at (cond b (Some p) (Some (since, n))) (n + 1)) (sym e) (
      is,
      (λ k s lt at. below_more (λ j. (t : ℕ) → since_at j ≡ Some t → since ≤ t) n
          (λ j l t same. let old = below.1 j t l same in omega arith)
          (λ t same. let equal : since ≡ t = cc in omega arith) k lt s at),
    ))
    (λ (first : p.0 ≤ since).
    let e : nat_le p.0 since ≡ true = grind (arith, nat_tests) in
    subst (λ (b : Bool). IsEarliestBelow since_at (cond b (Some p) (Some (since, n))) (n + 1)) (sym e) (
      below.0,
      (λ k s lt at. below_more (λ j. (t : ℕ) → since_at j ≡ Some t → p.0 ≤ t) n
          (λ j l t same. below.1 j t l same)
          (λ t same. let equal : since ≡ t = cc in omega arith) k lt s at),
    ))
    (cases_lt since p.0)

-- of all slots, where nobody waits from this one on
earliest_of_all : (since_at : ℕ → Option ℕ) (p : ℕ × ℕ) (n : ℕ) → ((k : ℕ) → n ≤ k → since_at k ≡ None)
    → IsEarliestBelow since_at (Some p) n → IsEarliest since_at p.1
earliest_of_all since_at p n past below = (
  p.0,
  below.0,
  (λ k s at.
      ⊎_elim
      (λ (lt : k < n). below.1 k s lt at)
      (λ (over : n ≤ k). let none = past k over in absurd cc)
      (cases_lt k n)),
)

never_of_all : (since_at : ℕ → Option ℕ) (n : ℕ) → ((k : ℕ) → n ≤ k → since_at k ≡ None) → IsEarliestBelow since_at None n → IsNever since_at
never_of_all since_at n past below k =
    ⊎_elim (λ (lt : k < n). below k lt) (λ (over : n ≤ k). past k over) (cases_lt k n)

-- past the last slot there is nobody
past_none : (slots : Slab Connection) (besides : Option ℕ) (who : EvictionRule) (n k : ℕ)
    → length slots.slots ≤ n → n ≤ k → waits_besides slots besides who k ≡ None
past_none slots None who n k few past = ap waits_since (get_or_past slots.slots k None (omega arith))
past_none slots (Some b) who n k few past = by_test (k == b)
  where
    by_test : (t : Bool) → cond t None (gives_way_since who (get slots k)) ≡ None
    by_test true = refl
    by_test false = ap (gives_way_since who) (get_or_past slots.slots k None (omega arith))

past_none_of : (slots : Slab Connection) (peer : Peer) (n k : ℕ) → length slots.slots ≤ n → n ≤ k → waits_of_peer peer (get slots k) ≡ None
past_none_of slots peer n k few past = ap (waits_of_peer peer) (get_or_past slots.slots k None (omega arith))

-- of those that give way, or of all
pub longest_next : (slots : Slab Connection) (besides : Option ℕ)
    (who : EvictionRule) (longest : Option (ℕ × ℕ)) (n : ℕ) (w : Option ℕ) → waits_besides slots besides who n ≡ w
    → IsLongestBelow slots besides who longest n → IsLongestBelow slots besides who (earlier longest n w) (n + 1)
longest_next slots besides who longest n w is below = earliest_next (λ k. waits_besides slots besides who k) longest n w is below

pub longest_of_all : (slots : Slab Connection) (besides : Option ℕ) (who : EvictionRule) (p : ℕ × ℕ) (n : ℕ) → length slots.slots ≤ n
    → IsLongestBelow slots besides who (Some p) n → IsEarliest (λ s. waits_besides slots besides who s) p.1
longest_of_all slots besides who p n few below =
    earliest_of_all (λ s. waits_besides slots besides who s) p n (λ k past. past_none slots besides who n k few past) below

pub nobody_of_all : (slots : Slab Connection) (besides : Option ℕ) (who : EvictionRule) (n : ℕ)
    → length slots.slots ≤ n → IsLongestBelow slots besides who None n
    → IsNever (λ s. waits_besides slots besides who s)
nobody_of_all slots besides who n few below =
    never_of_all (λ s. waits_besides slots besides who s) n (λ k past. past_none slots besides who n k few past) below

-- of a peer's
pub longest_of_next : (slots : Slab Connection) (peer : Peer) (longest : Option (ℕ × ℕ)) (n : ℕ) (w : Option ℕ) → waits_of_peer peer (get slots n) ≡ w
    → IsLongestOfBelow slots peer longest n → IsLongestOfBelow slots peer (earlier longest n w) (n + 1)
longest_of_next slots peer longest n w is below = earliest_next (λ k. waits_of_peer peer (get slots k)) longest n w is below

pub longest_of_peer : (slots : Slab Connection) (peer : Peer) (p : ℕ × ℕ) (n : ℕ) → length slots.slots ≤ n
    → IsLongestOfBelow slots peer (Some p) n → IsEarliest (λ s. waits_of_peer peer (get slots s)) p.1
longest_of_peer slots peer p n few below =
    earliest_of_all (λ s. waits_of_peer peer (get slots s)) p n (λ k past. past_none_of slots peer n k few past) below

pub nobody_of_peer : (slots : Slab Connection) (peer : Peer) (n : ℕ) → length slots.slots ≤ n → IsLongestOfBelow slots peer None n
    → IsNever (λ s. waits_of_peer peer (get slots s))
nobody_of_peer slots peer n few below =
    never_of_all (λ s. waits_of_peer peer (get slots s)) n (λ k past. past_none_of slots peer n k few past) below
