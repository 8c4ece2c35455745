-- What the ends of those that give way would let go of.
use Rattle.std.proofs.Common.{◌≡◌, ◌≢◌, ℕ, zero, suc, ◌+◌, ◌<◌, ◌≤◌, List, [], ◌∷◌, length, take, refl, sym, ◌∙◌, ap, arith, true, nat_lt, not, Some, None}
use Rattle.std.proofs.Common.{get_or}
use Rattle.std.specs.List.{sum_by}
use Rattle.std.proofs.Math.Logic.{⊎_elim}
use Rattle.std.proofs.lemmas.Bool.{cases_lt}
use Rattle.std.proofs.lemmas.Bool.Decides.{nat_tests}
use Rattle.std.proofs.lemmas.List.{get_or_past, take_all}
use Rattle.std.proofs.lemmas.List.Sums.{sum_by-cons, sum_by-take-le, get_or-le-sum_by, sum_by-le-sum_by}
use Rattle.slab.specs.Slab.{Slab, get}
use Rattle.chpw_connection.specs.Stages.{failed}
use Rattle.chpw_connection.specs.Holding.{held_at}
use Rattle.chpw_slots.specs.Slots.{held_in, Happens}
use Rattle.chpw_connection.specs.Eviction.{gives_way_at, given_at}
use Rattle.chpw_slots.specs.Longest.{given_in, staying_besides, has_room_besides, IsLongestBesides, NobodyWaitsBesides}
use Rattle.chpw_connection.specs.declared.connection.Connection.{Connection}
use Rattle.chpw_connection.specs.declared.eviction.EvictionRule.{EvictionRule}
use Rattle.chpw_slots.proofs.CountLemmas.{below_next}
use Rattle.chpw_slots.proofs.HeldLemmas.{changed_sum}
use Rattle.chpw_connection.proofs.EvictionLemmas.{waits_from, given_le, gives_none, gives_held, lets_go}
use Rattle.chpw_slots.proofs.WaitLemmas.{besides_other, besides_same}

-- how many of the slots below this one
abbrev pub given_below : EvictionRule → Slab Connection → ℕ → ℕ
given_below who slots n = sum_by (given_at who) (take n slots.slots)

pub given_next : (who : EvictionRule) (slots : Slab Connection) (n : ℕ) → given_below who slots (n + 1) ≡ given_below who slots n + given_at who (get slots n)
given_next who slots n = below_next (given_at who) slots n refl

pub given_all : (who : EvictionRule) (slots : Slab Connection) (n : ℕ) → length slots.slots ≤ n → given_below who slots n ≡ given_in who slots
given_all who slots n few = ap (sum_by (given_at who)) (take_all n slots.slots few)

pub given_below_le : (who : EvictionRule) (slots : Slab Connection) (n : ℕ) → given_below who slots n ≤ given_in who slots
given_below_le who slots n = sum_by-take-le (given_at who) slots.slots n

pub given_in_le : (who : EvictionRule) (slots : Slab Connection) → given_in who slots ≤ held_in slots
given_in_le who slots = sum_by-le-sum_by (given_at who) held_at slots.slots (given_le who)

pub given_here_le : (who : EvictionRule) (slots : Slab Connection) (slot : ℕ) → given_at who (get slots slot) ≤ given_in who slots
given_here_le who slots slot =
    ⊎_elim
    (λ (lt : slot < length slots.slots). get_or-le-sum_by (given_at who) slots.slots slot None lt)
    (λ (past : length slots.slots ≤ slot).
    let none : given_at who (get slots slot) ≡ 0 = ap (given_at who) (get_or_past slots.slots slot None past) in
    omega arith)
    (cases_lt slot (length slots.slots))

no_sum : {X : Type 0} (f : X → ℕ) (d : X) → (xs : List X) → ((j : ℕ) → f (get_or xs j d) ≡ 0) → sum_by f xs ≡ 0
no_sum f d [] none = refl
no_sum f d (x ∷ xs) none = omega (arith, sum_by-cons f x xs, none 0, no_sum f d xs (λ j. none (suc j)))

-- where nobody else gives way, the ends of all are the end of one
one_sum : {X : Type 0} (f : X → ℕ) (d : X) → f d ≡ 0 → (xs : List X) (i : ℕ) → ((j : ℕ) → j ≢ i → f (get_or xs j d) ≡ 0) → sum_by f xs ≡ f (get_or xs i d)
one_sum f d none [] i others = sym none
one_sum f d none (x ∷ xs) zero others =
    omega (arith, sum_by-cons f x xs, no_sum f d xs (λ j. others (suc j) (λ e. absurd (cc))))
one_sum f d none (x ∷ xs) (suc i) others =
    omega (arith, sum_by-cons f x xs, others 0 (λ e. absurd (cc)), one_sum f d none xs i (λ j differs. others (suc j) (λ e. differs (cc))))

pub nobody_gives : (who : EvictionRule) (slots : Slab Connection) (slot : ℕ) → NobodyWaitsBesides slots (Some slot) who
    → given_in who slots ≡ given_at who (get slots slot)
nobody_gives who slots slot nobody =
    one_sum (given_at who) None refl slots.slots slot
    (λ j differs. gives_none who (get slots j) (sym (besides_other slots who slot j differs) ∙ nobody j))

-- then all is held that would stay
pub nobody_room : (most : ℕ) (who : EvictionRule) (slots : Slab Connection) (slot count : ℕ) → NobodyWaitsBesides slots (Some slot) who
    → has_room_besides most who slots slot count ≡ true → held_in slots + count ≤ most
nobody_room most who slots slot count nobody enough =
    let all = nobody_gives who slots slot nobody in
    let stays : staying_besides who slots slot ≡ held_in slots = omega arith in
    grind (arith, nat_tests)

-- one that gives way is ended: less is held, and as much would stay
module _ (who : EvictionRule) (mid new : Slab Connection) (slot other : ℕ) (is : IsLongestBesides mid (Some slot) who other)
    (happens : Happens 0 mid new other failed) where
  apart : other ≢ slot
  apart = λ same. absurd (let none = besides_same mid who slot other same in let found = is.1 in cc)

  gives : gives_way_at who (get mid other) ≡ true
  gives = waits_from who (get mid other) is.0 (sym (besides_other mid who slot other apart) ∙ is.1)

  pub held_less : held_in new + held_at (get mid other) ≡ held_in mid
  held_less =
      let gone = lets_go who (get mid other) (get new other) gives happens.here in
      omega (arith, changed_sum held_at None refl mid.slots new.slots other happens.others, gone.0)

  given_less : given_in who new + held_at (get mid other) ≡ given_in who mid
  given_less =
      let gone = lets_go who (get mid other) (get new other) gives happens.here in
      omega (arith, changed_sum (given_at who) None refl mid.slots new.slots other happens.others, gone.1, (gives_held who (get mid other) gives).0)

  pub fewer_held : held_in new < held_in mid
  fewer_held = omega (arith, held_less, (gives_held who (get mid other) gives).1)

  pub stays_same : staying_besides who new slot ≡ staying_besides who mid slot
  stays_same =
      let here : given_at who (get new slot) ≡ given_at who (get mid slot) = ap (given_at who) (happens.others slot (λ e. apart (sym e))) in
      omega (arith, held_less, given_less, here, given_here_le who new slot, given_in_le who new)

pub room_stays : (most : ℕ) (who : EvictionRule) (count : ℕ) (mid new : Slab Connection) (slot other : ℕ) → IsLongestBesides mid (Some slot) who other
    → Happens 0 mid new other failed → has_room_besides most who mid slot count ≡ true → has_room_besides most who new slot count ≡ true
room_stays most who count mid new slot other is happens enough =
    ap (λ (k : ℕ). not (nat_lt most (k + count))) (stays_same who mid new slot other is happens) ∙ enough
