-- Nobody is put out beyond need.
use Rattle.std.proofs.Common.{◌≡◌, ◌≢◌, ℕ, ◌+◌, ◌<◌, ◌≤◌, length, refl, sym, ◌∙◌, ap, subst, arith, true, Option, Some, None}
use Rattle.std.proofs.Math.Logic.{⊎_elim}
use Rattle.std.proofs.lemmas.Bool.{cases_eq, cases_lt}
use Rattle.std.proofs.lemmas.List.{get_or_past}
use Rattle.std.proofs.lemmas.List.Sums.{get_or-le-sum_by}
use Rattle.slab.specs.Slab.{Slab, get}
use Rattle.chpw_connection.specs.Stages.{Event, failed}
use Rattle.chpw_connection.specs.Holding.{held_at}
use Rattle.chpw_slots.specs.Slots.{held_in, Happens}
use Rattle.chpw_connection.specs.Slot.{Comes}
use Rattle.chpw_connection.specs.Eviction.{gives_way_at, gives_way_since}
use Rattle.chpw_slots.specs.Longest.{IsLongestBesides}
use Rattle.chpw_connections.specs.Room.{MakesRoom, held_besides, IsNeeded}
use Rattle.chpw_connection.specs.declared.connection.Connection.{Connection}
use Rattle.chpw_connection.specs.declared.eviction.EvictionRule.{EvictionRule}
use Rattle.chpw_slots.proofs.HeldLemmas.{changed_sum}
use Rattle.chpw_connection.proofs.EvictionLemmas.{waits_from}
use Rattle.chpw_slots.proofs.WaitLemmas.{besides_other, besides_same}
use Rattle.chpw_connections.proofs.RoomLemmas.{was_before}
use Rattle.chpw_slots.proofs.GivenLemmas.{held_less}

held_here_le : (slots : Slab Connection) (slot : ℕ) → held_at (get slots slot) ≤ held_in slots
held_here_le slots slot =
    ⊎_elim
    (λ (lt : slot < length slots.slots). get_or-le-sum_by held_at slots.slots slot None lt)
    (λ (past : length slots.slots ≤ slot).
    let none : held_at (get slots slot) ≡ 0 = ap held_at (get_or_past slots.slots slot None past) in
    omega arith)
    (cases_lt slot (length slots.slots))

-- what happens in a slot changes nothing of what the others hold
held_besides_same : (mid new : Slab Connection) (slot : ℕ) → ((other : ℕ) → other ≢ slot → get new other ≡ get mid other)
    → held_besides new slot ≡ held_besides mid slot
held_besides_same mid new slot others =
    omega (arith, changed_sum held_at None refl mid.slots new.slots slot others, held_here_le mid slot, held_here_le new slot)

-- nobody was put out yet
pub needed_none : (most count : ℕ) (who : EvictionRule) (s : Slab Connection) (slot : ℕ) → IsNeeded most count who s s slot
needed_none most count who s slot = λ gone differs changed. absurd (changed refl)

-- one more is put out, who has waited the longest, while there is no room
module _ (most count : ℕ) (who : EvictionRule) (old mid new : Slab Connection) (slot other : ℕ) (made : MakesRoom who old mid slot)
    (is : IsLongestBesides mid (Some slot) who other) (happens : Happens 0 mid new other failed) where
  apart : other ≢ slot
  apart = λ same. absurd (let none = besides_same mid who slot other same in let found = is.1 in cc)

  gives : gives_way_at who (get mid other) ≡ true
  gives = waits_from who (get mid other) is.0 (sym (besides_other mid who slot other apart) ∙ is.1)

  before : get mid other ≡ get old other
  before = was_before who (get old other) (get mid other) (made.others other apart) gives

  latest : (gone since s : ℕ) → gone ≢ slot → get new gone ≢ get old gone
      → gives_way_since who (get old gone) ≡ Some since → gives_way_since who (get old other) ≡ Some s → since ≤ s
  latest gone since s g changed at still =
      ⊎_elim
      (λ (same : gone ≡ other).
      let e = ap (λ (k : ℕ). gives_way_since who (get old k)) same in
      let equal : since ≡ s = cc in
      omega arith)
      (λ (apart_too : gone ≢ other).
      made.order gone other since s g apart (λ e. changed (happens.others gone apart_too ∙ e)) at (ap (gives_way_since who) before ∙ still))
      (cases_eq gone other)

  short : most < held_in mid + count → most < held_besides new slot + held_at (get old other) + held_at (get old slot) + count
  short lack =
      let freed : held_in new + held_at (get mid other) ≡ held_in mid = held_less who mid new slot other is happens in
      let here : held_at (get new slot) ≡ held_at (get old slot) = ap held_at (happens.others slot (λ e. apart (sym e)) ∙ made.here) in
      let there : held_at (get mid other) ≡ held_at (get old other) = ap held_at before in
      omega (arith, held_here_le new slot)

  pub needed_next : most < held_in mid + count → IsNeeded most count who old new slot
  needed_next lack = λ gone differs changed. record {
    last = other;
    other = apart;
    gave = subst (λ (o : Option Connection). gives_way_at who o ≡ true) before gives;
    ended = subst (λ (o : Option Connection). Comes 0 failed o (get new other)) before happens.here;
    latest = latest;
    short = short lack;
  }

-- and then an event happens in the slot for which room was made
pub needed_still : (most count now : ℕ) (who : EvictionRule) (old mid new : Slab Connection) (slot : ℕ) (event : Event)
    → IsNeeded most count who old mid slot → Happens now mid new slot event → IsNeeded most count who old new slot
needed_still most count now who old mid new slot event needed happens = λ gone differs changed.
    let ends = needed gone differs (λ e. changed (happens.others gone differs ∙ e)) in
    record {
      last = ends.last;
      other = ends.other;
      gave = ends.gave;
      ended = subst (λ (o : Option Connection). Comes 0 failed (get old ends.last) o) (sym (happens.others ends.last ends.other)) ends.ended;
      latest = λ k since s g changed_too at still. ends.latest k since s g (λ e. changed_too (happens.others k g ∙ e)) at still;
      short = let same = held_besides_same mid new slot happens.others in let before = ends.short in omega arith;
    }
