-- Who is put out to make room.
use Rattle.std.proofs.Common.{◌≡◌, ◌≢◌, ℕ, ◌≤◌, refl, sym, ◌∙◌, ap, subst, arith, true, Option, Some, inl, inr}
use Rattle.std.proofs.Math.Logic.{⊎_elim}
use Rattle.std.proofs.lemmas.Bool.{cases_eq}
use Rattle.slab.specs.Slab.{Slab, get}
use Rattle.chpw_connection.specs.Stages.{Event, failed}
use Rattle.chpw_connection.specs.Slot.{Comes}
use Rattle.chpw_slots.specs.Slots.{Happens}
use Rattle.chpw_connection.specs.Eviction.{gives_way_at, gives_way_since}
use Rattle.chpw_slots.specs.Longest.{IsLongestBesides}
use Rattle.chpw_connections.specs.Room.{PutsOut, LongestFirst, MakesRoom, HappensWithRoom}
use Rattle.chpw_connection.specs.declared.connection.Connection.{Connection}
use Rattle.chpw_connection.specs.declared.eviction.EvictionRule.{EvictionRule}
use Rattle.chpw_connection.proofs.EvictionLemmas.{waits_from, out_waits_not}
use Rattle.chpw_slots.proofs.WaitLemmas.{besides_other, besides_same}

-- who waits was not put out before
pub was_before : (who : EvictionRule) (old mid : Option Connection) → PutsOut who old mid → gives_way_at who mid ≡ true → mid ≡ old
was_before who old mid (inl same) is = same
was_before who old mid (inr out) is = absurd (let not = out_waits_not who old mid out.0 out.1 in cc)

puts_out_next : (who : EvictionRule) (old mid new : Option Connection)
    → PutsOut who old mid → gives_way_at who mid ≡ true → Comes 0 failed mid new → PutsOut who old new
puts_out_next who old mid new out is comes =
    inr (subst (λ (o : Option Connection). (gives_way_at who o ≡ true) × Comes 0 failed o new) (was_before who old mid out is) (is, comes))

puts_out_same : (who : EvictionRule) (old mid new : Option Connection) → PutsOut who old mid → new ≡ mid → PutsOut who old new
puts_out_same who old mid new out same = subst (λ (o : Option Connection). PutsOut who old o) (sym same) out

pub room_start : (who : EvictionRule) (s : Slab Connection) (slot : ℕ) → MakesRoom who s s slot
room_start who s slot = record {
  here = refl;
  others = λ other differs. inl refl;
  order = λ gone stays since t g k differs at still. absurd (differs refl);
}

-- one more is put out, who has waited the longest
module _ (who : EvictionRule) (old mid new : Slab Connection) (slot other since : ℕ) (made : MakesRoom who old mid slot) (apart : other ≢ slot)
    (is : gives_way_since who (get mid other) ≡ Some since)
    (longest : (k s : ℕ) → k ≢ slot → gives_way_since who (get mid k) ≡ Some s → since ≤ s) (happens : Happens 0 mid new other failed) where
  waited : gives_way_at who (get mid other) ≡ true
  waited = waits_from who (get mid other) since is

  -- who still waits is another one
  still_waits : (k s : ℕ) → gives_way_since who (get new k) ≡ Some s → k ≢ other
  still_waits k s at same =
      let not = out_waits_not who (get mid other) (get new other) waited happens.here in
      let yes = waits_from who (get new k) s at in
      let at_other : gives_way_at who (get new other) ≡ true = subst (λ (j : ℕ). gives_way_at who (get new j) ≡ true) same yes in
      absurd cc

  waits_still : (k s : ℕ) → gives_way_since who (get new k) ≡ Some s → gives_way_since who (get mid k) ≡ Some s
  waits_still k s at = ap (gives_way_since who) (sym (happens.others k (still_waits k s at))) ∙ at

  order_here : (k s t : ℕ) → k ≢ slot → gives_way_since who (get old other) ≡ Some t → gives_way_since who (get new k) ≡ Some s → t ≤ s
  order_here k s t differs at still =
      let before = ap (gives_way_since who) (was_before who (get old other) (get mid other) (made.others other apart) waited) in
      let same : t ≡ since = cc in
      let first = longest k s differs (waits_still k s still) in
      omega arith

  order_next : LongestFirst who old new slot
  order_next gone stays t s g k changed at still =
      ⊎_elim
      (λ (same : gone ≡ other). order_here stays s t k (subst (λ (j : ℕ). gives_way_since who (get old j) ≡ Some t) same at) still)
      (λ (apart_too : gone ≢ other).
      made.order gone stays t s g k (λ e. changed (happens.others gone apart_too ∙ e)) at (waits_still stays s still))
      (cases_eq gone other)

  next : MakesRoom who old new slot
  next = record {
    here = happens.others slot (λ e. apart (sym e)) ∙ made.here;
    others = λ k differs.
        ⊎_elim
        (λ (same : k ≡ other). subst (λ (j : ℕ). PutsOut who (get old j) (get new j)) (sym same)
        (puts_out_next who (get old other) (get mid other) (get new other) (made.others other apart) waited happens.here))
        (λ (apart_too : k ≢ other). puts_out_same who (get old k) (get mid k) (get new k) (made.others k differs) (happens.others k apart_too))
        (cases_eq k other);
    order = order_next;
  }

pub room_next : (who : EvictionRule) (old mid new : Slab Connection) (slot other : ℕ) → MakesRoom who old mid slot → IsLongestBesides mid (Some slot) who other
    → Happens 0 mid new other failed → MakesRoom who old new slot
room_next who old mid new slot other made is happens =
    let apart : other ≢ slot = λ same. absurd (let none = besides_same mid who slot other same in let found = is.1 in cc) in
    next who old mid new slot other is.0 made apart (sym (besides_other mid who slot other apart) ∙ is.1)
    (λ k s differs at. is.2 k s (besides_other mid who slot k differs ∙ at)) happens

-- and then the event happens
pub happens_with_room : (who : EvictionRule) (now : ℕ) (old mid new : Slab Connection) (slot : ℕ) (event : Event) → MakesRoom who old mid slot
    → Happens now mid new slot event → HappensWithRoom who now old new slot event
happens_with_room who now old mid new slot event made happens = record {
  here = subst (λ (o : Option Connection). Comes now event o (get new slot)) made.here happens.here;
  others = λ other differs. puts_out_same who (get old other) (get mid other) (get new other) (made.others other differs) (happens.others other differs);
  order = λ gone stays since s g k changed at still.
      made.order gone stays since s g k (λ e. changed (happens.others gone g ∙ e)) at
      (ap (gives_way_since who) (sym (happens.others stays k)) ∙ still);
}
