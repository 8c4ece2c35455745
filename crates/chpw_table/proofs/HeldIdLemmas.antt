-- The ids that a table holds: in order, none too old to be judged.
use Rattle.std.proofs.Common.{◌≡◌, ℕ, suc, ◌+◌, ◌<◌, ◌≤◌, List, [], ◌∷◌, ◌++◌, length, Bool, true, false, not}
use Rattle.std.proofs.Common.{◌&&◌, ◌||◌, if◌then◌else◌, Option, Some, None, refl, sym, ◌∙◌, ap, subst, arith}
use Rattle.std.specs.Prelude.{ℤ, ◌≤ℤ◌, ◌<ℤ◌, IfNone}
use Rattle.std.specs.List.{AllByRecursion, list_any, IsDistinct}
use Rattle.std.specs.List.Sorted.{IsStrictlySortedBy}
use Rattle.std.specs.Option.{option_to_list}
use Rattle.std.specs.declared.cmp.Ordering.{Ordering}
use Rattle.std.specs.declared.cmp.Ordering.TheVariants.{Less, Equal, Greater}
use Rattle.std.specs.Ordering.{MatchOrdering, eq_by_cmp, int_cmp, ordering_then, is_eq}
use Rattle.std.proofs.lemmas.Int.{ints}
use Rattle.std.proofs.lemmas.Cmp.{int_ranked}
use Rattle.std.proofs.lemmas.List.Kept.{IsStrictlySortedBy-filter}
use Rattle.std.proofs.lemmas.Map.Keys.{IsDistinct-from_sorted}
use Rattle.std.proofs.lemmas.Map.Views.{any-filter_same}
use Rattle.chpw_ordered_keys.specs.Trees.{with_first}
use Rattle.chpw_ordered_keys.proofs.OrderLemmas.{sorted_first, first_length, any_insert}
use Rattle.chpw_table.specs.declared.times.Moment.{Moment}
use Rattle.chpw_table.specs.declared.request.Opened.{Opened}
use Rattle.chpw_table.specs.declared.request.RequestId.{RequestId}
use Rattle.chpw_table.specs.declared.verdict.Verdict.{Verdict}
use Rattle.chpw_table.specs.declared.raising.RaiseVerdict.{RaiseVerdict}
use Rattle.chpw_table.specs.Requests.{id_of, is_same_id}
use Rattle.chpw_table.specs.State.{State, is_used}
use Rattle.chpw_table.specs.Times.{is_later, clock_at}
use Rattle.chpw_table.specs.Verdicts.{adds_id}
use Rattle.chpw_table.specs.Step.{after}
use Rattle.chpw_table.specs.Raising.{after_raise}
use Rattle.chpw_table.specs.Agreement.{Agrees}
use Rattle.chpw_table.specs.Holding.{id_cmp, young_ids, is_first_old}
use Rattle.chpw_table.specs.Entering.{held_after, held_state, held_raise}
use Rattle.chpw_table.proofs.NameLemmas.{is_same_id-Decides}
use Rattle.chpw_table.proofs.StepLemmas.{used_more}
use Rattle.chpw_table.proofs.AgreementLemmas.{used_swept}
use Rattle.chpw_table.proofs.OrderLemmas.{ids_total, same_id_ties}

-- ---- in order

pub sorted_held : (clock : ℤ) (used ids : List RequestId) → IsStrictlySortedBy id_cmp used → IsStrictlySortedBy id_cmp (held_after clock used ids)
sorted_held clock used ids s = IsStrictlySortedBy-filter id_cmp (λ (y : RequestId). not (is_later clock y.ctime))
    (with_first id_cmp used ids) (sorted_first id_cmp ids_total used ids s)

-- ---- how many

young_few : (clock : ℤ) (ids : List RequestId) → length (young_ids clock ids) ≤ length ids
young_few clock [] = omega arith
young_few clock (x ∷ xs) = at (not (is_later clock x.ctime)) (young_few clock xs)
  where
    at : (b : Bool) → length (young_ids clock xs) ≤ length xs → length (if b then x ∷ young_ids clock xs else young_ids clock xs) ≤ length (x ∷ xs)
    at true h = omega (arith, h)
    at false h = omega (arith, h)

pub held_few : (clock : ℤ) (used ids : List RequestId) (n : ℕ) → length used ≤ n → length (held_after clock used ids) ≤ n + 1
held_few clock used ids n h = omega (arith, young_few clock (with_first id_cmp used ids), first_length id_cmp ids_total used ids, h)

-- beside those that were carried on
pub held_beside : (clock : ℤ) (used ids : List RequestId) (n carried : ℕ) → length used ≤ n + carried → length (held_after clock used ids) ≤ n + 1 + carried
held_beside clock used ids n carried h = omega (arith, held_few clock used ids (n + carried) h)

-- ---- none too old

young_again : (clock : ℤ) (ids : List RequestId) → young_ids clock (young_ids clock ids) ≡ young_ids clock ids
young_again clock [] = refl
young_again clock (x ∷ xs) = at (not (is_later clock x.ctime)) refl (young_again clock xs)
  where
    at : (b : Bool) → not (is_later clock x.ctime) ≡ b → young_ids clock (young_ids clock xs) ≡ young_ids clock xs
        → young_ids clock (if b then x ∷ young_ids clock xs else young_ids clock xs) ≡ (if b then x ∷ young_ids clock xs else young_ids clock xs)
    at true e h = rw e (ap (λ ys. x ∷ ys) h)
    at false e h = h

pub held_young : (clock : ℤ) (used ids : List RequestId) → young_ids clock (held_after clock used ids) ≡ held_after clock used ids
held_young clock used ids = young_again clock (with_first id_cmp used ids)

later_first : (r s : Ordering) → ordering_then r s ≡ Less → r ≡ Greater → ⊥
later_first Less s h e = cc
later_first Equal s h e = cc
later_first Greater s h e = cc

no_older : (clock x y : ℤ) → x ≤ℤ y → is_later clock x ≡ false → is_later clock y ≡ false
no_older clock x y h e = grind (arith, ints)

-- an id after another is no older
after_young : (clock : ℤ) (x y : RequestId) → id_cmp x y ≡ Less → is_later clock x.ctime ≡ false → is_later clock y.ctime ≡ false
after_young clock x y h e = at (int_cmp x.ctime y.ctime) refl (int_ranked x.ctime y.ctime (int_cmp x.ctime y.ctime) refl)
  where
    at : (c : Ordering) → int_cmp x.ctime y.ctime ≡ c
        → MatchOrdering c (x.ctime <ℤ y.ctime) (x.ctime ≡ y.ctime) (y.ctime <ℤ x.ctime) → is_later clock y.ctime ≡ false
    at Less f r = no_older clock x.ctime y.ctime (grind (arith, ints)) e
    at Equal f r = ap (λ (t : ℤ). is_later clock t) (sym r) ∙ e
    at Greater f r = absurd (later_first (int_cmp x.ctime y.ctime) _ h f)

all_young : (clock : ℤ) (xs : List RequestId) → AllByRecursion (λ (y : RequestId). is_later clock y.ctime ≡ false) xs → young_ids clock xs ≡ xs
all_young clock [] a = refl
all_young clock (x ∷ xs) a = ap (λ b. if not b then x ∷ young_ids clock xs else young_ids clock xs) a.0 ∙ ap (λ ys. x ∷ ys) (all_young clock xs a.1)

each_young : (clock : ℤ) (x : RequestId) (ys : List RequestId)
    → is_later clock x.ctime ≡ false → AllByRecursion (λ (y : RequestId). id_cmp x y ≡ Less) ys
    → AllByRecursion (λ (y : RequestId). is_later clock y.ctime ≡ false) ys
each_young clock x [] e a = tt
each_young clock x (y ∷ ys) e a = (after_young clock x y a.0 e, each_young clock x ys e a.1)

-- where the first is not too old, none is
pub rest_young : (clock : ℤ) (ids : List RequestId) → IsStrictlySortedBy id_cmp ids → is_first_old clock ids ≡ false → young_ids clock ids ≡ ids
unfolding IsStrictlySortedBy
rest_young clock [] s h = refl
rest_young clock (x ∷ xs) s h = all_young clock (x ∷ xs) (h, each_young clock x xs h s.0)

-- the first, where it is too old, is taken out
pub record Dropped (clock : ℤ) (used rest : List RequestId) : Type 0 where
  pub young : young_ids clock rest ≡ young_ids clock used
  pub sorted : IsStrictlySortedBy id_cmp rest
  pub fewer : length rest < length used

pub dropped : (clock : ℤ) (used rest : List RequestId) (r : Option RequestId) → used ≡ option_to_list r ++ rest
    → IfNone r (used ≡ []) → is_first_old clock used ≡ true → IsStrictlySortedBy id_cmp used → Dropped clock used rest
unfolding IsStrictlySortedBy
dropped clock used rest None e n h s = absurd (no (is_first_old clock used) (ap (is_first_old clock) n) h)
  where
    no : (b : Bool) → b ≡ false → b ≡ true → ⊥
    no b u v = cc
dropped clock used rest (Some x) e n h s =
    let old : is_later clock x.ctime ≡ true = sym (ap (is_first_old clock) e) ∙ h in
    let whole : IsStrictlySortedBy id_cmp (x ∷ rest) = subst (IsStrictlySortedBy id_cmp) e s in
    record {
      young = sym (ap (young_ids clock) e ∙ ap (λ b. if not b then x ∷ young_ids clock rest else young_ids clock rest) old);
      sorted = whole.1;
      fewer = (let n : length used ≡ suc (length rest) = ap length e in omega (arith, n));
    }

-- ---- agreement

same_alike : (id x y : RequestId) → id_cmp x y ≡ Equal → is_same_id x id ≡ is_same_id y id
same_alike id x y h =
    let same : x ≡ y = (is_same_id-Decides x y).0 (same_id_ties x y ∙ ap is_eq h) in
    ap (λ (z : RequestId). is_same_id z id) same

or_turned : (a b : Bool) → (a || b) ≡ (b || a)
or_turned true true = refl
or_turned true false = refl
or_turned false true = refl
or_turned false false = refl

-- whether an id is among those used and one more
pub first_used : (b : Bool) (q id : RequestId) (used : List RequestId)
    → list_any (λ (y : RequestId). is_same_id y id) (with_first id_cmp used (if b then q ∷ [] else []))
    ≡ list_any (λ (y : RequestId). is_same_id y id) (if b then used ++ q ∷ [] else used)
first_used true q id used =
    any_insert id_cmp ids_total (λ (y : RequestId). is_same_id y id) q (same_alike id q) used
    ∙ (or_turned (is_same_id q id) (list_any (λ (y : RequestId). is_same_id y id) used) ∙ sym (used_more used q id))
first_used false q id used = refl

-- what a table holds after an event agrees with the machine's state
pub held_agrees : (v : Verdict) (s : State) (now : Moment) (o : Opened) (io : Bool) → Agrees (held_state v s now o io) (after v s now o io)
held_agrees v s now o io = record {
  fixed = refl;
  principals = λ name. refl;
  clock = refl;
  broken = refl;
  count = refl;
  ids = λ id h. used_swept (clock_at s now) (with_first id_cmp s.used (if adds_id v then id_of o ∷ [] else [])) id h
      ∙ first_used (adds_id v) (id_of o) id s.used;
}

-- and so after a raise
pub held_raise_agrees : (v : RaiseVerdict) (s : State) (now : Moment) (count : ℕ) (io : Bool)
    → Agrees (held_raise v s now count io) (after_raise v s now count io)
held_raise_agrees v s now count io = record {
  fixed = refl;
  principals = λ name. refl;
  clock = refl;
  broken = refl;
  count = refl;
  ids = λ id h. used_swept (clock_at s now) s.used id h;
}

young_same : (clock : ℤ) (id x : RequestId) → is_same_id x id ≡ true → not (is_later clock x.ctime) ≡ not (is_later clock id.ctime)
young_same clock id x h = ap (λ (y : RequestId). not (is_later clock y.ctime)) ((is_same_id-Decides x id).0 h)

young_used : (clock : ℤ) (used : List RequestId) (id : RequestId) → young_ids clock used ≡ used
    → list_any (λ (y : RequestId). is_same_id y id) used ≡ (not (is_later clock id.ctime) && list_any (λ (y : RequestId). is_same_id y id) used)
young_used clock used id e =
    ap (list_any (λ (y : RequestId). is_same_id y id)) (sym e)
    ∙ any-filter_same (λ (y : RequestId). is_same_id y id)
    (λ (y : RequestId). not (is_later clock y.ctime)) (not (is_later clock id.ctime)) (young_same clock id) used

-- the ids held are the used ones that are not too old
pub held_ids : (t s : State) → Agrees t s → young_ids t.clock t.used ≡ t.used
    → (id : RequestId) → is_used t id ≡ (is_used s id && not (is_later s.clock id.ctime))
held_ids t s a e id = young_used t.clock t.used id e ∙ (ap (λ (c : ℤ). not (is_later c id.ctime) && is_used t id) a.clock ∙ at (is_later s.clock id.ctime) refl)
  where
    at : (b : Bool) → is_later s.clock id.ctime ≡ b → (not b && is_used t id) ≡ (is_used s id && not b)
    at true f = none (is_used s id)
      where
        none : (c : Bool) → false ≡ (c && false)
        none true = refl
        none false = refl
    at false f = a.ids id f ∙ all (is_used s id)
      where
        all : (c : Bool) → c ≡ (c && true)
        all true = refl
        all false = refl

distinct_alike : (xs : List RequestId) → IsDistinct (eq_by_cmp id_cmp) xs → IsDistinct is_same_id xs
unfolding IsDistinct
distinct_alike [] d = tt
distinct_alike (x ∷ xs) d = (each x xs d.0, distinct_alike xs d.1)
  where
    each : (x : RequestId) (ys : List RequestId) → AllByRecursion (λ (y : RequestId). eq_by_cmp id_cmp x y ≡ false) ys
        → AllByRecursion (λ (y : RequestId). is_same_id x y ≡ false) ys
    each x [] a = tt
    each x (y ∷ ys) a = (same_id_ties x y ∙ a.0, each x ys a.1)

-- each of them once
pub held_once : (used : List RequestId) → IsStrictlySortedBy id_cmp used → IsDistinct is_same_id used
held_once used s = distinct_alike used (IsDistinct-from_sorted id_cmp used s)

-- at the start there are none
pub none_held : (clock : ℤ) (ids : List RequestId) → ids ≡ [] → (length ids ≤ 0) × IsStrictlySortedBy id_cmp ids × (young_ids clock ids ≡ ids)
unfolding IsStrictlySortedBy
none_held clock ids e = subst (λ (xs : List RequestId). (length xs ≤ 0)
    × IsStrictlySortedBy id_cmp xs × (young_ids clock xs ≡ xs)) (sym e) (omega arith, tt, refl)
