-- Keys that go to their place among the principals, and what is held of each name then.
use Rattle.std.proofs.Common.{◌≡◌, ℕ, zero, suc, ◌+◌, ◌<◌, ◌≤◌, List, [], ◌∷◌, map, length, get_or, take, Bool, true, false, ◌||◌}
use Rattle.std.proofs.Common.{if◌then◌else◌, Option, Some, None, not, is_none, unwrap_or, refl, sym, ◌∙◌, ap, subst, arith}
use Rattle.std.specs.Prelude.{IfSome, option_map, position}
use Rattle.std.specs.List.{insert, remove, list_all}
use Rattle.std.specs.List.Sorted.{IsStrictlySortedBy}
use Rattle.std.specs.Ordering.{is_eq, is_lt}
use Rattle.std.specs.declared.cmp.Ordering.{Ordering}
use Rattle.std.specs.declared.cmp.Ordering.TheVariants.{Less, Equal, Greater}
use Rattle.std.proofs.lemmas.Bool.Decides.{nat_tests}
use Rattle.std.proofs.lemmas.List.Edits.{length-insert, length-remove}
use Rattle.std.proofs.lemmas.List.Quantifiers.{position-Some}
use Rattle.chpw_rules.specs.declared.name.Name.{Name}
use Rattle.chpw_rules.specs.Names.{is_same_name, is_name, name_cmp}
use Rattle.chpw_rules.specs.Limits.{is_in, iteration_counts, principal_counts}
use Rattle.chpw_rules.specs.Fitting.{policy_fits}
use Rattle.chpw_record.specs.declared.key.KeyRow.{KeyRow}
use Rattle.chpw_table.specs.declared.table.Principal.{Principal}
use Rattle.chpw_table.specs.declared.updating.KdcUpdate.{KdcUpdate}
use Rattle.chpw_table.specs.declared.updating.KdcUpdate.TheVariants as update
use Rattle.chpw_table.specs.declared.updating.UpdateVerdict.TheVariants.{NoSuchPrincipal, NotNewer, Broken, Taken}
use Rattle.chpw_table.specs.declared.table.placing.Placement.TheVariants.{Replace, Insert, Remove}
use Rattle.chpw_record.specs.declared.record.KeyKind.TheVariants as kind
use Rattle.chpw_table.specs.State.{State, keys_held, kept_count}
use Rattle.chpw_table.specs.Updates.{keys_after, with_newest, lifted_key, key_in, has_newest, is_newer, name_in, update_fits, update_verdict}
use Rattle.chpw_table.specs.Holding.{is_count_in_range, is_holder, are_in_order, names, are_holders}
use Rattle.chpw_table.specs.Entering.{IsAt, with_keys_at}
use Rattle.chpw_table.specs.Placing.{IsPlaced}
use Rattle.chpw_table.proofs.BoolLemmas.{and_left, and_right, both}
use Rattle.chpw_table.proofs.HoldingLemmas.{AreHeld, all-take, depth_at_most, held, kept_at_least, kept_in_range}
use Rattle.chpw_table.proofs.KeyLemmas.{keys_in, same_test}
use Rattle.chpw_table.proofs.NameLemmas.{is_same_name-Decides}
use Rattle.chpw_table.proofs.OrderLemmas.{same_name_ties, sorted_order}
use Rattle.chpw_table.proofs.PlaceLemmas.{found_at_place, has_name}
use Rattle.chpw_table.proofs.RestoringLemmas.{no_keys_held}
use Rattle.chpw_table.proofs.SortingLemmas.{ordered_distinct}

-- ---- names in their order

no : (b : Bool) → b ≡ false → b ≡ true → ⊥
no b e f = cc

below_differs : (c : Ordering) → is_lt c ≡ true → is_eq c ≡ false
below_differs Less h = refl
below_differs Equal h = cc
below_differs Greater h = refl

-- a name before another is not the same
pub before_differs : (a b : Name) → is_lt (name_cmp a b) ≡ true → is_same_name a b ≡ false
before_differs a b h = same_name_ties a b ∙ below_differs (name_cmp a b) h

-- nor is it that of one of those after
behind_differs : (a : Name) (ps : List Principal) (i : ℕ) (d : Principal) (name : Name)
    → list_all (λ m. is_lt (name_cmp a m)) (names ps) ≡ true → i < length ps
    → is_same_name (get_or ps i d).name name ≡ true → is_same_name a name ≡ false
behind_differs a [] i d name h l e = absurd (omega (arith, l))
behind_differs a (p ∷ ps) zero d name h l e =
    let same : p.name ≡ name = (is_same_name-Decides p.name name).0 e in
    subst (λ (n : Name). is_same_name a n ≡ false) same (before_differs a p.name (and_left _ _ h))
behind_differs a (p ∷ ps) (suc i) d name h l e = behind_differs a ps i d name (and_right _ _ h) (omega (arith, l)) e

none_from : (a : Name) (p : Principal) (ps : List Principal) → is_lt (name_cmp a p.name) ≡ true → keys_in ps a ≡ None
    → (b : Bool) → is_same_name p.name a ≡ b → keys_in (p ∷ ps) a ≡ None
none_from a p ps h ih true e =
    let same : a ≡ p.name = sym ((is_same_name-Decides p.name a).0 e) in
    absurd (no (is_same_name a p.name) (before_differs a p.name h) ((is_same_name-Decides a p.name).1 same))
none_from a p ps h ih false e = rw e ih

-- and none of those has keys under it
none_behind : (a : Name) (ps : List Principal) → list_all (λ m. is_lt (name_cmp a m)) (names ps) ≡ true → keys_in ps a ≡ None
none_behind a [] h = refl
none_behind a (p ∷ ps) h = none_from a p ps (and_left _ _ h) (none_behind a ps (and_right _ _ h)) (is_same_name p.name a) refl

-- two names that a third one is and isn't are apart
other_name : (a n m : Name) → is_same_name a n ≡ false → is_same_name a m ≡ true → is_same_name n m ≡ false
other_name a n m e f = at (is_same_name n m) refl
  where
    at : (b : Bool) → is_same_name n m ≡ b → b ≡ false
    at false g = refl
    at true g =
        absurd (no (is_same_name a n) e ((is_same_name-Decides a n).1 ((is_same_name-Decides a m).0 f ∙ sym ((is_same_name-Decides n m).0 g))))

-- ---- at the head of the principals

-- the same is held of a name where the head stays, and is another's
head_kept : (p : Principal) (ps qs : List Principal) (name m : Name) (keys : Option (List KeyRow)) → is_same_name p.name name ≡ false
    → keys_in qs m ≡ (if is_same_name name m then keys else keys_in ps m)
    → (b : Bool) → is_same_name p.name m ≡ b → keys_in (p ∷ qs) m ≡ (if is_same_name name m then keys else keys_in (p ∷ ps) m)
head_kept p ps qs name m keys e ih true f = let g : is_same_name name m ≡ false = other_name p.name name m e f in rw (f, g) refl
head_kept p ps qs name m keys e ih false f = rw f ih

-- ---- keys instead of a principal's own

replaced_head : (p : Principal) (ps : List Principal) (name m : Name) (keys : List KeyRow) → is_same_name p.name name ≡ true
    → (b : Bool) → is_same_name p.name m ≡ b
    → keys_in (record { name = p.name; keys = keys } ∷ ps) m ≡ (if is_same_name name m then Some keys else keys_in (p ∷ ps) m)
replaced_head p ps name m keys e true f = let g : is_same_name name m ≡ true = sym (same_test p.name name m e) ∙ f in rw (f, g) refl
replaced_head p ps name m keys e false f = let g : is_same_name name m ≡ false = sym (same_test p.name name m e) ∙ f in rw (f, g) refl

keys_replaced : (ps : List Principal) (i : ℕ) (d : Principal) (name : Name) (keys : List KeyRow) (m : Name)
    → are_in_order (names ps) ≡ true → i < length ps → is_same_name (get_or ps i d).name name ≡ true
    → keys_in (with_keys_at i keys ps) m ≡ (if is_same_name name m then Some keys else keys_in ps m)
keys_replaced [] i d name keys m o l e = absurd (omega (arith, l))
keys_replaced (p ∷ ps) zero d name keys m o l e = replaced_head p ps name m keys e (is_same_name p.name m) refl
keys_replaced (p ∷ ps) (suc i) d name keys m o l e =
    head_kept p ps (with_keys_at i keys ps) name m (Some keys) (behind_differs p.name ps i d name (and_left _ _ o) (omega (arith, l)) e)
    (keys_replaced ps i d name keys m (and_right _ _ o) (omega (arith, l)) e) (is_same_name p.name m) refl

names_replaced : (i : ℕ) (keys : List KeyRow) (ps : List Principal) → names (with_keys_at i keys ps) ≡ names ps
names_replaced i keys [] = refl
names_replaced zero keys (p ∷ ps) = refl
names_replaced (suc i) keys (p ∷ ps) = ap (λ (ns : List Name). p.name ∷ ns) (names_replaced i keys ps)

length_replaced : (i : ℕ) (keys : List KeyRow) (ps : List Principal) → length (with_keys_at i keys ps) ≡ length ps
length_replaced i keys [] = refl
length_replaced zero keys (p ∷ ps) = refl
length_replaced (suc i) keys (p ∷ ps) = ap suc (length_replaced i keys ps)

holders_replaced : (i : ℕ) (keys : List KeyRow) (ps : List Principal) → AreHeld keys
    → list_all is_holder ps ≡ true → list_all is_holder (with_keys_at i keys ps) ≡ true
holders_replaced i keys [] k h = refl
holders_replaced zero keys (p ∷ ps) k h = both (both (and_left _ _ (and_left _ _ h)) (both k.0 k.1)) (and_right _ _ h)
holders_replaced (suc i) keys (p ∷ ps) k h = both (and_left _ _ h) (holders_replaced i keys ps k (and_right _ _ h))

-- ---- one more principal

first_inserted : (p : Principal) (ps : List Principal) (m : Name) (b : Bool) → is_same_name p.name m ≡ b
    → keys_in (p ∷ ps) m ≡ (if b then Some p.keys else keys_in ps m)
first_inserted p ps m true e = rw e refl
first_inserted p ps m false e = rw e refl

some_none : {A : Type 0} (x : A) (o : Option A) → o ≡ Some x → o ≡ None → ⊥
some_none x o h e = cc

-- where the head has another name, none of it is held after
head_lacks : (q : Principal) (qs : List Principal) (name : Name) → keys_in (q ∷ qs) name ≡ None
    → (b : Bool) → is_same_name q.name name ≡ b → (b ≡ false) × (keys_in qs name ≡ None)
head_lacks q qs name h true e = let found : keys_in (q ∷ qs) name ≡ Some q.keys = rw e refl in absurd (some_none q.keys (keys_in (q ∷ qs) name) found h)
head_lacks q qs name h false e = let rest : keys_in (q ∷ qs) name ≡ keys_in qs name = rw e refl in (refl, sym rest ∙ h)

keys_inserted : (ps : List Principal) (i : ℕ) (p : Principal) (m : Name) → keys_in ps p.name ≡ None
    → keys_in (insert ps i p) m ≡ (if is_same_name p.name m then Some p.keys else keys_in ps m)
keys_inserted [] zero p m h = first_inserted p [] m (is_same_name p.name m) refl
keys_inserted [] (suc i) p m h = first_inserted p [] m (is_same_name p.name m) refl
keys_inserted (q ∷ qs) zero p m h = first_inserted p (q ∷ qs) m (is_same_name p.name m) refl
keys_inserted (q ∷ qs) (suc i) p m h =
    let lacks = head_lacks q qs p.name h (is_same_name q.name p.name) refl in
    head_kept q qs (insert qs i p) p.name m (Some p.keys) lacks.0 (keys_inserted qs i p m lacks.1) (is_same_name q.name m) refl

names_inserted : (ps : List Principal) (i : ℕ) (p : Principal) → names (insert ps i p) ≡ insert (names ps) i p.name
names_inserted [] zero p = refl
names_inserted [] (suc i) p = refl
names_inserted (q ∷ qs) zero p = refl
names_inserted (q ∷ qs) (suc i) p = ap (λ (ns : List Name). q.name ∷ ns) (names_inserted qs i p)

holders_inserted : (ps : List Principal) (i : ℕ) (p : Principal) → is_holder p ≡ true
    → list_all is_holder ps ≡ true → list_all is_holder (insert ps i p) ≡ true
holders_inserted [] zero p k h = both k refl
holders_inserted [] (suc i) p k h = both k refl
holders_inserted (q ∷ qs) zero p k h = both k h
holders_inserted (q ∷ qs) (suc i) p k h = both (and_left _ _ h) (holders_inserted qs i p k (and_right _ _ h))

-- ---- one principal less

removed_head : (p : Principal) (ps : List Principal) (name m : Name) → is_same_name p.name name ≡ true
    → list_all (λ n. is_lt (name_cmp p.name n)) (names ps) ≡ true
    → (b : Bool) → is_same_name p.name m ≡ b → keys_in ps m ≡ (if is_same_name name m then None else keys_in (p ∷ ps) m)
removed_head p ps name m e h true f =
    let g : is_same_name name m ≡ true = sym (same_test p.name name m e) ∙ f in
    let none : keys_in ps m ≡ None = subst (λ (n : Name). keys_in ps n ≡ None) ((is_same_name-Decides p.name m).0 f) (none_behind p.name ps h) in
    rw g none
removed_head p ps name m e h false f = let g : is_same_name name m ≡ false = sym (same_test p.name name m e) ∙ f in rw (f, g) refl

keys_removed : (ps : List Principal) (i : ℕ) (d : Principal) (name m : Name)
    → are_in_order (names ps) ≡ true → i < length ps → is_same_name (get_or ps i d).name name ≡ true
    → keys_in (remove ps i) m ≡ (if is_same_name name m then None else keys_in ps m)
keys_removed [] i d name m o l e = absurd (omega (arith, l))
keys_removed (p ∷ ps) zero d name m o l e = removed_head p ps name m e (and_left _ _ o) (is_same_name p.name m) refl
keys_removed (p ∷ ps) (suc i) d name m o l e =
    head_kept p ps (remove ps i) name m None (behind_differs p.name ps i d name (and_left _ _ o) (omega (arith, l)) e)
    (keys_removed ps i d name m (and_right _ _ o) (omega (arith, l)) e) (is_same_name p.name m) refl

all_removed : {A : Type 0} (t : A → Bool) (f : Principal → A) (ps : List Principal) (i : ℕ)
    → list_all t (map f ps) ≡ true → list_all t (map f (remove ps i)) ≡ true
all_removed t f [] zero h = refl
all_removed t f [] (suc i) h = refl
all_removed t f (p ∷ ps) zero h = and_right _ _ h
all_removed t f (p ∷ ps) (suc i) h = both (and_left _ _ h) (all_removed t f ps i (and_right _ _ h))

holders_removed : (ps : List Principal) (i : ℕ) → list_all is_holder ps ≡ true → list_all is_holder (remove ps i) ≡ true
holders_removed [] zero h = refl
holders_removed [] (suc i) h = refl
holders_removed (p ∷ ps) zero h = and_right _ _ h
holders_removed (p ∷ ps) (suc i) h = both (and_left _ _ h) (holders_removed ps i (and_right _ _ h))

order_removed : (ps : List Principal) (i : ℕ) → are_in_order (names ps) ≡ true → are_in_order (names (remove ps i)) ≡ true
order_removed [] zero h = refl
order_removed [] (suc i) h = refl
order_removed (p ∷ ps) zero h = and_right _ _ h
order_removed (p ∷ ps) (suc i) h =
    both (all_removed (λ m. is_lt (name_cmp p.name m)) (λ (q : Principal). q.name) ps i (and_left _ _ h)) (order_removed ps i (and_right _ _ h))

-- ---- principals as a table has them

few : (n : ℕ) → n ≤ 10000 → is_in principal_counts n ≡ true
few n h = grind (arith, nat_tests)

few_back : (n : ℕ) → is_in principal_counts n ≡ true → n ≤ 10000
few_back n h = grind (arith, nat_tests)

are_held : (ps : List Principal) → list_all is_holder ps ≡ true → are_in_order (names ps) ≡ true → length ps ≤ 10000 → are_holders ps ≡ true
are_held ps h o l = both (both h (ordered_distinct ps o)) (both o (few (length ps) l))

abbrev AreHolders : List Principal → Type 0
AreHolders ps = are_holders ps ≡ true

all_of : (ps : List Principal) → AreHolders ps → list_all is_holder ps ≡ true
all_of ps h = and_left _ _ (and_left _ _ h)

order_of : (ps : List Principal) → AreHolders ps → are_in_order (names ps) ≡ true
order_of ps h = and_left _ _ (and_right _ _ h)

pub few_of : (ps : List Principal) → AreHolders ps → length ps ≤ 10000
few_of ps h = few_back (length ps) (and_right _ _ (and_right _ _ h))

-- keys in place of those at the place of a name
pub is_replaced : (s : State) (name : Name) (i : ℕ) (d : Principal) (keys : List KeyRow) → are_holders s.principals ≡ true
    → i < length s.principals → is_same_name (get_or s.principals i d).name name ≡ true → AreHeld keys
    → IsPlaced s name (Some keys) (Replace i keys)
is_replaced s name i d keys h l e k =
    let ps : List Principal = s.principals in
    record {
      place = l;
      holders = are_held (with_keys_at i keys ps) (holders_replaced i keys ps k (all_of ps h))
          (ap are_in_order (names_replaced i keys ps) ∙ order_of ps h)
          (subst (λ (n : ℕ). n ≤ 10000) (sym (length_replaced i keys ps)) (few_of ps h));
      keys_then = λ m. keys_replaced ps i d name keys m (order_of ps h) l e;
    }

one_more : (n : ℕ) → n < 10000 → n + 1 ≤ 10000
one_more n h = omega (arith, h)

one_less : (m n : ℕ) → m + 1 ≡ n → n ≤ 10000 → m ≤ 10000
one_less m n e h = omega (arith, e, h)

-- a principal that joins the others
pub is_inserted : (s : State) (p : Principal) (i : ℕ) → are_holders s.principals ≡ true → is_name p.name ≡ true → AreHeld p.keys
    → keys_held s p.name ≡ None → i ≤ length s.principals → length s.principals < 10000
    → IsStrictlySortedBy name_cmp (insert (map (λ (q : Principal). q.name) s.principals) i p.name)
    → IsPlaced s p.name (Some p.keys) (Insert i p)
is_inserted s p i h f k none l few o =
    let ps : List Principal = s.principals in
    record {
      place = (l, few);
      holders = are_held (insert ps i p) (holders_inserted ps i p (both f (both k.0 k.1)) (all_of ps h))
          (ap are_in_order (names_inserted ps i p) ∙ sorted_order (insert (names ps) i p.name) o)
          (subst (λ (n : ℕ). n ≤ 10000) (sym (length-insert ps i p l)) (one_more (length ps) few));
      keys_then = λ m. keys_inserted ps i p m none;
    }

-- the principal of a name that leaves
pub is_removed : (s : State) (name : Name) (i : ℕ) (d : Principal) → are_holders s.principals ≡ true
    → i < length s.principals → is_same_name (get_or s.principals i d).name name ≡ true → IsPlaced s name None (Remove i)
is_removed s name i d h l e =
    let ps : List Principal = s.principals in
    record {
      place = l;
      holders = are_held (remove ps i) (holders_removed ps i (all_of ps h)) (order_removed ps i (order_of ps h))
          (one_less (length (remove ps i)) (length ps) (length-remove ps i l) (few_of ps h));
      keys_then = λ m. keys_removed ps i d name m (order_of ps h) l e;
    }

-- ---- the keys that go there

-- a key before others of which the newest are kept
pub front_held : (s : State) (key : KeyRow) (older : List KeyRow) → policy_fits s.fixed.policy ≡ true → is_count_in_range key ≡ true
    → list_all is_count_in_range older ≡ true → AreHeld (take (kept_count s) (key ∷ older))
front_held s key older p k h = (
  kept_in_range (kept_count s) (key ∷ older) (kept_at_least s.fixed.policy.depth) (depth_at_most s.fixed.policy p) (omega arith),
  all-take is_count_in_range (kept_count s) (key ∷ older) (both k h),
)

-- a key instead of the newest
newest_held : (key : KeyRow) (keys : List KeyRow) → is_count_in_range key ≡ true → AreHeld keys → AreHeld (with_newest key keys)
newest_held key [] k h = h
newest_held key (x ∷ xs) k h = (h.0, both k (and_right _ _ h.1))

-- the keys of a name
pub held_of : (s : State) (name : Name) (keys : List KeyRow) → are_holders s.principals ≡ true → keys_held s name ≡ Some keys → AreHeld keys
held_of s name keys h e = subst (λ (x : Option (List KeyRow)). IfSome x AreHeld) e (held s name h)

-- ---- where they go

-- a key adopted for a name that is held
pub adopted_place : (s : State) (name : Name) (key : KeyRow) (i : ℕ) (p : Principal) (keys : List KeyRow)
    → are_holders s.principals ≡ true → policy_fits s.fixed.policy ≡ true → is_in iteration_counts key.count ≡ true → IsAt s name i p
    → keys ≡ take (kept_count s) (key ∷ p.keys)
    → IsPlaced s name (keys_after kind.Adopt (kept_count s) key (keys_held s name)) (Replace i keys)
adopted_place s name key i p keys h f c a e =
    let are : AreHeld p.keys = held_of s name p.keys h a.held in
    subst (λ (x : Option (List KeyRow)). IsPlaced s name x (Replace i keys))
    (ap Some e ∙ sym (ap (keys_after kind.Adopt (kept_count s) key) a.held))
    (is_replaced s name i p keys h a.within a.named (subst AreHeld (sym e) (front_held s key p.keys f c are.1)))

-- and for one that isn't
pub joining_place : (s : State) (name : Name) (key : KeyRow) (i : ℕ) (keys : List KeyRow) (p : Principal)
    → are_holders s.principals ≡ true → policy_fits s.fixed.policy ≡ true
    → is_in iteration_counts key.count ≡ true → is_name name ≡ true → keys_held s name ≡ None
    → i ≤ length s.principals → length s.principals < 10000
    → IsStrictlySortedBy name_cmp (insert (map (λ (q : Principal). q.name) s.principals) i name)
    → p ≡ record { name = name; keys = keys } → keys ≡ take (kept_count s) (key ∷ [])
    → IsPlaced s name (keys_after kind.Adopt (kept_count s) key (keys_held s name)) (Insert i p)
joining_place s name key i keys p h f c n none l few o q e =
    subst (λ (x : Option (List KeyRow)). IsPlaced s name x (Insert i p))
    (ap Some e ∙ sym (ap (keys_after kind.Adopt (kept_count s) key) none))
    (subst (λ (x : Principal). IsPlaced s name (Some keys) (Insert i x)) (sym q)
    (is_inserted s (record { name = name; keys = keys }) i h n (subst AreHeld (sym e) (front_held s key [] f c refl)) none l few o))

-- a key lifted
pub lifted_place : (s : State) (name : Name) (key : KeyRow) (i : ℕ) (p : Principal) (keys : List KeyRow)
    → are_holders s.principals ≡ true → is_in iteration_counts key.count ≡ true → IsAt s name i p → keys ≡ with_newest key p.keys
    → IsPlaced s name (keys_after kind.Lift (kept_count s) key (keys_held s name)) (Replace i keys)
lifted_place s name key i p keys h c a e =
    subst (λ (x : Option (List KeyRow)). IsPlaced s name x (Replace i keys))
    (ap Some e ∙ sym (ap (keys_after kind.Lift (kept_count s) key) a.held))
    (is_replaced s name i p keys h a.within a.named (subst AreHeld (sym e) (newest_held key p.keys c (held_of s name p.keys h a.held))))

-- a name that leaves
pub removed_place : (s : State) (name : Name) (i : ℕ) (p : Principal) → are_holders s.principals ≡ true → IsAt s name i p
    → IsPlaced s name None (Remove i)
removed_place s name i p h a = is_removed s name i p h a.within a.named

-- a name without keys has no place
pub no_place : (s : State) (name : Name) → are_holders s.principals ≡ true → keys_held s name ≡ None → position (has_name name) s.principals ≡ None
no_place s name h none = at (position (has_name name) s.principals) refl
  where
    d : Principal
    d = record { name = name; keys = [] }

    at : (found : Option ℕ) → position (has_name name) s.principals ≡ found → found ≡ None
    at None e = refl
    at (Some i) e =
        let placed = position-Some (has_name name) s.principals i d e in
        let found : keys_held s name ≡ Some (get_or s.principals i d).keys =
        ap (option_map (λ (q : Principal). q.keys)) (found_at_place name s.principals i d (and_right _ _ (and_left _ _ h)) placed.0 placed.1) in
        absurd (some_none (get_or s.principals i d).keys (keys_held s name) found none)

pub no_keys_at : (s : State) (name : Name) → is_none (keys_held s name) ≡ true → keys_held s name ≡ None
no_keys_at s name h = no_keys_held (keys_held s name) h

-- ---- what is planned of an update

-- the newest of a name's keys, under another version
lifted_counts : (kvno : ℕ) (keys : List KeyRow) → AreHeld keys → is_in iteration_counts (lifted_key kvno keys).count ≡ true
lifted_counts kvno [] h = refl
lifted_counts kvno (k ∷ ks) h = and_left _ _ h.1

lifted_from : (kvno : ℕ) (held : Option (List KeyRow)) → IfSome held AreHeld → is_in iteration_counts (lifted_key kvno (unwrap_or held [])).count ≡ true
lifted_from kvno None h = refl
lifted_from kvno (Some keys) h = lifted_counts kvno keys h

pub lifted_count : (s : State) (name : Name) (kvno : ℕ) (key : KeyRow) → are_holders s.principals ≡ true
    → key ≡ key_in (keys_held s name) (update.Lift name kvno) → is_in iteration_counts key.count ≡ true
lifted_count s name kvno key h e = rw e (lifted_from kvno (keys_held s name) (held s name h))

-- a name that is held is one
name_at : (name : Name) (p : Principal) (ps : List Principal) → is_holder p ≡ true → (is_none (keys_in ps name) ≡ false → is_name name ≡ true)
    → (b : Bool) → is_same_name p.name name ≡ b → is_none (keys_in (p ∷ ps) name) ≡ false → is_name name ≡ true
name_at name p ps h ih true e k = subst (λ (n : Name). is_name n ≡ true) ((is_same_name-Decides p.name name).0 e) (and_left _ _ h)
name_at name p ps h ih false e k = let rest : keys_in (p ∷ ps) name ≡ keys_in ps name = rw e refl in ih (sym (ap is_none rest) ∙ k)

name_from : (name : Name) (ps : List Principal) → list_all is_holder ps ≡ true → is_none (keys_in ps name) ≡ false → is_name name ≡ true
name_from name [] h k = cc
name_from name (p ∷ ps) h k = name_at name p ps (and_left _ _ h) (name_from name ps (and_right _ _ h)) (is_same_name p.name name) refl k

lift_known : (a b c : Bool) → (if not a then NoSuchPrincipal else if b then NotNewer else if c then Broken else Taken) ≡ Taken → a ≡ true
lift_known true b c h = refl
lift_known false b c h = cc

remove_known : (a c : Bool) → (if a then NoSuchPrincipal else if c then Broken else Taken) ≡ Taken → a ≡ false
remove_known true c h = cc
remove_known false c h = refl

newest_there : (held : Option (List KeyRow)) → has_newest held ≡ true → is_none held ≡ false
newest_there None h = cc
newest_there (Some keys) h = refl

-- the name of an update that is taken
pub taken_name : (s : State) (u : KdcUpdate) → are_holders s.principals ≡ true → update_fits u ≡ true → update_verdict s u false ≡ Taken →
    is_name (name_in u) ≡ true
taken_name s (update.Adopt name key) h f v = and_left _ _ f
taken_name s (update.Lift name kvno) h f v =
    name_from name s.principals (all_of s.principals h) (newest_there (keys_held s name)
    (lift_known (has_newest (keys_held s name)) (not (is_newer kvno (keys_held s name))) (s.broken || false) v))
taken_name s (update.Remove name) h f v =
    name_from name s.principals (all_of s.principals h) (remove_known (is_none (keys_held s name)) (s.broken || false) v)
