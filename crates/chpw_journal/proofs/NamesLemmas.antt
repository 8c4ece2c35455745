-- The names that a compact journal is made over: each stands once, and all that the two states hold are among them.
use Rattle.std.proofs.Common.{◌≡◌, List, [], ◌∷◌, ◌++◌, map, filter, Bool, true, false, not, ◌&&◌, ◌||◌}
use Rattle.std.proofs.Common.{Option, Some, None, is_none, refl, sym, ◌∙◌, ap}
use Rattle.std.specs.List.{AllByRecursion}
use Rattle.std.specs.List.Sorted.{IsStrictlySortedBy}
use Rattle.std.specs.declared.cmp.Ordering.TheVariants.{Less}
use Rattle.std.specs.Ordering.{is_eq}
use Rattle.std.proofs.lemmas.List.Kept.{IsStrictlySortedBy-filter}
use Rattle.chpw_rules.specs.declared.name.Name.{Name}
use Rattle.chpw_rules.specs.Names.{is_same_name, name_cmp}
use Rattle.chpw_record.specs.declared.key.KeyRow.{KeyRow}
use Rattle.chpw_table.specs.declared.table.Principal.{Principal}
use Rattle.chpw_table.specs.State.{State, keys_held}
use Rattle.chpw_table.proofs.KeyLemmas.{keys_in}
use Rattle.chpw_table.proofs.NameLemmas.{is_same_name-Decides}
use Rattle.chpw_table.proofs.OrderLemmas.{same_name_ties, same_name_turned}
use Rattle.chpw_journal.specs.Compact.{names_of, lacks_name, joined_names, HasOrder}

-- the name is among these
abbrev pub is_among : Name → List Name → Bool
is_among name [] = false
is_among name (n ∷ ns) = is_same_name n name || is_among name ns

-- no name is there twice
abbrev pub AreOnce : List Name → Type 0
AreOnce [] = Unit {0}
AreOnce (n ∷ ns) = (is_among n ns ≡ false) × AreOnce ns

among_joined : (name : Name) (xs ys : List Name) → is_among name (xs ++ ys) ≡ (is_among name xs || is_among name ys)
among_joined name [] ys = refl
among_joined name (x ∷ xs) ys = at (among_joined name xs ys) (is_same_name x name)
  where
    at : is_among name (xs ++ ys) ≡ (is_among name xs || is_among name ys)
        → (b : Bool) → (b || is_among name (xs ++ ys)) ≡ ((b || is_among name xs) || is_among name ys)
    at ih true = refl
    at ih false = ih

pub among_principals : (ps : List Principal) (name : Name) → is_among name (map (λ (p : Principal). p.name) ps) ≡ not (is_none (keys_in ps name))
among_principals [] name = refl
among_principals (p ∷ ps) name = at (is_same_name p.name name) refl (among_principals ps name)
  where
    at : (b : Bool) → is_same_name p.name name ≡ b → is_among name (map (λ (p : Principal). p.name) ps) ≡ not (is_none (keys_in ps name))
        → is_among name (map (λ (p : Principal). p.name) (p ∷ ps)) ≡ not (is_none (keys_in (p ∷ ps) name))
    at true e ih = rw e refl
    at false e ih = rw e ih

among_filtered : (s : State) (names : List Name) (name : Name) → is_among name (filter (lacks_name s) names) ≡ (lacks_name s name && is_among name names)
among_filtered s [] name = none (lacks_name s name)
  where
    none : (b : Bool) → false ≡ (b && false)
    none true = refl
    none false = refl
among_filtered s (n ∷ ns) name = at (is_same_name n name) refl (lacks_name s n) refl (among_filtered s ns name)
  where
    at : (b : Bool) → is_same_name n name ≡ b → (c : Bool) → lacks_name s n ≡ c
        → is_among name (filter (lacks_name s) ns) ≡ (lacks_name s name && is_among name ns)
        → is_among name (filter (lacks_name s) (n ∷ ns)) ≡ (lacks_name s name && is_among name (n ∷ ns))
    at true e true f ih =
        let here : lacks_name s name ≡ true = ap (lacks_name s) (sym ((is_same_name-Decides n name).0 e)) ∙ f in
        rw (f, e, here) refl
    at true e false f ih =
        let here : lacks_name s name ≡ false = ap (lacks_name s) (sym ((is_same_name-Decides n name).0 e)) ∙ f in
        rw f (ih ∙ rw here refl)
    at false e true f ih = rw (f, e) ih
    at false e false f ih = rw (f, e) ih

-- ---- once

-- a name after another is not the same
later_differs : (n m : Name) → name_cmp n m ≡ Less → is_same_name m n ≡ false
later_differs n m h = same_name_turned m n ∙ (same_name_ties n m ∙ ap is_eq h)

none_later : (n : Name) (ms : List Name) → AllByRecursion (λ m. name_cmp n m ≡ Less) ms → is_among n ms ≡ false
none_later n [] h = refl
none_later n (m ∷ ms) h = rw (later_differs n m h.0) (none_later n ms h.1)

sorted_once : (ns : List Name) → IsStrictlySortedBy name_cmp ns → AreOnce ns
unfolding IsStrictlySortedBy
sorted_once [] h = tt
sorted_once (n ∷ ns) h = (none_later n ns h.0, sorted_once ns h.1)

once_joined : (xs ys : List Name) → AreOnce xs → AreOnce ys → ((name : Name) → is_among name xs ≡ true → is_among name ys ≡ false) → AreOnce (xs ++ ys)
once_joined [] ys h g apart = g
once_joined (x ∷ xs) ys h g apart = (
  among_joined x xs ys ∙ rw (h.0, apart x (among_itself x)) refl,
  once_joined xs ys h.1 g (λ name e. apart name (later (is_same_name x name) e)),
)
  where
    later : {c : Bool} (b : Bool) → c ≡ true → (b || c) ≡ true
    later true e = refl
    later false e = e

    among_itself : (n : Name) → (is_same_name n n || is_among n xs) ≡ true
    among_itself n = let same : is_same_name n n ≡ true = (is_same_name-Decides n n).1 refl in rw same refl

none_both : (a b c : Bool) → a ≡ not b → a ≡ true → (b && c) ≡ false
none_both a true c h e = absurd (cc)
none_both a false c h e = refl

pub names_once : (opening s : State) → HasOrder opening × HasOrder s → AreOnce (names_of opening ++ joined_names opening s)
names_once opening s order =
    once_joined (names_of opening) (joined_names opening s) (sorted_once (names_of opening) order.0)
    (sorted_once (joined_names opening s) (IsStrictlySortedBy-filter name_cmp (lacks_name opening) (names_of s) order.1))
    (λ name e. among_filtered opening (names_of s) name
    ∙ none_both (is_among name (names_of opening)) (lacks_name opening name) (is_among name (names_of s)) (among_principals opening.principals name) e)

-- ---- all of them

no_keys : (x : Option (List KeyRow)) → not (is_none x) ≡ false → x ≡ None
no_keys None h = refl
no_keys (Some keys) h = absurd (cc)

none_left : (a b c d : Bool) → (a || b) ≡ false → b ≡ (c && d) → a ≡ not c → (a ≡ false) × (d ≡ false)
none_left true b c d h e f = absurd (cc)
none_left false b true d h e f = (refl, sym e ∙ h)
none_left false b false d h e f = absurd (cc)

-- a name that isn't among them is held by neither
pub not_among : (opening s : State) (name : Name) → is_among name (names_of opening ++ joined_names opening s) ≡ false
    → (keys_held opening name ≡ None) × (keys_held s name ≡ None)
not_among opening s name h =
    let parts = none_left (is_among name (names_of opening)) (is_among name (joined_names opening s)) (lacks_name opening name) (is_among name (names_of s))
    (sym (among_joined name (names_of opening) (joined_names opening s)) ∙ h) (among_filtered opening (names_of s) name)
    (among_principals opening.principals name) in (
      no_keys (keys_held opening name) (sym (among_principals opening.principals name) ∙ parts.0),
      no_keys (keys_held s name) (sym (among_principals s.principals name) ∙ parts.1),
    )
