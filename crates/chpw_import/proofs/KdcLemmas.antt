-- The names that a list has, none twice, and the rows of those that are imported.
use Rattle.std.proofs.Common.{◌≡◌, ◌∙◌, sym, ap, refl, ℕ, Bool, true, false, cond, not, ◌||◌, ◌&&◌, List, [], ◌∷◌, ◌++◌, map, Result, Ok, Err, if◌then◌else◌}
use Rattle.std.specs.Bool.{Decides, one_answer}
use Rattle.std.specs.List.{list_any}
use Rattle.std.specs.Ordering.{is_eq, eq_by_cmp}
use Rattle.std.proofs.lemmas.Bool.Decides.{Decides-like}
use Rattle.std.proofs.lemmas.List.Folds.{list_any-append}
use Rattle.chpw_rules.specs.declared.name.Name.{Name}
use Rattle.chpw_rules.specs.Names.{is_same_name, name_cmp}
use Rattle.chpw_rules.proofs.NameLemmas.{is_same_name-Decides}
use Rattle.chpw_import.proofs.SlotLemmas.{ties}
use Rattle.std.proofs.Common.{inr, inl, arith, length, length-append, ◌≤◌, ◌<◌, nat_le, ◌+◌}
use Rattle.std.specs.BTreeSet.{BTreeSet, contains}
use Rattle.std.specs.List.{list_all}
use Rattle.std.proofs.lemmas.Bool.{and_from, and_parts, leb-false, le-leb, not-false, not-true}
use Rattle.std.proofs.lemmas.List.Folds.{list_all-append}
use Rattle.chpw_rules.specs.declared.config.PrincipalRow.{PrincipalRow}
use Rattle.chpw_rules.specs.declared.pattern.NamePatterns.{NamePatterns}
use Rattle.chpw_rules.specs.Fitting.{are_distinct, is_same_principal, none_again, principal_fits, principals_fit}
use Rattle.chpw_rules.specs.Limits.{is_in, iteration_counts, kvnos, principal_counts}
use Rattle.chpw_rules.specs.Names.{is_name}
use Rattle.chpw_rules.specs.Patterns.{is_ours}
use Rattle.chpw_rules.proofs.DistinctLemmas.{none_again_last}
use Rattle.chpw_config_text.specs.Writable.{is_writable_name}
use Rattle.chpw_kdc.specs.declared.answer.Reason.{Reason}
use Rattle.chpw_import.specs.declared.kdc.fault.ListFault.TheVariants.{NamedTwice}
use Rattle.chpw_import.specs.declared.kdc.choosing.LeftName.{LeftName}
use Rattle.chpw_import.specs.declared.kdc.choosing.LeftReason.{LeftReason}
use Rattle.chpw_import.specs.declared.kdc.listing.KdcKeys.{KdcKeys}
use Rattle.chpw_import.specs.declared.kdc.listing.Listed.{Listed}
use Rattle.chpw_import.specs.KdcChoices.{Choice, chosen_from, nothing, placed, reason_by, reason_for, row_of, with_next}
use Rattle.chpw_import.specs.KdcLists.{IsListFault, is_new, names_in}
use Rattle.chpw_import.specs.KdcSeen.{KnowsNames}

same_back : (a b : Name) → is_same_name a b ≡ is_same_name b a
same_back a b =
    one_answer (is_same_name a b) (is_same_name b a) (is_same_name-Decides a b)
    (Decides-like (is_same_name b a) sym sym (is_same_name-Decides b a))

-- one more name among those that are known
pub known_more : (a b : Name) (names : List Name) (seen : Bool) → seen ≡ list_any (is_same_name b) names
    → cond (is_eq (name_cmp a b)) true seen ≡ list_any (is_same_name b) (names ++ a ∷ [])
known_more a b names seen known =
    rw (list_any-append (is_same_name b) names (a ∷ []), ties a b, ← same_back b a, ← known) (among (is_same_name b a) seen)
  where
    among : (here before : Bool) → cond here true before ≡ (before || (here || false))
    among true true = refl
    among true false = refl
    among false true = refl
    among false false = refl

names_added : (listed : List Listed) (p : Listed) → names_in (listed ++ p ∷ []) ≡ names_in listed ++ p.name ∷ []
names_added [] p = refl
names_added (q ∷ listed) p = ap (λ (l : List Name). q.name ∷ l) (names_added listed p)

-- a name that the set has
pub twice : (listed : List Listed) (name key : Name) (seen : BTreeSet Name) (added : Bool) → KnowsNames seen (names_in listed)
    → key ≡ name → added ≡ not (contains name_cmp seen key) → added ≡ false → IsListFault (is_new listed name) NamedTwice
twice listed name key seen added knows same is refused =
    let absent : not (contains name_cmp seen name) ≡ false
    = ap (λ (k : Name). not (contains name_cmp seen k)) (sym same) ∙ (sym is ∙ refused) in
    let here : list_any (is_same_name name) (names_in listed) ≡ true
    = sym (knows name) ∙ not-false (contains name_cmp seen name) absent in
    inr (rw here)

-- a name that it gets
pub knows_more : (old new : BTreeSet Name) (listed more : List Listed) (p : Listed) (key : Name) → KnowsNames old (names_in listed)
    → key ≡ p.name → ((q : Name) → contains name_cmp new q ≡ cond (is_eq (name_cmp key q)) true (contains name_cmp old q))
    → more ≡ listed ++ p ∷ [] → KnowsNames new (names_in more)
knows_more old new listed more p key knows same updates is = λ name.
    let e : names_in more ≡ names_in listed ++ key ∷ []
    = ap (λ (l : List Listed). names_in l) is ∙ (names_added listed p ∙ ap (λ (k : Name). names_in listed ++ k ∷ []) (sym same)) in
    updates name ∙ (known_more key name (names_in listed) (contains name_cmp old name) (knows name)
    ∙ ap (λ (l : List Name). list_any (is_same_name name) l) (sym e))

pub distinct_more : (listed more : List Listed) (p : Listed) (key : Name) (old : BTreeSet Name) (added : Bool)
    → KnowsNames old (names_in listed) → key ≡ p.name → added ≡ not (contains name_cmp old key) → added ≡ true
    → more ≡ listed ++ p ∷ [] → are_distinct is_same_name (names_in listed) ≡ true → are_distinct is_same_name (names_in more) ≡ true
distinct_more listed more p key old added knows same is held e distinct =
    let absent : not (contains name_cmp old p.name) ≡ true
    = ap (λ (k : Name). not (contains name_cmp old k)) (sym same) ∙ (sym is ∙ held) in
    let new : list_any (is_same_name p.name) (names_in listed) ≡ false
    = sym (knows p.name) ∙ not-true (contains name_cmp old p.name) absent in
    let names : names_in more ≡ names_in listed ++ p.name ∷ []
    = ap (λ (l : List Listed). names_in l) e ∙ names_added listed p in
    ap (λ (l : List Name). are_distinct is_same_name l) names ∙ none_again_last is_same_name [] (names_in listed) p.name distinct new

-- ---- the rows that are imported

tested : {A E : Type 0} (test : Bool) (e : E) (rest : Result A E) (a : A) → (if test then Err e else rest) ≡ Ok a
    → (test ≡ false) × (rest ≡ Ok a)
tested true e rest a h = cc
tested false e rest a h = (refl, h)

-- what is known of a principal that is imported
record Usable (count : ℕ) (name : Name) (keys : KdcKeys) : Type 0 where
  named : is_name name ≡ true
  version : is_in kvnos keys.kvno ≡ true
  room : nat_le 10000 count ≡ false

usable : (patterns : NamePatterns) (count : ℕ) (name : Name) (found : Result KdcKeys Reason) (keys : KdcKeys)
    → reason_by patterns count name found ≡ Ok keys → Usable count name keys
usable patterns count name (Err reason) keys h = cc
usable patterns count name (Ok k) keys h =
    let ours = tested (not (is_ours patterns name)) _ _ keys h in
    let named = tested (not (is_name name && is_writable_name name)) _ _ keys ours.1 in
    let version = tested (not (is_in kvnos k.kvno)) _ _ keys named.1 in
    let room = tested (nat_le 10000 count) _ _ keys version.1 in
    let same : k ≡ keys = let e = room.1 in cc in
    record {
      named = (and_parts (is_name name) (is_writable_name name) (not-false _ named.0)).0;
      version = rw (← same) (not-false _ version.0);
      room = room.0;
    }

-- the names of these rows are among these
abbrev Among : List PrincipalRow → List Name → Type 0
Among rows names = (n : Name) → list_any (is_same_name n) names ≡ false → list_any (λ row. is_same_name n row.name) rows ≡ false

-- what is kept of the rows so far, beside the names of the list so far
record Kept (c : Choice) (before : List Name) : Type 0 where
  fit : list_all principal_fits c.principals ≡ true
  few : length c.principals ≤ 10000
  distinct : are_distinct is_same_principal c.principals ≡ true
  among : Among c.principals before

or_parts : (x y : Bool) → (x || y) ≡ false → (x ≡ false) × (y ≡ false)
or_parts true y h = cc
or_parts false y h = (refl, h)

-- a name that is none of these and another
before_parts : (n name : Name) (before : List Name) → list_any (is_same_name n) (before ++ name ∷ []) ≡ false
    → (list_any (is_same_name n) before ≡ false) × (is_same_name n name ≡ false)
before_parts n name before h =
    let parts = or_parts (list_any (is_same_name n) before) (is_same_name n name || false)
    (sym (list_any-append (is_same_name n) before (name ∷ [])) ∙ h) in
    (parts.0, (or_parts (is_same_name n name) false parts.1).0)

kept_more : (c : Choice) (before : List Name) (name : Name) (keys : KdcKeys) (iterations : ℕ) → is_in iteration_counts iterations ≡ true
    → Usable (length c.principals) name keys → list_any (is_same_name name) before ≡ false → Kept c before
    → Kept (record c { principals = c.principals ++ row_of name keys iterations ∷ [] }) (before ++ name ∷ [])
kept_more c before name keys iterations counts u new k =
    let row = row_of name keys iterations in
    let room : length c.principals < 10000 = leb-false 10000 (length c.principals) u.room in
    record {
      fit = list_all-append principal_fits c.principals (row ∷ []) ∙ rw (k.fit, u.named, u.version, counts);
      few = omega (arith, length-append c.principals (row ∷ []));
      distinct = none_again_last is_same_principal [] c.principals row k.distinct (k.among name new);
      among = λ n h.
          let parts = before_parts n name before h in
          list_any-append (λ (r : PrincipalRow). is_same_name n r.name) c.principals (row ∷ []) ∙ rw (k.among n parts.0, parts.1);
    }

kept_past : (c : Choice) (before : List Name) (name : Name) (left : List LeftName) → Kept c before
    → Kept (record c { left = left }) (before ++ name ∷ [])
kept_past c before name left k = record {
  fit = k.fit;
  few = k.few;
  distinct = k.distinct;
  among = λ n h. k.among n (before_parts n name before h).0;
}

fits_from : (patterns : NamePatterns) (iterations : ℕ) → is_in iteration_counts iterations ≡ true → (c : Choice) (before : List Name)
    (ps : List Listed) → Kept c before → none_again is_same_name before (names_in ps) ≡ true
    → principals_fit (chosen_from patterns iterations c ps).principals ≡ true
fits_from patterns iterations counts c before [] k none =
    let counted : is_in principal_counts (length c.principals) ≡ true
    = and_from _ _ (le-leb 0 (length c.principals) (omega arith)) (le-leb (length c.principals) 10000 k.few) in
    and_from _ _ (and_from _ _ counted k.fit) k.distinct
fits_from patterns iterations counts c before (p ∷ ps) k none =
    let parts = and_parts (not (list_any (is_same_name p.name) before)) (none_again is_same_name (before ++ p.name ∷ []) (names_in ps)) none in
    go (reason_for patterns (length c.principals) p) refl (not-true _ parts.0)
    (λ d kept. fits_from patterns iterations counts d (before ++ p.name ∷ []) ps kept parts.1)
  where
    go : (r : Result KdcKeys LeftReason) → reason_for patterns (length c.principals) p ≡ r
        → list_any (is_same_name p.name) before ≡ false
        → ((d : Choice) → Kept d (before ++ p.name ∷ []) → principals_fit (chosen_from patterns iterations d ps).principals ≡ true)
        → principals_fit (chosen_from patterns iterations (placed iterations c p.name r) ps).principals ≡ true
    go (Ok keys) is new next =
        next (record c { principals = c.principals ++ row_of p.name keys iterations ∷ [] })
        (kept_more c before p.name keys iterations counts (usable patterns (length c.principals) p.name p.found keys is) new k)
    go (Err why) is new next =
        next (record c { left = c.left ++ record { name = p.name; why = why } ∷ [] })
        (kept_past c before p.name (c.left ++ record { name = p.name; why = why } ∷ []) k)

-- rows of a list in which no name stands twice
pub chosen_fit : (patterns : NamePatterns) (iterations : ℕ) (listed : List Listed) (c : Choice) → 1 ≤ iterations → iterations ≤ 16777216
    → are_distinct is_same_name (names_in listed) ≡ true → c ≡ chosen_from patterns iterations nothing listed
    → principals_fit c.principals ≡ true
chosen_fit patterns iterations listed c low high distinct is =
    let counts : is_in iteration_counts iterations ≡ true = rw (le-leb 1 iterations low, le-leb iterations 16777216 high) in
    let start : Kept nothing [] = record { fit = refl; few = omega arith; distinct = refl; among = λ n h. refl } in
    ap (λ (d : Choice). principals_fit d.principals) is ∙ fits_from patterns iterations counts nothing [] listed start distinct
