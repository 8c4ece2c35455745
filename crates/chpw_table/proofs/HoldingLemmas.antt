-- What stays true of a table's principals.
use Rattle.std.proofs.Common.{◌≡◌, ℕ, zero, suc, ◌≤◌, min, max, List, [], ◌∷◌, ◌++◌, map, take}
use Rattle.std.proofs.Common.{length, Bool, true, false, not, ◌&&◌, ◌||◌, if◌then◌else◌, Option}
use Rattle.std.proofs.Common.{Some, None, Bor, find, refl, sym, ◌∙◌, ap, subst, arith, length-take}
use Rattle.std.specs.Prelude.{IfSome, option_map, option_copied}
use Rattle.std.specs.List.{list_all, list_any}
use Rattle.std.proofs.lemmas.Bool.Decides.{nat_tests}
use Rattle.chpw_rules.specs.declared.name.Name.{Name}
use Rattle.chpw_rules.specs.declared.policy.Policy.{Policy}
use Rattle.chpw_rules.specs.declared.config.Config.{Config}
use Rattle.chpw_rules.specs.declared.config.KeyBytes.{KeyBytes}
use Rattle.chpw_rules.specs.declared.config.PrincipalRow.{PrincipalRow}
use Rattle.chpw_rules.specs.Limits.{is_in, depths, entry_counts, key_counts, iteration_counts, principal_counts}
use Rattle.chpw_rules.specs.Names.{is_same_name}
use Rattle.chpw_rules.specs.Fitting.{config_fits, principal_fits, principals_fit, policy_fits, key_fits, are_distinct, none_again}
use Rattle.chpw_rules.specs.Fitting as rules
use Rattle.chpw_table.specs.declared.request.Opened.{Opened}
use Rattle.chpw_table.specs.Requests.{target_of}
use Rattle.chpw_table.specs.Entering.{with_keys_at}
use Rattle.chpw_record.specs.declared.key.KeyRow.{KeyRow}
use Rattle.chpw_table.specs.declared.table.Principal.{Principal}
use Rattle.chpw_table.specs.State.{State, key_row_of, opening_principal, keys_held, kept_count, new_count}
use Rattle.chpw_table.specs.Step.{with_key, new_key}
use Rattle.chpw_table.specs.Holding.{is_count_in_range, is_holder, is_same_principal, hold_keys, are_in_order, names, are_holders}
use Rattle.chpw_table.proofs.BoolLemmas.{and_left, and_right, both}

-- ---- lists whose elements all pass

found_at : {A : Type 0} (t : A → Bool) (x : A) (r : Option A) (b : Bool)
    → t x ≡ true → IfSome r (λ y. t y ≡ true) → IfSome (if b then Some x else r) (λ y. t y ≡ true)
found_at t x r true h ih = h
found_at t x r false h ih = ih

-- what is found passes too
pub find-all : {A : Type 0} (t p : A → Bool) (xs : List A) → list_all t xs ≡ true → IfSome (find p xs) (λ y. t y ≡ true)
find-all t p [] h = tt
find-all t p (x ∷ xs) h = found_at t x (find p xs) (p x) (and_left _ _ h) (find-all t p xs (and_right _ _ h))

pub all-take : {A : Type 0} (t : A → Bool) (n : ℕ) (xs : List A) → list_all t xs ≡ true → list_all t (take n xs) ≡ true
all-take t zero xs h = refl
all-take t (suc n) [] h = refl
all-take t (suc n) (x ∷ xs) h = both (and_left _ _ h) (all-take t n xs (and_right _ _ h))

all-map : {A B : Type 0} (s : A → Bool) (t : B → Bool) (f : A → B)
    → ((x : A) → s x ≡ true → t (f x) ≡ true) → (xs : List A) → list_all s xs ≡ true → list_all t (map f xs) ≡ true
all-map s t f g [] h = refl
all-map s t f g (x ∷ xs) h = both (g x (and_left _ _ h)) (all-map s t f g xs (and_right _ _ h))

-- ---- lists whose elements are distinct, after a map that a test does not notice

any-map : {A B : Type 0} (s : A → A → Bool) (t : B → B → Bool) (f : A → B)
    → ((x y : A) → t (f x) (f y) ≡ s x y) → (x : A) (ys : List A) → list_any (t (f x)) (map f ys) ≡ list_any (s x) ys
any-map s t f g x [] = refl
any-map s t f g x (y ∷ ys) = ap (λ b. b || list_any (t (f x)) (map f ys)) (g x y) ∙ ap (λ b. s x y || b) (any-map s t f g x ys)

map-push : {A B : Type 0} (f : A → B) (xs : List A) (y : A) → map f xs ++ f y ∷ [] ≡ map f (xs ++ y ∷ [])
map-push f [] y = refl
map-push f (x ∷ xs) y = ap (λ zs. f x ∷ zs) (map-push f xs y)

none_again-map : {A B : Type 0} (s : A → A → Bool) (t : B → B → Bool) (f : A → B) → ((x y : A) → t (f x) (f y) ≡ s x y)
    → (before xs : List A) → none_again t (map f before) (map f xs) ≡ none_again s before xs
none_again-map s t f g before [] = refl
none_again-map s t f g before (x ∷ xs) =
    ap (λ b. not b && none_again t (map f before ++ f x ∷ []) (map f xs)) (any-map s t f g x before)
    ∙ (ap (λ ys. not (list_any (s x) before) && none_again t ys (map f xs)) (map-push f before x)
    ∙ ap (λ b. not (list_any (s x) before) && b) (none_again-map s t f g (before ++ x ∷ []) xs))

-- elements that differ still differ
pub are_distinct-map : {A B : Type 0} (s : A → A → Bool) (t : B → B → Bool) (f : A → B)
    → ((x y : A) → t (f x) (f y) ≡ s x y) → (xs : List A) → are_distinct t (map f xs) ≡ are_distinct s xs
are_distinct-map s t f g xs = none_again-map s t f g [] xs

-- ---- as many keys as are kept

in_range : (n : ℕ) → 1 ≤ n → n ≤ 16 → is_in key_counts n ≡ true
in_range n a b = grind (arith, nat_tests)

range_low : (n : ℕ) → is_in key_counts n ≡ true → 1 ≤ n
range_low n h = grind (arith, nat_tests)

range_high : (n : ℕ) → is_in key_counts n ≡ true → n ≤ 16
range_high n h = grind (arith, nat_tests)

length-map : {A B : Type 0} (f : A → B) (xs : List A) → length (map f xs) ≡ length xs
length-map f [] = refl
length-map f (x ∷ xs) = ap suc (length-map f xs)

kept_low : (kept n : ℕ) → 1 ≤ kept → 1 ≤ n → 1 ≤ min kept n
kept_low kept n a b = omega arith

kept_high : (kept n : ℕ) → kept ≤ 16 → min kept n ≤ 16
kept_high kept n a = omega arith

-- the newest of some keys are as many as a principal holds
pub kept_in_range : {A : Type 0} (kept : ℕ) (keys : List A) → 1 ≤ kept → kept ≤ 16 → 1 ≤ length keys → is_in key_counts (length (take kept keys)) ≡ true
kept_in_range kept keys a b h = rw (length-take kept keys)
    (in_range (min kept (length keys)) (kept_low kept (length keys) a h) (kept_high kept (length keys) b))

-- ---- the opening

count_in_range : (k : KeyBytes) → key_fits k ≡ true → is_count_in_range (key_row_of k) ≡ true
count_in_range k h = and_right _ _ h

opening_holder : (kept : ℕ) → 1 ≤ kept → kept ≤ 16 → (row : PrincipalRow) → principal_fits row ≡ true → is_holder (opening_principal kept row) ≡ true
opening_holder kept a b row h =
    let named = and_left _ _ (and_left _ _ (and_left _ _ h)) in
    let many = and_right _ _ (and_left _ _ (and_left _ _ h)) in
    let keys = and_right _ _ (and_left _ _ h) in
    both named (both
    (rw (length-map key_row_of (take kept row.keys)) (kept_in_range kept row.keys a b (range_low (length row.keys) many)))
    (all-map key_fits is_count_in_range key_row_of count_in_range (take kept row.keys) (all-take key_fits kept row.keys keys)))

-- the principals of an opening
pub opening_hold : (kept : ℕ) → 1 ≤ kept → kept ≤ 16
    → (rows : List PrincipalRow) → principals_fit rows ≡ true → hold_keys (map (opening_principal kept) rows) ≡ true
opening_hold kept a b rows h =
    both (all-map principal_fits is_holder (opening_principal kept) (opening_holder kept a b) rows (and_right _ _ (and_left _ _ h)))
    (are_distinct-map rules.is_same_principal is_same_principal (opening_principal kept) (λ x y. refl) rows ∙ and_right _ _ h)

-- are as many as the configuration's
pub opening_few : (kept : ℕ) (rows : List PrincipalRow)
    → principals_fit rows ≡ true → is_in principal_counts (length (map (opening_principal kept) rows)) ≡ true
opening_few kept rows h = ap (λ n. is_in principal_counts n) (length-map (opening_principal kept) rows) ∙ and_left _ _ (and_left _ _ h)

-- ---- what is held

-- as many keys as a configuration takes, each under a count that one takes
abbrev pub AreHeld : List KeyRow → Type 0
AreHeld keys = (is_in key_counts (length keys) ≡ true) × (list_all is_count_in_range keys ≡ true)

keys_of_holder : (found : Option Principal) → IfSome found (λ p. is_holder p ≡ true) → IfSome (option_map (λ (p : Principal). p.keys) found) AreHeld
keys_of_holder None h = tt
keys_of_holder (Some p) h = (and_left _ _ (and_right _ _ h), and_right _ _ (and_right _ _ h))

-- the keys of a name
pub held : (s : State) (name : Name) → are_holders s.principals ≡ true → IfSome (keys_held s name) AreHeld
held s name h = keys_of_holder (find (λ (p : Principal). is_same_name p.name name) s.principals)
    (find-all is_holder (λ (p : Principal). is_same_name p.name name) s.principals (and_left _ _ (and_left _ _ h)))

-- a weaker fact of what is there
pub IfSome-weaker : {A : Type 0} (P Q : A → Type 0) → ((x : A) → P x → Q x) → (o : Option A) → IfSome o P → IfSome o Q
IfSome-weaker P Q f None h = tt
IfSome-weaker P Q f (Some x) h = f x h

-- 1 to 16 of them
pub few_keys : (keys : List KeyRow) → AreHeld keys → (1 ≤ length keys) × (length keys ≤ 16)
few_keys keys h = (range_low (length keys) h.0, range_high (length keys) h.0)

-- ---- a new key

new_holder : (kept : ℕ) (name : Name) (key : KeyRow) → 1 ≤ kept → kept ≤ 16
    → is_count_in_range key ≡ true → (p : Principal) → is_holder p ≡ true → is_holder (with_key kept name key p) ≡ true
new_holder kept name key a b k p h = at (is_same_name p.name name)
  where
    at : (c : Bool) → is_holder (if c then record { name = p.name; keys = take kept (key ∷ p.keys) } else p) ≡ true
    at false = h
    at true = both (and_left _ _ h) (both (kept_in_range kept (key ∷ p.keys) a b (omega arith))
        (all-take is_count_in_range kept (key ∷ p.keys) (both k (and_right _ _ (and_right _ _ h)))))

same_name : (kept : ℕ) (name : Name) (key : KeyRow) (p : Principal) → (with_key kept name key p).name ≡ p.name
same_name kept name key p = at (is_same_name p.name name)
  where
    at : (c : Bool) → (let q : Principal = if c then record { name = p.name; keys = take kept (key ∷ p.keys) } else p in q.name) ≡ p.name
    at false = refl
    at true = refl

same_principal : (kept : ℕ) (name : Name) (key : KeyRow) (x y : Principal)
    → is_same_principal (with_key kept name key x) (with_key kept name key y) ≡ is_same_principal x y
same_principal kept name key x y = ap (λ n. is_same_name n (with_key kept name key y).name) (same_name kept name key x)
    ∙ ap (λ n. is_same_name x.name n) (same_name kept name key y)

same_names : (kept : ℕ) (name : Name) (key : KeyRow) (ps : List Principal) → names (map (with_key kept name key) ps) ≡ names ps
same_names kept name key [] = refl
same_names kept name key (p ∷ ps) = ap (λ n. n ∷ names (map (with_key kept name key) ps)) (same_name kept name key p)
    ∙ ap (λ ns. p.name ∷ ns) (same_names kept name key ps)

-- the principals after a change
pub new_holders : (kept : ℕ) (name : Name) (key : KeyRow) → 1 ≤ kept → kept ≤ 16 → is_count_in_range key ≡ true
    → (ps : List Principal) → are_holders ps ≡ true → are_holders (map (with_key kept name key) ps) ≡ true
new_holders kept name key a b k ps h =
    let hold = and_left _ _ h in
    both (both (all-map is_holder is_holder (with_key kept name key) (new_holder kept name key a b k) ps (and_left _ _ hold))
    (are_distinct-map is_same_principal is_same_principal (with_key kept name key) (same_principal kept name key) ps ∙ and_right _ _ hold))
    (both (ap are_in_order (same_names kept name key ps) ∙ and_left _ _ (and_right _ _ h))
    (ap (λ n. is_in principal_counts n) (length-map (with_key kept name key) ps) ∙ and_right _ _ (and_right _ _ h)))

-- ---- for answers

-- what is true of a value is true of what a reference to it points to
pub IfSome-copied : {A : Type 0} (P : A → Type 0) (r : Option (Bor A)) (o : Option A) → option_copied r ≡ o → IfSome o P → IfSome r (λ x. P x.now)
IfSome-copied {A = A} P None o e h = tt
IfSome-copied {A = A} P (Some x) o e h = let Q : Option A → Type 0 = λ v. IfSome v P in subst Q (sym e) h

-- at least one key is kept
pub kept_at_least : (depth : ℕ) → 1 ≤ max depth 1
kept_at_least depth = omega arith

-- and 16 at most
pub kept_at_most : (depth : ℕ) → depth ≤ 16 → max depth 1 ≤ 16
kept_at_most depth h = omega arith

in_depths : (depth : ℕ) → is_in depths depth ≡ true → depth ≤ 16
in_depths depth h = grind (arith, nat_tests)

-- under a policy that fits
pub depth_at_most : (policy : Policy) → policy_fits policy ≡ true → max policy.depth 1 ≤ 16
depth_at_most policy h = kept_at_most policy.depth (in_depths policy.depth (and_right _ _ (and_left _ _ h)))

-- the parts of a configuration that fits
pub entries_of_fits : (c : Config) → config_fits c ≡ true → is_in entry_counts c.max_entries ≡ true
entries_of_fits c h = and_right _ _ (and_left _ _ (and_left _ _ (and_left _ _ (and_left _ _ h))))

pub policy_of_fits : (c : Config) → config_fits c ≡ true → policy_fits c.policy ≡ true
policy_of_fits c h = and_right _ _ (and_left _ _ (and_left _ _ h))

pub principals_of_fits : (c : Config) → config_fits c ≡ true → principals_fit c.principals ≡ true
principals_of_fits c h = and_right _ _ h

pub iterations_in_range : (policy : Policy) → policy_fits policy ≡ true → is_in iteration_counts policy.iterations ≡ true
iterations_in_range policy h = and_right _ _ h

-- the principals after a change, where it is put in its place
pub holders_at : (s : State) (o : Opened) (n : ℕ) (keys : List KeyRow)
    → policy_fits s.fixed.policy ≡ true → is_in iteration_counts (new_count s) ≡ true → are_holders s.principals ≡ true
    → map (with_key (kept_count s) (target_of o).name (new_key s o)) s.principals ≡ with_keys_at n keys s.principals
    → are_holders (with_keys_at n keys s.principals) ≡ true
holders_at s o n keys p c h e =
    subst (λ (ps : List Principal). are_holders ps ≡ true) e
    (new_holders (kept_count s) (target_of o).name (new_key s o) (kept_at_least s.fixed.policy.depth) (depth_at_most s.fixed.policy p) c s.principals h)
