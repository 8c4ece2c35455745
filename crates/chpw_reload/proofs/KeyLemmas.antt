-- The keys of a name in the next state.
use Rattle.std.proofs.Common.{◌≡◌, ℕ, max, List, [], ◌∷◌, ◌++◌, map, filter, take, Bool, true, false}
use Rattle.std.proofs.Common.{not, ◌&&◌, if◌then◌else◌, Option, Some, None, is_none, refl, sym, ◌∙◌, ap}
use Rattle.std.specs.Prelude.{option_map}
use Rattle.std.specs.List.{list_any}
use Rattle.std.proofs.lemmas.List.{take-map}
use Rattle.chpw_rules.specs.declared.name.Name.{Name}
use Rattle.chpw_rules.specs.declared.config.Config.{Config}
use Rattle.chpw_rules.specs.declared.config.KeyBytes.{KeyBytes}
use Rattle.chpw_rules.specs.declared.config.PrincipalRow.{PrincipalRow}
use Rattle.chpw_rules.specs.Names.{is_same_name}
use Rattle.chpw_record.specs.declared.key.KeyRow.{KeyRow}
use Rattle.chpw_table.specs.declared.table.Principal.{Principal}
use Rattle.chpw_table.specs.State.{State, keys_held, key_row_of, opening_principal}
use Rattle.chpw_table.proofs.KeyLemmas.{keys_in}
use Rattle.chpw_table.proofs.NameLemmas.{is_same_name-Decides}
use Rattle.chpw_report.specs.Configurations.{key_bytes_of, names_of, row_of}
use Rattle.chpw_reload.specs.Next.{is_unknown, lacked, next_state}

-- the first of two, where it is there
abbrev pub first_of_both : Option (List KeyRow) → Option (List KeyRow) → Option (List KeyRow)
first_of_both (Some keys) other = Some keys
first_of_both None other = other

keys_joined : (ps qs : List Principal) (name : Name) → keys_in (ps ++ qs) name ≡ first_of_both (keys_in ps name) (keys_in qs name)
keys_joined [] qs name = refl
keys_joined (p ∷ ps) qs name = at (is_same_name p.name name) refl (keys_joined ps qs name)
  where
    at : (b : Bool) → is_same_name p.name name ≡ b → keys_in (ps ++ qs) name ≡ first_of_both (keys_in ps name) (keys_in qs name)
        → keys_in (p ∷ (ps ++ qs)) name ≡ first_of_both (keys_in (p ∷ ps) name) (keys_in qs name)
    at true e ih = rw e refl
    at false e ih = rw e ih

map_joined : {A B : Type 0} (f : A → B) (xs ys : List A) → map f (xs ++ ys) ≡ map f xs ++ map f ys
map_joined f [] ys = refl
map_joined f (x ∷ xs) ys = ap (λ zs. f x ∷ zs) (map_joined f xs ys)

rows_back : (keys : List KeyRow) → map key_row_of (map key_bytes_of keys) ≡ keys
rows_back [] = refl
rows_back (k ∷ ks) = ap (λ (zs : List KeyRow). k ∷ zs) (rows_back ks)

-- a row's keys once they are opened
abbrev row_keys : State → ℕ → Name → List KeyRow
row_keys s kept name = map key_row_of (take kept (row_of s name).keys)

keys_of_row : (s : State) (kept : ℕ) (name : Name) (keys : List KeyRow) → keys_held s name ≡ Some keys → row_keys s kept name ≡ take kept keys
keys_of_row s kept name keys h =
    let bytes : (row_of s name).keys ≡ map key_bytes_of keys = rw h refl in
    ap (λ (xs : List KeyBytes). map key_row_of (take kept xs)) bytes
    ∙ (ap (map key_row_of) (take-map key_bytes_of kept keys) ∙ rows_back (take kept keys))

-- the name is among these
abbrev pub is_among : Name → List Name → Bool
is_among name names = list_any (λ (n : Name). is_same_name n name) names

keys_in_rows : (s : State) (kept : ℕ) (names : List Name) (name : Name)
    → keys_in (map (opening_principal kept) (map (row_of s) names)) name ≡ (if is_among name names then Some (row_keys s kept name) else None)
keys_in_rows s kept [] name = refl
keys_in_rows s kept (n ∷ ns) name = at (is_same_name n name) refl (keys_in_rows s kept ns name)
  where
    at : (b : Bool) → is_same_name n name ≡ b
        → keys_in (map (opening_principal kept) (map (row_of s) ns)) name ≡ (if is_among name ns then Some (row_keys s kept name) else None)
        → keys_in (map (opening_principal kept) (map (row_of s) (n ∷ ns))) name ≡ (if is_among name (n ∷ ns) then Some (row_keys s kept name) else None)
    at true e ih =
        let same : n ≡ name = (is_same_name-Decides n name).0 e in
        rw e (ap (λ (m : Name). Some (row_keys s kept m)) same)
    at false e ih = rw e ih

pub among_principals : (ps : List Principal) (name : Name) → is_among name (map (λ (p : Principal). p.name) ps) ≡ not (is_none (keys_in ps name))
among_principals [] name = refl
among_principals (p ∷ ps) name = at (is_same_name p.name name) refl (among_principals ps name)
  where
    at : (b : Bool) → is_same_name p.name name ≡ b → is_among name (map (λ (p : Principal). p.name) ps) ≡ not (is_none (keys_in ps name))
        → is_among name (map (λ (p : Principal). p.name) (p ∷ ps)) ≡ not (is_none (keys_in (p ∷ ps) name))
    at true e ih = rw e refl
    at false e ih = rw e ih

pub among_lacked : (r : State) (names : List Name) (name : Name) → is_among name (filter (is_unknown r) names) ≡ (is_unknown r name && is_among name names)
among_lacked r [] name = none (is_unknown r name)
  where
    none : (b : Bool) → false ≡ (b && false)
    none true = refl
    none false = refl
among_lacked r (n ∷ ns) name = at (is_same_name n name) refl (is_unknown r n) refl (among_lacked r ns name)
  where
    drop_true : (b c : Bool) → b ≡ true → (b && c) ≡ c
    drop_true true c h = refl
    drop_true false c h = absurd (cc)

    drop_false : (b c : Bool) → b ≡ false → false ≡ (b && c)
    drop_false true c h = absurd (cc)
    drop_false false c h = refl

    at : (b : Bool) → is_same_name n name ≡ b → (c : Bool) → is_unknown r n ≡ c
        → is_among name (filter (is_unknown r) ns) ≡ (is_unknown r name && is_among name ns)
        → is_among name (filter (is_unknown r) (n ∷ ns)) ≡ (is_unknown r name && is_among name (n ∷ ns))
    at true e true f ih =
        let here : is_unknown r name ≡ true = ap (is_unknown r) (sym ((is_same_name-Decides n name).0 e)) ∙ f in
        rw (f, e, here) refl
    at true e false f ih =
        let here : is_unknown r name ≡ false = ap (is_unknown r) (sym ((is_same_name-Decides n name).0 e)) ∙ f in
        rw f (ih ∙ rw here refl)
    at false e true f ih = rw (f, e) ih
    at false e false f ih = rw (f, e) ih

-- the renewed table's keys of a name, of which the newest are kept; where it lacks the name, the closed one's
abbrev pub chosen : ℕ → Option (List KeyRow) → Option (List KeyRow) → Option (List KeyRow)
chosen kept (Some keys) other = Some (take kept keys)
chosen kept None other = option_map (take kept) other

either_row : (closed renewed : State) (kept : ℕ) (name : Name) (found other : Option (List KeyRow))
    → keys_held renewed name ≡ found → keys_held closed name ≡ other
    → first_of_both (if not (is_none found) then Some (row_keys renewed kept name)
    else None) (if is_none found && not (is_none other) then Some (row_keys closed kept name) else None)
    ≡ chosen kept found other
either_row closed renewed kept name (Some keys) other h g = ap Some (keys_of_row renewed kept name keys h)
either_row closed renewed kept name None None h g = refl
either_row closed renewed kept name None (Some keys) h g = ap Some (keys_of_row closed kept name keys g)

-- the keys of each name in the next state
pub next_keys : (settings : Config) (closed renewed : State) (name : Name)
    → keys_held (next_state settings closed renewed) name ≡ chosen (max settings.policy.depth 1) (keys_held renewed name) (keys_held closed name)
next_keys settings closed renewed name =
    let kept : ℕ = max settings.policy.depth 1 in
    let front : List PrincipalRow = map (row_of renewed) (names_of renewed) in
    let back : List PrincipalRow = map (row_of closed) (lacked closed renewed) in
    ap (λ (ps : List Principal). keys_in ps name) (map_joined (opening_principal kept) front back)
    ∙ (keys_joined (map (opening_principal kept) front) (map (opening_principal kept) back) name
    ∙ (ap (λ (x : Option (List KeyRow)). first_of_both x (keys_in (map (opening_principal kept) back) name)) (keys_in_rows renewed kept (names_of renewed) name)
    ∙ (ap (λ (b : Bool). first_of_both (if b then Some (row_keys renewed kept name) else None)
    (keys_in (map (opening_principal kept) back) name)) (among_principals renewed.principals name)
    ∙ (ap (λ (x : Option (List KeyRow)). first_of_both (if not (is_none (keys_held renewed name))
    then Some (row_keys renewed kept name) else None) x) (keys_in_rows closed kept (lacked closed renewed) name)
    ∙ (ap (λ (b : Bool). first_of_both (if not (is_none (keys_held renewed name))
    then Some (row_keys renewed kept name) else None) (if b then Some (row_keys closed kept name) else None))
    (among_lacked renewed (names_of closed) name ∙ ap (λ (b : Bool). is_unknown renewed name && b) (among_principals closed.principals name))
    ∙ either_row closed renewed kept name (keys_held renewed name) (keys_held closed name) refl refl)))))
