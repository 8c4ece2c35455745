-- What an update does to the keys of each name.
use Rattle.std.proofs.Common.{◌≡◌, ℕ, List, [], ◌∷◌, ◌++◌, Bool, true, false, not, ◌&&◌, ◌||◌, if◌then◌else◌, Option}
use Rattle.std.proofs.Common.{Some, None, refl, sym, ◌∙◌, ap, find, filter}
use Rattle.std.specs.Prelude.{option_map, nat_lt}
use Rattle.chpw_rules.specs.declared.name.Name.{Name}
use Rattle.chpw_rules.specs.Names.{is_same_name}
use Rattle.chpw_record.specs.declared.key.KeyRow.{KeyRow}
use Rattle.chpw_table.specs.declared.times.Moment.{Moment}
use Rattle.chpw_table.specs.declared.table.Principal.{Principal}
use Rattle.chpw_table.specs.declared.updating.KdcUpdate.{KdcUpdate}
use Rattle.chpw_table.specs.declared.updating.KdcUpdate.TheVariants as update
use Rattle.chpw_table.specs.declared.updating.UpdateVerdict.{UpdateVerdict}
use Rattle.chpw_table.specs.declared.updating.UpdateVerdict.TheVariants as verdict
use Rattle.chpw_table.specs.State.{State, keys_held, kept_count}
use Rattle.chpw_table.specs.Updates.{with_keys, keys_after, kind_of, key_in, name_in, is_taken, is_newer, has_newest, after_update, update_row, update_verdict}
use Rattle.chpw_table.specs.Laws.{UpdateTakesOneName}
use Rattle.chpw_table.proofs.KeyLemmas.{keys_in, same_test}
use Rattle.chpw_table.proofs.NameLemmas.{is_same_name-Decides}

abbrev lacks : Name → Principal → Bool
lacks name p = not (is_same_name p.name name)

apart : (b : Bool) → b ≡ false → b ≡ true → ⊥
apart b x y = cc

-- two names that a third one is and isn't are apart
other_name : (a n m : Name) → is_same_name a n ≡ false → is_same_name a m ≡ true → is_same_name n m ≡ false
other_name a n m e f = at (is_same_name n m) refl
  where
    at : (b : Bool) → is_same_name n m ≡ b → b ≡ false
    at false g = refl
    at true g =
        absurd (apart (is_same_name a n) e ((is_same_name-Decides a n).1 ((is_same_name-Decides a m).0 f ∙ sym ((is_same_name-Decides n m).0 g))))

head_filtered : (n m : Name) (p : Principal) (ps : List Principal)
    → keys_in (filter (lacks n) ps) m ≡ (if is_same_name n m then None else keys_in ps m)
    → (b : Bool) → is_same_name p.name n ≡ b → (c : Bool) → is_same_name p.name m ≡ c
    → keys_in (if not b then p ∷ filter (lacks n) ps else filter (lacks n) ps) m ≡ (if is_same_name n m then None else keys_in (p ∷ ps) m)
head_filtered n m p ps ih true e true f = let g : is_same_name n m ≡ true = sym (same_test p.name n m e) ∙ f in rw g (rw g at ih)
head_filtered n m p ps ih true e false f = rw f ih
head_filtered n m p ps ih false e true f = let g : is_same_name n m ≡ false = other_name p.name n m e f in rw (f, g) refl
head_filtered n m p ps ih false e false f = rw f ih

none_either : {A : Type 0} (b : Bool) (o : Option A) → o ≡ None → o ≡ (if b then None else o)
none_either true o h = h
none_either false o h = refl

-- the keys of each name, where all principals of one name are left out
pub keys_filtered : (n m : Name) (ps : List Principal) → keys_in (filter (lacks n) ps) m ≡ (if is_same_name n m then None else keys_in ps m)
keys_filtered n m [] = none_either (is_same_name n m) None refl
keys_filtered n m (p ∷ ps) =
    head_filtered n m p ps (keys_filtered n m ps) (is_same_name p.name n) refl (is_same_name p.name m) refl

-- one more principal, at the end
last_at : (p q : Principal) (ps : List Principal) (m : Name) → keys_in (ps ++ p ∷ []) m ≡ keys_in ps m
    → (b : Bool) → is_same_name q.name m ≡ b → keys_in (q ∷ ps ++ p ∷ []) m ≡ keys_in (q ∷ ps) m
last_at p q ps m ih true e = rw e refl
last_at p q ps m ih false e = rw e ih

last_other : (p : Principal) (ps : List Principal) (m : Name) → is_same_name p.name m ≡ false → keys_in (ps ++ p ∷ []) m ≡ keys_in ps m
last_other p [] m h = rw h refl
last_other p (q ∷ ps) m h = last_at p q ps m (last_other p ps m h) (is_same_name q.name m) refl

some_none : {A : Type 0} (x : A) (o : Option A) → o ≡ Some x → o ≡ None → ⊥
some_none x o h e = cc

same_at : (p q : Principal) (ps : List Principal) (m : Name) → (keys_in ps m ≡ None → keys_in (ps ++ p ∷ []) m ≡ Some p.keys)
    → (b : Bool) → is_same_name q.name m ≡ b → keys_in (q ∷ ps) m ≡ None → keys_in (q ∷ ps ++ p ∷ []) m ≡ Some p.keys
same_at p q ps m ih true e k = let found : keys_in (q ∷ ps) m ≡ Some q.keys = rw e refl in absurd (some_none q.keys (keys_in (q ∷ ps) m) found k)
same_at p q ps m ih false e k = let rest : keys_in (q ∷ ps) m ≡ keys_in ps m = rw e refl in rw e (ih (sym rest ∙ k))

last_same : (p : Principal) (ps : List Principal) (m : Name) → is_same_name p.name m ≡ true → keys_in ps m ≡ None → keys_in (ps ++ p ∷ []) m ≡ Some p.keys
last_same p [] m h none = rw h refl
last_same p (q ∷ ps) m h none = same_at p q ps m (last_same p ps m h) (is_same_name q.name m) refl none

with_at : (n : Name) (keys : List KeyRow) (ps : List Principal) (m : Name) (b : Bool) → is_same_name n m ≡ b
    → keys_in (filter (lacks n) ps ++ record { name = n; keys = keys } ∷ []) m ≡ (if b then Some keys else keys_in ps m)
with_at n keys ps m true e =
    last_same (record { name = n; keys = keys }) (filter (lacks n) ps) m e (keys_filtered n m ps ∙ rw e refl)
with_at n keys ps m false e =
    last_other (record { name = n; keys = keys }) (filter (lacks n) ps) m e ∙ (keys_filtered n m ps ∙ rw e refl)

-- the keys of each name, where those of one are put in
pub keys_with : (n : Name) (keys : Option (List KeyRow)) (ps : List Principal) (m : Name)
    → keys_in (with_keys n keys ps) m ≡ (if is_same_name n m then keys else keys_in ps m)
keys_with n None ps m = keys_filtered n m ps
keys_with n (Some keys) ps m = with_at n keys ps m (is_same_name n m) refl

-- ---- an update

-- what is held of a name is held of the same name
pub same_held : (s : State) (a b : Name) → is_same_name a b ≡ true → keys_held s a ≡ keys_held s b
same_held s a b h = ap (λ (n : Name). keys_held s n) ((is_same_name-Decides a b).0 h)

updated_at : (s : State) (u : KdcUpdate) (name : Name) (b : Bool) → is_same_name (name_in u) name ≡ b
    → (if b then keys_after (kind_of u) (kept_count s) (key_in (keys_held s (name_in u)) u) (keys_held s (name_in u)) else keys_held s name)
    ≡ (if b then keys_after (kind_of u) (kept_count s) (key_in (keys_held s name) u) (keys_held s name) else keys_held s name)
updated_at s u name true e =
    ap (λ (x : Option (List KeyRow)). keys_after (kind_of u) (kept_count s) (key_in x u) x) (same_held s (name_in u) name e)
updated_at s u name false e = refl

-- what an update with this verdict makes of a name's keys
pub keys_updated : (v : UpdateVerdict) (s : State) (now : Moment) (u : KdcUpdate) (io : Bool) (name : Name)
    → keys_held (after_update v s now u io) name ≡ (if is_taken v && is_same_name (name_in u) name
    then keys_after (kind_of u) (kept_count s) (key_in (keys_held s name) u) (keys_held s name) else keys_held s name)
keys_updated v s now u io name = elim (is_taken v) as (λ b. keys_in (if b
    then with_keys (name_in u) (keys_after (kind_of u) (kept_count s) (key_in (keys_held s (name_in u)) u) (keys_held s (name_in u))) s.principals
    else s.principals) name
    ≡ (if b && is_same_name (name_in u) name
    then keys_after (kind_of u) (kept_count s) (key_in (keys_held s name) u) (keys_held s name) else keys_held s name)) [
      | true ↦ keys_with (name_in u) (keys_after (kind_of u) (kept_count s) (key_in (keys_held s (name_in u)) u) (keys_held s (name_in u))) s.principals name
          ∙ updated_at s u name (is_same_name (name_in u) name) refl
      | false ↦ refl
    ]

-- the law on an update
pub update_takes_one_name : UpdateTakesOneName
update_takes_one_name s now u io name = (refl, refl, keys_updated (update_verdict s u io) s now u io name)

-- there is a newest key to lift
lift_row : (newest newer broken : Bool)
    → is_taken (if not newest then verdict.NoSuchPrincipal else if not newer then verdict.NotNewer else if broken then verdict.Broken else verdict.Taken) ≡ true
    → newest ≡ true
lift_row true newer broken h = refl
lift_row false newer broken h = cc

pub lifted_has_newest : (s : State) (name : Name) (kvno : ℕ) (io : Bool) → is_taken (update_verdict s (update.Lift name kvno) io) ≡ true
    → has_newest (keys_held s name) ≡ true
lifted_has_newest s name kvno io h = lift_row (has_newest (keys_held s name)) (is_newer kvno (keys_held s name)) (s.broken || io) h
