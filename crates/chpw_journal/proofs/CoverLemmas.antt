-- Records put back into states that have the same keys of some names.
use Rattle.std.proofs.Common.{◌≡◌, ℕ, suc, ◌≤◌, max, min, rules, List, [], ◌∷◌, map, take, length, Bool, true}
use Rattle.std.proofs.Common.{false, if◌then◌else◌, Option, Some, None, refl, sym, ◌∙◌, ap, subst, arith}
use Rattle.std.specs.Prelude.{IsSome, IfSome, ℤ}
use Rattle.std.proofs.lemmas.List.{length-take}
use Rattle.chpw_rules.specs.declared.name.Name.{Name}
use Rattle.chpw_rules.specs.declared.config.Config.{Config}
use Rattle.chpw_rules.specs.declared.config.PrincipalRow.{PrincipalRow}
use Rattle.chpw_rules.specs.Names.{is_same_name}
use Rattle.chpw_record.specs.declared.key.KeyRow.{KeyRow}
use Rattle.chpw_record.specs.declared.record.PrincipalKey.{PrincipalKey}
use Rattle.chpw_record.specs.declared.record.KeyKind.{KeyKind}
use Rattle.chpw_record.specs.declared.record.KeyKind.TheVariants as kind
use Rattle.chpw_record.specs.declared.record.Record.{Record}
use Rattle.chpw_record.specs.declared.record.Record.TheVariants as record_of
use Rattle.chpw_table.specs.State.{State, keys_held, kept_count, new_count, key_row_of, opening_principal, opening_of}
use Rattle.chpw_table.specs.Laws.{HoldsFew}
use Rattle.chpw_table.specs.Updates.{keys_after, with_newest}
use Rattle.chpw_table.proofs.HoldingLemmas.{kept_at_least}
use Rattle.chpw_table.proofs.KeyLemmas.{keys_in}
use Rattle.chpw_table.proofs.UpdateLemmas.{keys_with, same_held}
use Rattle.chpw_journal.specs.JournalText.{with_record, restored, is_lacked, may_follow, IsNextRecord, AreNext}
use Rattle.chpw_journal.specs.Known.{AreKnown}

-- ---- one record

pub record_kept : (s : State) (r : Record) → kept_count (with_record r s) ≡ kept_count s
record_kept s (record_of.Key kind c) = refl
record_kept s (record_of.Raise count) = refl

-- the keys of each name after a record of one
pub record_keys : (s : State) (kind : KeyKind) (c : PrincipalKey) (name : Name)
    → keys_held (with_record (record_of.Key kind c) s) name ≡ (if is_same_name c.name name
    then keys_after kind (kept_count s) c.key (keys_held s name) else keys_held s name)
record_keys s kind c name =
    keys_with c.name (keys_after kind (kept_count s) c.key (keys_held s c.name)) s.principals name ∙ at (is_same_name c.name name) refl
  where
    at : (b : Bool) → is_same_name c.name name ≡ b
        → (if b then keys_after kind (kept_count s) c.key (keys_held s c.name) else keys_held s name)
        ≡ (if b then keys_after kind (kept_count s) c.key (keys_held s name) else keys_held s name)
    at true e = ap (λ (x : Option (List KeyRow)). keys_after kind (kept_count s) c.key x) (same_held s c.name name e)
    at false e = refl

pub record_alike : (s t : State) (r : Record) (name : Name) → kept_count s ≡ kept_count t → keys_held s name ≡ keys_held t name
    → keys_held (with_record r s) name ≡ keys_held (with_record r t) name
record_alike s t (record_of.Key kind c) name k h =
    record_keys s kind c name
    ∙ (ap (λ (n : ℕ). if is_same_name c.name name then keys_after kind n c.key (keys_held s name) else keys_held s name) k
    ∙ (ap (λ (x : Option (List KeyRow)). if is_same_name c.name name then keys_after kind (kept_count t) c.key x else x) h
    ∙ sym (record_keys t kind c name)))
record_alike s t (record_of.Raise count) name k h = h

length_newest : (key : KeyRow) (keys : List KeyRow) → length (with_newest key keys) ≡ length keys
length_newest key [] = refl
length_newest key (k ∷ ks) = refl

after_few : (kind : KeyKind) (kept : ℕ) (key : KeyRow) (x : Option (List KeyRow)) → 1 ≤ kept → IfSome x (λ keys. length keys ≤ kept)
    → IfSome (keys_after kind kept key x) (λ keys. length keys ≤ kept)
after_few kind.Change kept key None l h = tt
after_few kind.Change kept key (Some keys) l h = simp length-take (omega arith)
after_few kind.Base kept key None l h = tt
after_few kind.Base kept key (Some keys) l h = l
after_few kind.Adopt kept key x l h = simp length-take (omega arith)
after_few kind.Lift kept key None l h = tt
after_few kind.Lift kept key (Some keys) l h = rw (length_newest key keys) h
after_few kind.Remove kept key x l h = tt

at_name : (P : Option (List KeyRow) → Type 0) (b : Bool) (x y : Option (List KeyRow)) → P x → P y → P (if b then x else y)
at_name P true x y p q = p
at_name P false x y p q = q

record_few : (s : State) (r : Record) → HoldsFew s → HoldsFew (with_record r s)
record_few s (record_of.Key kind c) few name =
    subst (λ (x : Option (List KeyRow)). IfSome x (λ keys. length keys ≤ kept_count s)) (sym (record_keys s kind c name))
    (at_name (λ (x : Option (List KeyRow)). IfSome x (λ keys. length keys ≤ kept_count s)) (is_same_name c.name name)
    (keys_after kind (kept_count s) c.key (keys_held s name)) (keys_held s name)
    (after_few kind (kept_count s) c.key (keys_held s name) (kept_at_least s.fixed.policy.depth) (few name)) (few name))
record_few s (record_of.Raise count) few name = few name

count_up : (s t : State) (r : Record) → new_count s ≤ new_count t → new_count (with_record r s) ≤ new_count (with_record r t)
count_up s t (record_of.Key kind c) h = h
count_up s t (record_of.Raise count) h = omega (arith, h)

-- ---- all of them

pub restored_kept : (s : State) (rs : List Record) → kept_count (restored s rs) ≡ kept_count s
restored_kept s [] = refl
restored_kept s (r ∷ rs) = restored_kept (with_record r s) rs ∙ record_kept s r

-- the keys of a name after records are those of each state that has the same keys of it
pub restored_alike : (s t : State) (rs : List Record) (name : Name) → kept_count s ≡ kept_count t → keys_held s name ≡ keys_held t name
    → keys_held (restored s rs) name ≡ keys_held (restored t rs) name
restored_alike s t [] name k h = h
restored_alike s t (r ∷ rs) name k h =
    restored_alike (with_record r s) (with_record r t) rs name (record_kept s r ∙ (k ∙ sym (record_kept t r))) (record_alike s t r name k h)

pub restored_few : (s : State) (rs : List Record) → HoldsFew s → HoldsFew (restored s rs)
restored_few s [] few = few
restored_few s (r ∷ rs) few = restored_few (with_record r s) rs (record_few s r few)

pub restored_count : (s t : State) (rs : List Record) → new_count s ≤ new_count t → new_count (restored s rs) ≤ new_count (restored t rs)
restored_count s t [] h = h
restored_count s t (r ∷ rs) h = restored_count (with_record r s) (with_record r t) rs (count_up s t r h)

-- ---- an opening

length_map : {A B : Type 0} (f : A → B) (xs : List A) → length (map f xs) ≡ length xs
length_map f [] = refl
length_map f (x ∷ xs) = ap (λ (n : ℕ). suc n) (length_map f xs)

few_rows : (kept : ℕ) (rows : List PrincipalRow) (name : Name) → IfSome (keys_in (map (opening_principal kept) rows) name) (λ keys. length keys ≤ kept)
few_rows kept [] name = tt
few_rows kept (row ∷ rows) name = at (is_same_name row.name name) refl (few_rows kept rows name)
  where
    at : (b : Bool) → is_same_name row.name name ≡ b → IfSome (keys_in (map (opening_principal kept) rows) name) (λ keys. length keys ≤ kept)
        → IfSome (keys_in (map (opening_principal kept) (row ∷ rows)) name) (λ keys. length keys ≤ kept)
    at true e ih =
        let n : length (map key_row_of (take kept row.keys)) ≡ min kept (length row.keys) =
        length_map key_row_of (take kept row.keys) ∙ length-take kept row.keys in
        rw e (omega (arith, n))
    at false e ih = rw e ih

pub opening_few : (c : Config) (quiet : ℤ) → HoldsFew (opening_of c quiet)
opening_few c quiet name = few_rows (max c.policy.depth 1) c.principals name

-- ---- records that may come next

-- both states have the same keys of a record's principal, or neither has it
abbrev pub IsShared : State → State → Record → Type 0
IsShared s t (record_of.Key kind c) = keys_held s c.name ≡ keys_held t c.name
IsShared s t (record_of.Raise count) = Unit {0}

abbrev pub AreShared : State → State → List Record → Type 0
AreShared s t [] = Unit {0}
AreShared s t (r ∷ rs) = IsShared s t r × AreShared s t rs

pub shared_after : (s t : State) (r : Record) (rs : List Record) → kept_count s ≡ kept_count t → AreShared s t rs → AreShared (with_record r
    s) (with_record r t) rs
shared_after s t r [] k h = tt
shared_after s t r ((record_of.Key kind c) ∷ rs) k h = (record_alike s t r c.name k h.0, shared_after s t r rs k h.1)
shared_after s t r ((record_of.Raise count) ∷ rs) k h = (tt, shared_after s t r rs k h.1)

shared_next : (s t : State) (r : Record) → IsShared s t r → IsNextRecord t r → IsNextRecord s r
shared_next s t (record_of.Key kind c) e n =
    subst (λ (x : Option (List KeyRow)). (is_lacked kind x ≡ false) × (may_follow kind c.key.kvno x ≡ true)) (sym e) n
shared_next s t (record_of.Raise count) e n = tt

-- what may come next in the second may in the first
pub next_shared : (s t : State) (rs : List Record) → kept_count s ≡ kept_count t → AreShared s t rs → AreNext t rs → AreNext s rs
next_shared s t [] k h n = tt
next_shared s t (r ∷ rs) k h n = (
  n.0,
  shared_next s t r h.0 n.1,
  next_shared (with_record r s) (with_record r t) rs (record_kept s r ∙ (k ∙ sym (record_kept t r))) (shared_after s t r rs k h.1) n.2,
)

-- states that have the same keys of each name
pub all_shared : (s t : State) (rs : List Record) → ((name : Name) → keys_held s name ≡ keys_held t name) → AreShared s t rs
all_shared s t [] h = tt
all_shared s t ((record_of.Key kind c) ∷ rs) h = (h c.name, all_shared s t rs h)
all_shared s t ((record_of.Raise count) ∷ rs) h = (tt, all_shared s t rs h)

-- both keep as many keys, and each name of the first has the same keys in the second
pub record Covers (s t : State) : Type 0 where
  pub kept : kept_count s ≡ kept_count t
  pub keys : (name : Name) → IsSome (keys_held s name) → keys_held s name ≡ keys_held t name

no_keys : (x : Option (List KeyRow)) → x ≡ None → IsSome x → ⊥
no_keys None e h = cc
no_keys (Some keys) e h = cc

both_same : (x y : Option (List KeyRow)) → (IsSome x → x ≡ y) → (IsSome y → IsSome x) → x ≡ y
both_same None None h k = refl
both_same None (Some keys) h k = absurd (no_keys None refl (k (search rules)))
both_same (Some keys) y h k = h (search rules)

-- records of no principal that the second holds and the first doesn't
pub known_shared : (s t : State) (rs : List Record) → Covers s t → AreKnown s t rs → AreShared s t rs
known_shared s t [] c h = tt
known_shared s t ((record_of.Key kind k) ∷ rs) c h =
    (both_same (keys_held s k.name) (keys_held t k.name) (c.keys k.name) h.0, known_shared s t rs c h.1)
known_shared s t ((record_of.Raise count) ∷ rs) c h = (tt, known_shared s t rs c h.1)
