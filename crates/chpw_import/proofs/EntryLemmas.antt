-- What the keys and the versions that entries offer are: within the limits of a configuration.
use Rattle.std.proofs.Common.{◌≡◌, ◌∙◌, sym, ap, refl, subst, ℕ, ℤ, pos, ◌+◌, ◌<◌, ◌≤◌, Bool}
use Rattle.std.proofs.Common.{true, false, not, ◌&&◌, ◌==◌, List, [], ◌∷◌, length, if◌then◌else◌}
use Rattle.std.proofs.Common.{Option, Some, None, Result, Ok, Err, inl, inr, arith, tests}
use Rattle.std.specs.List.{AllByRecursion}
use Rattle.std.specs.Option.{ok_or}
use Rattle.std.specs.Ordering.{eq_by_cmp, int_eq}
use Rattle.std.proofs.lemmas.Bool.{and_from, and_parts, cases_lt, le-leb}
use Rattle.std.proofs.lemmas.Bool.Decides.{Decides-int_eq}
use Rattle.std.proofs.lemmas.Option.{same_Some}
use Rattle.krb_keys.specs.declared.key.Key.{Key}
use Rattle.krb_keys.specs.declared.key.Key.TheVariants.{Aes128, Aes256}
use Rattle.krb_keys.specs.Keys.{bytes_of, key_of}
use Rattle.krb_keytab.specs.declared.entry.KeytabEntry.{KeytabEntry}
use Rattle.chpw_rules.specs.declared.name.Name.{Name}
use Rattle.chpw_rules.specs.declared.config.ServiceRow.{ServiceRow}
use Rattle.chpw_rules.specs.Fitting.{is_aes_key, service_key_fits}
use Rattle.chpw_rules.specs.Limits.{kvnos}
use Rattle.chpw_rules.specs.Names.{is_name, is_same_name}
use Rattle.chpw_import.specs.declared.left.Reason.{Reason}
use Rattle.chpw_import.specs.declared.left.Reason.TheVariants.{OtherRealm, BadName, NoVersion, OtherType, KeyLength}
use Rattle.chpw_import.specs.declared.slot.Slot.{Slot}
use Rattle.chpw_import.specs.declared.slot.Found.{Found}
use Rattle.chpw_import.specs.Entries.{is_aes, key_in, named}
use Rattle.chpw_import.specs.Tables.{HasKvno, found_in, is_older, last_of_two, latest, newest, offered, slot_cmp, slot_in, version_of}
use Rattle.chpw_import.proofs.SlotLemmas.{name_exact, slot_exact}

-- ---- the name and the version of an entry

named_parts : (other good none : Bool) (n name : Name)
    → (if not other then Err OtherRealm else if not good then Err BadName else if none then Err NoVersion else Ok n) ≡ Ok name
    → (good ≡ true) × (none ≡ false) × (n ≡ name)
named_parts false good none n name h = cc
named_parts true false none n name h = cc
named_parts true true true n name h = cc
named_parts true true false n name h = (refl, refl, cc)

-- a name that a configuration can have, and a version from 1 on
named_well : (realm : List ℕ) (e : KeytabEntry) (name : Name) → named realm e ≡ Ok name → (is_name name ≡ true) × (0 < e.kvno)
unfolding named
named_well realm e name h =
    let (good, some, is) = named_parts _ _ _ _ name h in
    (subst (λ (n : Name). is_name n ≡ true) is (and_parts _ _ good).0, grind (arith, tests))

-- ---- its key

key_parts : (z : ℤ) (bytes : List ℕ) (key : Key) → key_of z bytes ≡ Some key → is_aes_key z (bytes_of key) ≡ true
key_parts z bytes key h = at (int_eq z (pos 17) && (length bytes == 16)) (int_eq z (pos 18) && (length bytes == 32)) refl refl h
  where
    of_type : (n : ℤ) (k : Key) → int_eq z n ≡ true → Some k ≡ Some key → is_aes_key n (bytes_of k) ≡ true → is_aes_key z (bytes_of key) ≡ true
    of_type n k e f well = subst (λ (y : ℤ). is_aes_key y (bytes_of key) ≡ true) (sym ((Decides-int_eq z n).0 e))
        (subst (λ (x : Key). is_aes_key n (bytes_of x) ≡ true) (same_Some k key f) well)

    at : (a b : Bool) → (int_eq z (pos 17) && (length bytes == 16)) ≡ a → (int_eq z (pos 18) && (length bytes == 32)) ≡ b
        → (if a then Some (Aes128 bytes) else if b then Some (Aes256 bytes) else None) ≡ Some key → is_aes_key z (bytes_of key) ≡ true
    at true b e f h = let (type, size) = and_parts _ _ e in of_type (pos 17) (Aes128 bytes) type h size
    at false true e f h = let (type, size) = and_parts _ _ f in of_type (pos 18) (Aes256 bytes) type h size
    at false false e f h = cc

key_well : (e : KeytabEntry) (key : Key) → key_in e ≡ Ok key → is_aes_key e.etype (bytes_of key) ≡ true
unfolding key_in
key_well e key h = at (is_aes e.etype) (key_of e.etype e.key.items) refl h
  where
    at : (aes : Bool) (found : Option Key) → key_of e.etype e.key.items ≡ found
        → (if not aes then Err OtherType else ok_or found KeyLength) ≡ Ok key → is_aes_key e.etype (bytes_of key) ≡ true
    at false found f h = cc
    at true None f h = cc
    at true (Some k) f h = key_parts e.etype e.key.items key (f ∙ cc)

-- ---- the key of a slot

-- the row that a key of a slot makes
abbrev pub row_at : Slot → Key → ServiceRow
row_at s key = record { kvno = s.kvno.0; etype = s.etype.0; key = bytes_of key }

entry_fits : (realm : List ℕ) (e : KeytabEntry) (name : Name) (key : Key) → named realm e ≡ Ok name → key_in e ≡ Ok key → HasKvno e
    → service_key_fits (row_at (slot_in name e) key) ≡ true
entry_fits realm e name key n k small =
    let some : 0 < e.kvno = (named_well realm e name n).1 in
    and_from _ _ (and_from _ _ (le-leb 1 e.kvno (omega arith)) (le-leb e.kvno kvnos.high small)) (key_well e key k)

offered_fits : (realm : List ℕ) (s : Slot) (index : ℕ) (e : KeytabEntry) (found : Found) (n : Result Name Reason) (k : Result Key Reason)
    → named realm e ≡ n → key_in e ≡ k → HasKvno e → offered s index e n k ≡ Some found → service_key_fits (row_at s found.key) ≡ true
offered_fits realm s index e found (Err why) k f g small h = cc
offered_fits realm s index e found (Ok name) (Err why) f g small h = cc
offered_fits realm s index e found (Ok name) (Ok key) f g small h = at (eq_by_cmp slot_cmp (slot_in name e) s) refl h
  where
    at : (same : Bool) → eq_by_cmp slot_cmp (slot_in name e) s ≡ same
        → (if same then Some (record { index = index; timestamp = e.timestamp; key = key }) else None) ≡ Some found
        → service_key_fits (row_at s found.key) ≡ true
    at false same h = cc
    at true same h =
        let is : key ≡ found.key = ap (λ (x : Found). x.key) (same_Some _ found h) in
        subst (λ (k : Key). service_key_fits (row_at s k) ≡ true) is
        (subst (λ (t : Slot). service_key_fits (row_at t key) ≡ true) (slot_exact (slot_in name e) s same) (entry_fits realm e name key f g small))

one_of_two : (P : Found → Type 0) (held next : Option Found) (found : Found) → last_of_two held next ≡ Some found
    → (held ≡ Some found → P found) → (next ≡ Some found → P found) → P found
one_of_two P held None found h a b = a h
one_of_two P None (Some x) found h a b = b h
one_of_two P (Some y) (Some x) found h a b = at (is_older (Some y) x) h
  where
    at : (older : Bool) → (if older then Some y else Some x) ≡ Some found → P found
    at true e = a e
    at false e = b e

pub latest_fits : (realm : List ℕ) (s : Slot) (found : Found) (index : ℕ) (es : List KeytabEntry) → AllByRecursion HasKvno es
    → latest realm s index es ≡ Some found → service_key_fits (row_at s found.key) ≡ true
latest_fits realm s found index [] small h = cc
latest_fits realm s found index (e ∷ es) small h =
    one_of_two (λ f. service_key_fits (row_at s f.key) ≡ true) (found_in realm s index e) (latest realm s (index + 1) es) found h
    (offered_fits realm s index e found (named realm e) (key_in e) refl refl small.0) (latest_fits realm s found (index + 1) es small.1)

-- ---- the newest version of a name

version_well : (realm : List ℕ) (n : Name) (e : KeytabEntry) (r : Result Name Reason) → named realm e ≡ r → 0 < version_of n e r → is_name n ≡ true
version_well realm n e (Err why) f h = absurd (omega arith)
version_well realm n e (Ok other) f h = at (is_same_name other n) refl h
  where
    at : (same : Bool) → is_same_name other n ≡ same → 0 < (if same then e.kvno else 0) → is_name n ≡ true
    at false same h = absurd (omega arith)
    at true same h = subst (λ (m : Name). is_name m ≡ true) (name_exact other n same) (named_well realm e other f).0

-- a name that has one is a configuration's
pub newest_named : (realm : List ℕ) (n : Name) (es : List KeytabEntry) → 0 < newest realm n es → is_name n ≡ true
newest_named realm n [] h = absurd (omega arith)
newest_named realm n (e ∷ es) h = elim (cases_lt 0 (newest realm n es)) [
  | inl some ↦ newest_named realm n es some
  | inr none ↦ version_well realm n e (named realm e) refl (omega arith)
]

version_small : (n : Name) (e : KeytabEntry) (r : Result Name Reason) → HasKvno e → version_of n e r ≤ kvnos.high
version_small n e (Err why) small = omega arith
version_small n e (Ok other) small = at (is_same_name other n)
  where
    at : (same : Bool) → (if same then e.kvno else 0) ≤ kvnos.high
    at true = small
    at false = omega arith

pub newest_small : (realm : List ℕ) (n : Name) (es : List KeytabEntry) → AllByRecursion HasKvno es → newest realm n es ≤ kvnos.high
newest_small realm n [] small = omega arith
newest_small realm n (e ∷ es) small =
    let here : version_of n e (named realm e) ≤ kvnos.high = version_small n e (named realm e) small.0 in
    let others : newest realm n es ≤ kvnos.high = newest_small realm n es small.1 in
    omega arith
