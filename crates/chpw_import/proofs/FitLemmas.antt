-- What is brought in is within the limits of a configuration.
use Rattle.std.proofs.Common.{◌≡◌, ◌∙◌, sym, ap, refl, subst, ℕ, ℤ, pos, negsuc, zero, suc, ◌<◌, ◌≤◌, Bool, true}
use Rattle.std.proofs.Common.{false, List, [], ◌∷◌, length, codes, inl, inr, if◌then◌else◌, Option, Some, None, arith}
use Rattle.std.specs.Prelude.{nat_lt}
use Rattle.std.specs.Cmp.{IsTotalOrder}
use Rattle.std.specs.List.{AllByRecursion, list_all}
use Rattle.std.specs.Map.{lookup}
use Rattle.std.specs.Option.{unwrap_or}
use Rattle.std.specs.Ordering.{eq_by_cmp}
use Rattle.std.proofs.lemmas.Bool.{and_from, and_parts, cases_lt, eq-eqb, eqb-true, le-leb}
use Rattle.std.proofs.lemmas.Bool.Decides.{nat_tests}
use Rattle.std.proofs.lemmas.Cmp.{back_total, int_cmp_total, nat_cmp_total, on_total, then_total}
use Rattle.std.proofs.lemmas.List.{length-take}
use Rattle.std.proofs.lemmas.Option.{same_Some}
use Rattle.krb_keys.specs.declared.key.Key.{Key}
use Rattle.krb_keys.specs.declared.key.Key.TheVariants.{Aes128, Aes256}
use Rattle.krb_keytab.specs.declared.entry.KeytabEntry.{KeytabEntry}
use Rattle.chpw_rules.specs.declared.name.Name.{Name}
use Rattle.chpw_rules.specs.declared.config.KeyBytes.{KeyBytes}
use Rattle.chpw_rules.specs.declared.config.PrincipalRow.{PrincipalRow}
use Rattle.chpw_rules.specs.declared.config.ServiceRow.{ServiceRow}
use Rattle.chpw_rules.specs.Fitting.{descend_from, is_same_etype, is_same_principal, is_same_service_key, key_fits}
use Rattle.chpw_rules.specs.Fitting.{kvnos_descend, principal_fits, principals_fit, service_fits, service_key_fits}
use Rattle.chpw_rules.specs.Limits.{is_in, iteration_counts, kvnos, principal_counts}
use Rattle.chpw_rules.specs.Names.{is_name, name_cmp}
use Rattle.chpw_import.specs.declared.slot.Slot.{Slot}
use Rattle.chpw_import.specs.declared.slot.Found.{Found}
use Rattle.chpw_import.specs.Keytabs.{ArePrincipals, AreServiceKeys}
use Rattle.chpw_import.specs.Rows.{ahead, first_principals, first_rows, first_service_rows, is_service}
use Rattle.chpw_import.specs.Rows.{keys_from, pair_for, pair_of, row_for, row_with, service_row, slot_at}
use Rattle.chpw_import.specs.Tables.{HasKvno, latest, newest, slot_cmp}
use Rattle.chpw_import.proofs.EntryLemmas.{latest_fits, newest_named, newest_small, row_at}
use Rattle.chpw_import.proofs.OrderLemmas.{all_rows, distinct, in_order, sorted_rows, stored, tested}
use Rattle.chpw_import.proofs.RowLemmas.{no_more}
use Rattle.chpw_import.proofs.SlotLemmas.{name_exact, names_total}

few : {A B : Type 0} (row : A → Option B) (limit : ℕ) (xs : List A) → length (first_rows row limit xs) ≤ limit
unfolding first_rows
few row limit xs = rw length-take (omega arith)

-- ---- the service

slots_total : IsTotalOrder slot_cmp
slots_total = then_total (on_total (λ (s : Slot). s.name) names_total)
    (then_total (back_total (on_total (λ (s : Slot). s.kvno.0) nat_cmp_total)) (back_total (on_total (λ (s : Slot). s.etype.0) int_cmp_total)))

abbrev service_name : Name
service_name = record { parts = codes "kadmin" ∷ codes "changepw" ∷ [] }

service_is : (name : Name) → is_service name ≡ true → name ≡ service_name
unfolding is_service
service_is name h = name_exact name service_name h

-- what a row is made of
abbrev slot_of : ServiceRow → Slot
slot_of row = slot_at service_name row.kvno row.etype

made_of : (is : Bool) (p : Slot × Found) (y : ServiceRow) → (if is then Some (row_at p.0 p.1.key) else None) ≡ Some y → (is ≡ true) × (row_at p.0 p.1.key ≡ y)
made_of true p y h = (refl, same_Some _ y h)
made_of false p y h = cc

slot_kept : (p : Slot × Found) (y : ServiceRow) → service_row p ≡ Some y → slot_of y ≡ p.0
slot_kept p y h =
    let (is, row) = made_of (is_service p.0.name) p y h in
    sym (ap slot_of row) ∙ ap (λ (n : Name). slot_at n p.0.kvno.0 p.0.etype.0) (sym (service_is p.0.name is))

same_etype : (y z : ℤ) → is_same_etype y z ≡ true → y ≡ z
same_etype (pos a) (pos b) h = ap pos (eqb-true a b h)
same_etype (pos a) (negsuc b) h = cc
same_etype (negsuc a) (pos b) h = cc
same_etype (negsuc a) (negsuc b) h = ap negsuc (eqb-true a b h)

same_slot : (a b : ServiceRow) → is_same_service_key a b ≡ true → slot_of a ≡ slot_of b
same_slot a b h =
    let (types, versions) = and_parts _ _ h in
    let t : a.etype ≡ b.etype = same_etype a.etype b.etype types in
    let v : a.kvno ≡ b.kvno = eqb-true a.kvno b.kvno versions in
    cc

pub keys_fit : (realm : List ℕ) (es : List KeytabEntry) (rows : List ServiceRow)
    → AllByRecursion HasKvno es → AreServiceKeys realm es rows → service_fits rows ≡ true
keys_fit realm es rows small are = subst (λ (ys : List ServiceRow). service_fits ys ≡ true) (sym are.first)
    (and_from _ _ (and_from _ _ (le-leb _ 16 (few service_row 16 are.slots)) fitting)
    (distinct slot_cmp slots_total slot_of is_same_service_key same_slot (first_service_rows are.slots)
    (sorted_rows service_row slot_cmp (λ p. p.0) slot_of slot_kept 16 are.slots are.sorted)))
  where
    gives : (p : Slot × Found) (y : ServiceRow) → service_row p ≡ Some y → lookup (eq_by_cmp slot_cmp p.0) are.slots ≡ Some p.1 → service_key_fits y ≡ true
    gives p y h held = subst (λ (r : ServiceRow). service_key_fits r ≡ true) (made_of (is_service p.0.name) p y h).1
        (latest_fits realm p.0 p.1 0 es small (sym (are.last p.0) ∙ held))

    fitting : list_all service_key_fits (first_service_rows are.slots) ≡ true
    fitting = tested service_key_fits _ (all_rows service_row (λ p. lookup (eq_by_cmp slot_cmp p.0) are.slots ≡ Some p.1) (λ y. service_key_fits y ≡ true) gives
        16 are.slots (stored slot_cmp slots_total are.slots are.sorted))

-- ---- the keys of a principal

pair_is : (kvno iterations : ℕ) (a b : Option Key) (key : KeyBytes) → pair_of kvno iterations a b ≡ Some key → (key.kvno ≡ kvno) × (key.iterations ≡ iterations)
pair_is kvno iterations (Some (Aes128 x)) (Some (Aes256 y)) key h =
    let is = same_Some _ key h in
    (sym (ap (λ (k : KeyBytes). k.kvno) is), sym (ap (λ (k : KeyBytes). k.iterations) is))
pair_is kvno iterations a b key h = cc

below_next : (m n : ℕ) → m ≡ n → nat_lt m (suc n) ≡ true
below_next m n h = grind (arith, nat_tests)

module _ (pair : ℕ → Option KeyBytes) (iterations : ℕ)
    (are : (kvno : ℕ) (key : KeyBytes) → pair kvno ≡ Some key → (key.kvno ≡ kvno) × (key.iterations ≡ iterations)) where
  all_fit : is_in iteration_counts iterations ≡ true → (count kvno : ℕ) → kvno ≤ kvnos.high → list_all key_fits (keys_from pair count kvno) ≡ true
  unfolding keys_from
  all_fit within zero kvno small = refl
  all_fit within (suc count) zero small = refl
  all_fit within (suc count) (suc below) small = at (pair (suc below)) refl (all_fit within count below (omega arith))
    where
      at : (r : Option KeyBytes) → pair (suc below) ≡ r → list_all key_fits (keys_from pair count below) ≡ true
          → list_all key_fits (ahead r (keys_from pair count below)) ≡ true
      at None e others = refl
      at (Some key) e others =
          let (version, count) = are (suc below) key e in
          and_from _ _ (and_from _ _ (and_from _ _ (le-leb 1 key.kvno (omega arith)) (le-leb key.kvno kvnos.high (omega arith)))
          (subst (λ (n : ℕ). is_in iteration_counts n ≡ true) (sym count) within)) others

  descending : (count kvno : ℕ) → descend_from (suc kvno) (keys_from pair count kvno) ≡ true
  unfolding keys_from
  descending zero kvno = refl
  descending (suc count) zero = refl
  descending (suc count) (suc below) = at (pair (suc below)) refl (descending count below)
    where
      at : (r : Option KeyBytes) → pair (suc below) ≡ r → descend_from (suc below) (keys_from pair count below) ≡ true
          → descend_from (suc (suc below)) (ahead r (keys_from pair count below)) ≡ true
      at None e others = refl
      at (Some key) e others =
          let version : key.kvno ≡ suc below = (are (suc below) key e).0 in
          and_from _ _ (below_next key.kvno (suc below) version) (subst (λ (k : ℕ). descend_from k (keys_from pair count below) ≡ true) (sym version) others)

few_keys : (pair : ℕ → Option KeyBytes) (count kvno : ℕ) → length (keys_from pair count kvno) ≤ count
unfolding keys_from
few_keys pair zero kvno = omega arith
few_keys pair (suc count) zero = omega arith
few_keys pair (suc count) (suc below) = at (pair (suc below)) (few_keys pair count below)
  where
    at : (r : Option KeyBytes) → length (keys_from pair count below) ≤ count → length (ahead r (keys_from pair count below)) ≤ suc count
    at None h = omega arith
    at (Some key) h = omega arith

-- ---- a principal

-- a row of keys that there are
made_with : (is : Bool) (name : Name) (ks : List KeyBytes) (y : PrincipalRow) → (if is then None else row_with name ks) ≡ Some y
    → (0 < length ks) × (record { name = name; keys = ks } ≡ y)
made_with true name ks y h = cc
made_with false name [] y h = cc
made_with false name (key ∷ others) y h = (omega arith, same_Some _ y h)

versions_descend : (newest : ℕ) (keys : List KeyBytes) → descend_from (suc newest) keys ≡ true → kvnos_descend keys ≡ true
versions_descend newest [] h = refl
versions_descend newest (key ∷ keys) h = (and_parts _ _ h).1

row_fits : (keys : Slot → Option Found) (iterations : ℕ) (p : Name × ℕ) (y : PrincipalRow) → is_in iteration_counts iterations ≡ true
    → p.1 ≤ kvnos.high → (0 < p.1 → is_name p.0 ≡ true) → row_for keys iterations p ≡ Some y → principal_fits y ≡ true
row_fits keys iterations p y within small named h =
    let pair : ℕ → Option KeyBytes = pair_for keys iterations p.0 in
    let are : (kvno : ℕ) (key : KeyBytes) → pair kvno ≡ Some key → (key.kvno ≡ kvno) × (key.iterations ≡ iterations)
    = λ (kvno : ℕ) (key : KeyBytes) (e : pair kvno ≡ Some key). pair_is kvno iterations _ _ key e in
    let (one, is) = made_with (is_service p.0) p.0 (keys_from pair 16 p.1) y h in
    let some : 0 < p.1 = elim (cases_lt 0 p.1) [ inl m ↦ m | inr m ↦ absurd (omega (arith, one, ap length (no_more pair 16 p.1 (omega arith)))) ] in
    subst (λ (r : PrincipalRow). principal_fits r ≡ true) is
    (and_from _ _ (and_from _ _ (and_from _ _ (named some) (and_from _ _ (le-leb 1 _ one) (le-leb _ 16 (few_keys pair 16 p.1))))
    (all_fit pair iterations are within 16 p.1 small)) (versions_descend p.1 _ (descending pair iterations are 16 p.1)))

pub rows_fit : (realm : List ℕ) (iterations : ℕ) (es : List KeytabEntry) (rows : List PrincipalRow)
    → AllByRecursion HasKvno es → is_in iteration_counts iterations ≡ true
    → ArePrincipals realm iterations es rows → principals_fit rows ≡ true
rows_fit realm iterations es rows small within are =
    let row : Name × ℕ → Option PrincipalRow = row_for (λ s. latest realm s 0 es) iterations in
    subst (λ (ys : List PrincipalRow). principals_fit ys ≡ true) (sym are.first)
    (and_from _ _ (and_from _ _ (counted (first_rows row 10000 are.names) (few row 10000 are.names)) fitting)
    (distinct name_cmp names_total (λ y. y.name) is_same_principal (λ a b e. name_exact a.name b.name e) (first_rows row 10000 are.names)
    (in_order (λ s. latest realm s 0 es) iterations _ are.names refl are.sorted)))
  where
    counted : (ys : List PrincipalRow) → length ys ≤ 10000 → is_in principal_counts (length ys) ≡ true
    counted ys h = and_from _ _ (le-leb 0 (length ys) (omega arith)) (le-leb (length ys) 10000 h)

    gives : (p : Name × ℕ) (y : PrincipalRow) → row_for (λ s. latest realm s 0 es) iterations p ≡ Some y → lookup (eq_by_cmp name_cmp p.0) are.names ≡ Some p.1
        → principal_fits y ≡ true
    gives p y h held =
        let newest_is : newest realm p.0 es ≡ p.1 = sym (are.versions p.0) ∙ ap (λ (v : Option ℕ). unwrap_or v 0) held in
        row_fits (λ s. latest realm s 0 es) iterations p y within (subst (λ (k : ℕ). k ≤ kvnos.high) newest_is (newest_small realm p.0 es small))
        (λ some. newest_named realm p.0 es (subst (λ (k : ℕ). 0 < k) (sym newest_is) some)) h

    fitting : list_all principal_fits (first_principals (λ s. latest realm s 0 es) iterations are.names) ≡ true
    fitting = tested principal_fits _ (all_rows (row_for (λ s. latest realm s 0 es) iterations) (λ p. lookup (eq_by_cmp name_cmp p.0) are.names ≡ Some p.1)
        (λ y. principal_fits y ≡ true) gives 10000 are.names (stored name_cmp names_total are.names are.sorted))
