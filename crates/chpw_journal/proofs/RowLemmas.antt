-- Which states hold keys in a row.
use Rattle.std.proofs.Common.{◌≡◌, ℕ, zero, suc, ◌+◌, ◌≤◌, ◌<◌, max, List, [], ◌∷◌, map, take, length, Bool, true}
use Rattle.std.proofs.Common.{false, if◌then◌else◌, Option, Some, None, refl, sym, ◌∙◌, ap, subst, arith}
use Rattle.std.specs.Prelude.{IfSome, ◌==◌, nat_lt}
use Rattle.std.specs.List.{list_all}
use Rattle.std.proofs.lemmas.Bool.Decides.{nat_tests}
use Rattle.std.proofs.lemmas.List.{length-take}
use Rattle.chpw_rules.specs.declared.name.Name.{Name}
use Rattle.chpw_rules.specs.declared.config.KeyBytes.{KeyBytes}
use Rattle.chpw_rules.specs.declared.config.PrincipalRow.{PrincipalRow}
use Rattle.chpw_rules.specs.Names.{is_name, is_same_name}
use Rattle.chpw_rules.specs.Limits.{is_in, key_counts, kvnos, iteration_counts}
use Rattle.chpw_rules.specs.Fitting.{key_fits, descend_from, kvnos_descend, principal_fits}
use Rattle.chpw_record.specs.declared.key.KeyRow.{KeyRow}
use Rattle.chpw_table.specs.State.{Fixed, State, keys_held, kept_count, new_count, key_row_of, opening_principal}
use Rattle.chpw_table.specs.Decision.{newest_kvno}
use Rattle.chpw_table.specs.Updates.{keys_after, with_newest}
use Rattle.chpw_table.proofs.BoolLemmas.{and_left, and_right}
use Rattle.chpw_table.proofs.HoldingLemmas.{kept_at_least, principals_of_fits}
use Rattle.chpw_table.proofs.KeyLemmas.{keys_in}
use Rattle.chpw_table.proofs.UpdateLemmas.{same_held}
use Rattle.chpw_record.specs.declared.record.PrincipalKey.{PrincipalKey}
use Rattle.chpw_record.specs.declared.record.KeyKind.{KeyKind}
use Rattle.chpw_record.specs.declared.record.KeyKind.TheVariants as kind
use Rattle.chpw_record.specs.declared.record.Record.{Record}
use Rattle.chpw_record.specs.declared.record.Record.TheVariants as record_of
use Rattle.chpw_record.specs.Records.{ChangeFits, RecordFits}
use Rattle.chpw_journal.specs.JournalText.{with_record, restored, may_follow, IsNextRecord}
use Rattle.chpw_journal.specs.Runs.{SameKeys, records_in, last_state}
use Rattle.chpw_journal.specs.Compact.{KeyInRange, IsAfter, AreInRow, AreKeptInRow, HoldsInRow}
use Rattle.chpw_journal.specs.CompactLaws.{OpeningsHoldInRow, RunsHoldInRow, RestoredHoldInRow, AgreeHoldInRow, RunsMayCompact}
use Rattle.chpw_journal.proofs.CountLemmas.{count_runs}
use Rattle.chpw_journal.proofs.CoverLemmas.{record_keys, restored_kept}
use Rattle.chpw_journal.proofs.JoinedLemmas.{tables_may_open}
use Rattle.chpw_journal.proofs.RunLemmas.{Follows, runs_next, same_itself}

-- ---- rows of keys

row_taken : (n : ℕ) (keys : List KeyRow) → AreInRow keys → AreInRow (take n keys)
row_taken zero keys h = tt
row_taken (suc n) [] h = tt
row_taken (suc n) (k ∷ ks) h = (h.0, after n ks h.1, row_taken n ks h.2)
  where
    after : (m : ℕ) (older : List KeyRow) → IsAfter k older → IsAfter k (take m older)
    after zero older a = tt
    after (suc m) [] a = tt
    after (suc m) (l ∷ ls) a = a

length_taken : (n : ℕ) (keys : List KeyRow) → 1 ≤ n → 1 ≤ length keys → (1 ≤ length (take n keys)) × (length (take n keys) ≤ n)
length_taken n keys a b = let t = length-take n keys in (omega (arith, t, a, b), omega (arith, t))

key_of_change : (c : PrincipalKey) → ChangeFits c → KeyInRange c.key
key_of_change c f = record { kvno = f.kvno; count = f.count }

lower : (m n : ℕ) → nat_lt m n ≡ true → m < n
lower m n h = grind (arith, nat_tests)

after_newest : (key : KeyRow) (keys : List KeyRow) → newest_kvno keys < key.kvno → IsAfter key keys
after_newest key [] h = tt
after_newest key (k ∷ ks) h = h

next_above : (m n : ℕ) → (m == n + 1) ≡ true → n < m
next_above m n h = grind (arith, nat_tests)

-- a higher key in front of others in a row, of which the newest are kept
put_in_row : (kept : ℕ) (c : PrincipalKey) (keys : List KeyRow) → 1 ≤ kept → ChangeFits c → IsAfter c.key keys → AreInRow keys
    → AreKeptInRow kept (take kept (c.key ∷ keys))
put_in_row kept c keys low f next w =
    let many = length_taken kept (c.key ∷ keys) low (omega arith) in
    record { some = many.0; few = many.1; row = row_taken kept (c.key ∷ keys) (key_of_change c f, next, w) }

-- and in place of the newest
lift_in_row : (kept : ℕ) (c : PrincipalKey) (keys : List KeyRow) → ChangeFits c → newest_kvno keys < c.key.kvno
    → AreKeptInRow kept keys → AreKeptInRow kept (with_newest c.key keys)
lift_in_row kept c [] f h w = w
lift_in_row kept c (k ∷ ks) f h w = record { some = w.some; few = w.few; row = (key_of_change c f, above ks w.row.1, w.row.2) }
  where
    above : (older : List KeyRow) → IsAfter k older → IsAfter c.key older
    above [] a = tt
    above (l ∷ ls) a = omega (arith, a, h)

-- ---- one record

after_in_row : (kind : KeyKind) (c : PrincipalKey) (kept : ℕ) (x : Option (List KeyRow)) → 1 ≤ kept → ChangeFits c → may_follow kind c.key.kvno x ≡ true
    → IfSome x (AreKeptInRow kept) → IfSome (keys_after kind kept c.key x) (AreKeptInRow kept)
after_in_row kind.Change c kept None low f n w = tt
after_in_row kind.Change c kept (Some keys) low f n w =
    put_in_row kept c keys low f (after_newest c.key keys (next_above c.key.kvno (newest_kvno keys) n)) w.row
after_in_row kind.Base c kept None low f n w = tt
after_in_row kind.Base c kept (Some keys) low f n w = record { some = omega arith; few = low; row = (key_of_change c f, tt, tt) }
after_in_row kind.Adopt c kept None low f n w = put_in_row kept c [] low f tt tt
after_in_row kind.Adopt c kept (Some keys) low f n w = put_in_row kept c keys low f (after_newest c.key keys (lower (newest_kvno keys) c.key.kvno n)) w.row
after_in_row kind.Lift c kept None low f n w = tt
after_in_row kind.Lift c kept (Some keys) low f n w = lift_in_row kept c keys f (lower (newest_kvno keys) c.key.kvno n) w
after_in_row kind.Remove c kept x low f n w = tt

record_in_row : (s : State) (r : Record) → HoldsInRow s → RecordFits r → IsNextRecord s r → HoldsInRow (with_record r s)
record_in_row s (record_of.Key kind c) w f n name =
    subst (λ (o : Option (List KeyRow)). IfSome o (AreKeptInRow (kept_count s))) (sym (record_keys s kind c name)) (at (is_same_name c.name name) refl)
  where
    at : (b : Bool) → is_same_name c.name name ≡ b
        → IfSome (if b then keys_after kind (kept_count s) c.key (keys_held s name) else keys_held s name) (AreKeptInRow (kept_count s))
    at true e =
        after_in_row kind c (kept_count s) (keys_held s name) (kept_at_least s.fixed.policy.depth) f
        (subst (λ (o : Option (List KeyRow)). may_follow kind c.key.kvno o ≡ true) (same_held s c.name name e) n.1) (w name)
    at false e = w name
record_in_row s (record_of.Raise count) w f n name = w name

pub restored_hold_in_row : RestoredHoldInRow
restored_hold_in_row s [] w n = w
restored_hold_in_row s (r ∷ rs) w n = restored_hold_in_row (with_record r s) rs (record_in_row s r w n.0 n.1) n.2

-- ---- states with the same keys, and runs

same_hold_in_row : (s t : State) → SameKeys s t → HoldsInRow s → HoldsInRow t
same_hold_in_row s t h w name =
    subst (λ (kept : ℕ). IfSome (keys_held t name) (AreKeptInRow kept)) h.kept
    (subst (λ (o : Option (List KeyRow)). IfSome o (AreKeptInRow (kept_count s))) (h.keys name) (w name))

pub agree_hold_in_row : AgreeHoldInRow
agree_hold_in_row s t a w =
    same_hold_in_row s t (record { kept = ap (λ (f : Fixed). max f.policy.depth 1) (sym a.fixed); keys = λ name. sym (a.principals name) }) w

pub runs_hold_in_row : RunsHoldInRow
runs_hold_in_row s runs f w =
    let follows : Follows s (records_in runs) (last_state s runs) = runs_next s s runs (same_itself s) f.each in
    same_hold_in_row (restored s (records_in runs)) (last_state s runs) follows.1 (restored_hold_in_row s (records_in runs) w follows.0)

-- records never lower the count
pub count_grows : (s : State) (rs : List Record) → new_count s ≤ new_count (restored s rs)
count_grows s [] = omega arith
count_grows s ((record_of.Key kind c) ∷ rs) = count_grows (with_record (record_of.Key kind c) s) rs
count_grows s ((record_of.Raise count) ∷ rs) = let more = count_grows (with_record (record_of.Raise count) s) rs in omega (arith, more)

pub runs_may_compact : RunsMayCompact
runs_may_compact opening s held runs f a w kept low order whole =
    let follows : Follows s (records_in runs) (last_state s runs) = runs_next s s runs (same_itself s) f.each in
    let count : new_count (restored s (records_in runs)) ≡ new_count (last_state s runs) = count_runs s s runs f.each f.counts (omega arith) in
    let same : new_count held ≡ new_count (last_state s runs) = a.count in (
      record {
        sound = (tables_may_open s runs held f a).sound;
        row = agree_hold_in_row (last_state s runs) held a (runs_hold_in_row s runs f w);
        whole = whole;
        kept = kept ∙ (sym (restored_kept s (records_in runs)) ∙ (follows.1.kept ∙ ap (λ (x : Fixed). max x.policy.depth 1) (sym a.fixed)));
        order = order;
      },
      omega (arith, low, count, same, count_grows s (records_in runs)),
    )

-- ---- openings

counted : (n : ℕ) → is_in key_counts n ≡ true → 1 ≤ n
counted n h = grind (arith, nat_tests)

row_of_bytes : (n : ℕ) (keys : List KeyBytes) → list_all key_fits keys ≡ true → kvnos_descend keys ≡ true → AreInRow (map key_row_of (take n keys))
row_of_bytes zero keys f d = tt
row_of_bytes (suc n) [] f d = tt
row_of_bytes (suc n) (k ∷ ks) f d = (fits, after n ks d, row_of_bytes n ks (and_right (key_fits k) (list_all key_fits ks) f) (later ks d))
  where
    fits : KeyInRange (key_row_of k)
    fits =
        let g = and_left (key_fits k) (list_all key_fits ks) f in
        record {
          kvno = and_left (is_in kvnos k.kvno) (is_in iteration_counts k.iterations) g;
          count = and_right (is_in kvnos k.kvno) (is_in iteration_counts k.iterations) g;
        }

    after : (m : ℕ) (older : List KeyBytes) → descend_from k.kvno older ≡ true → IsAfter (key_row_of k) (map key_row_of (take m older))
    after zero older h = tt
    after (suc m) [] h = tt
    after (suc m) (l ∷ ls) h = lower l.kvno k.kvno (and_left (nat_lt l.kvno k.kvno) (descend_from l.kvno ls) h)

    later : (older : List KeyBytes) → descend_from k.kvno older ≡ true → kvnos_descend older ≡ true
    later [] h = refl
    later (l ∷ ls) h = and_right (nat_lt l.kvno k.kvno) (descend_from l.kvno ls) h

length_map : {A B : Type 0} (f : A → B) (xs : List A) → length (map f xs) ≡ length xs
length_map f [] = refl
length_map f (x ∷ xs) = let ih = length_map f xs in omega (arith, ih)

row_in_row : (kept : ℕ) (row : PrincipalRow) → 1 ≤ kept → principal_fits row ≡ true → AreKeptInRow kept (map key_row_of (take kept row.keys))
row_in_row kept row low h =
    let many : 1 ≤ length row.keys =
    counted (length row.keys) (and_right (is_name row.name) (is_in key_counts (length row.keys))
    (and_left _ (list_all key_fits row.keys) (and_left _ (kvnos_descend row.keys) h))) in
    let m = length_map key_row_of (take kept row.keys) in
    let t = length-take kept row.keys in
    record {
      some = omega (arith, m, t, many, low);
      few = omega (arith, m, t);
      row = row_of_bytes kept row.keys (and_right _ _ (and_left _ _ h)) (and_right _ _ h);
    }

rows_in_row : (kept : ℕ) (rows : List PrincipalRow) → 1 ≤ kept → list_all principal_fits rows ≡ true → (name : Name)
    → IfSome (keys_in (map (opening_principal kept) rows) name) (AreKeptInRow kept)
rows_in_row kept [] low h name = tt
rows_in_row kept (row ∷ rows) low h name = at (is_same_name row.name name) refl
    (rows_in_row kept rows low (and_right (principal_fits row) (list_all principal_fits rows) h) name)
  where
    at : (b : Bool) → is_same_name row.name name ≡ b → IfSome (keys_in (map (opening_principal kept) rows) name) (AreKeptInRow kept)
        → IfSome (keys_in (map (opening_principal kept) (row ∷ rows)) name) (AreKeptInRow kept)
    at true e ih = rw e (row_in_row kept row low (and_left (principal_fits row) (list_all principal_fits rows) h))
    at false e ih = rw e ih

pub openings_hold_in_row : OpeningsHoldInRow
openings_hold_in_row c quiet h name =
    rows_in_row (max c.policy.depth 1) c.principals (kept_at_least c.policy.depth) (and_right _ _ (and_left _ _ (principals_of_fits c h))) name
