-- What is found again of records that lead to what a state covers, and of the runs that go on from that state.
use Rattle.std.proofs.Common.{◌≡◌, ℕ, ◌≤◌, List, [], ◌∷◌, ◌++◌, Bool, true, false, Option, Some, None, refl, sym, ◌∙◌, ap, subst, arith, rules}
use Rattle.std.specs.Prelude.{IsSome}
use Rattle.chpw_rules.specs.declared.name.Name.{Name}
use Rattle.chpw_rules.specs.Names.{is_same_name}
use Rattle.chpw_record.specs.declared.key.KeyRow.{KeyRow}
use Rattle.chpw_record.specs.declared.record.Record.{Record}
use Rattle.chpw_record.specs.declared.record.Record.TheVariants as record_of
use Rattle.chpw_record.specs.Records.{records_text}
use Rattle.chpw_record.proofs.RecordLemmas.{records_joined}
use Rattle.chpw_table.specs.State.{State, keys_held, kept_count, new_count}
use Rattle.chpw_table.proofs.UpdateLemmas.{same_held}
use Rattle.chpw_journal.specs.JournalText.{with_record, restored, is_cut_off, AreNext, Begins, Reading, whole, IsReading}
use Rattle.chpw_journal.specs.Runs.{Run, journals, records_in, last_state}
use Rattle.chpw_journal.specs.Joined.{FollowOn}
use Rattle.chpw_journal.specs.Known.{IsFoundAgain}
use Rattle.chpw_journal.proofs.CountLemmas.{count_runs}
use Rattle.chpw_journal.proofs.CoverLemmas.{AreShared, Covers, record_kept, record_keys, restored_kept, restored_alike, restored_count}
use Rattle.chpw_journal.proofs.CoverLemmas.{shared_after, next_shared}
use Rattle.chpw_journal.proofs.RecordsLemmas.{restored_joined, next_joined}
use Rattle.chpw_journal.proofs.RunLemmas.{Follows, runs_next, same_itself, records_are_journals}
use Rattle.chpw_journal.proofs.StopLemmas.{reads_one}

-- a name that one state lacks and the other holds, and that no shared record is of, is lacked still
lacked_stays : (s t : State) (rs : List Record) (name : Name) → kept_count s ≡ kept_count t → AreShared s t rs
    → keys_held s name ≡ None → IsSome (keys_held t name) → keys_held (restored s rs) name ≡ None
lacked_stays s t [] name k h none some = none
lacked_stays s t ((record_of.Raise count) ∷ rs) name k h none some =
    lacked_stays (with_record (record_of.Raise count) s) (with_record (record_of.Raise count) t) rs name k (shared_after s t
    (record_of.Raise count) rs k h.1) none some
lacked_stays s t ((record_of.Key kind c) ∷ rs) name k h none some =
    at (is_same_name c.name name) refl
    (lacked_stays (with_record r s) (with_record r t) rs name (record_kept s r ∙ (k ∙ sym (record_kept t r))) (shared_after s t r rs k h.1))
  where
    r : Record
    r = record_of.Key kind c

    apart : (x y : Option (List KeyRow)) → x ≡ y → x ≡ None → IsSome y → ⊥
    apart x None e n y = absurd (cc)
    apart x (Some keys) e n y = cc

    at : (b : Bool) → is_same_name c.name name ≡ b
        → (keys_held (with_record r s) name ≡ None → IsSome (keys_held (with_record r t) name) → keys_held (restored (with_record r s) rs) name ≡ None)
        → keys_held (restored (with_record r s) rs) name ≡ None
    at true e ih =
        absurd (apart (keys_held s name) (keys_held t name)
        (sym (same_held s c.name name e) ∙ (h.0 ∙ same_held t c.name name e)) none some)
    at false e ih = ih (record_keys s kind c name ∙ rw e none) (subst IsSome (sym (record_keys t kind c name ∙ rw e refl)) some)

module _ (start next : State)
    (records : List Record) (front : AreNext start records) (covers : Covers (restored start records) next)
    (runs : List Run) (f : FollowOn next runs) (shared : AreShared (restored start records) next (records_in runs)) where
  abbrev more : List Record
  more = records_in runs

  abbrev all : List Record
  all = records ++ more

  follows : Follows next more (last_state next runs)
  follows = runs_next next next runs (same_itself next) f.each

  joined : restored start all ≡ restored (restored start records) more
  joined = restored_joined start records more

  pub all_next : AreNext start (records ++ records_in runs)
  all_next = next_joined start records more front (next_shared (restored start records) next more covers.kept shared follows.0)

  -- a name of which both have the same keys has those that were held last
  pub found_of : (name : Name) → keys_held (restored start records) name ≡ keys_held next name
      → keys_held (restored start (records ++ records_in runs)) name ≡ keys_held (last_state next runs) name
  found_of name h =
      ap (λ (s : State). keys_held s name) joined
      ∙ (restored_alike (restored start records) next more name covers.kept h ∙ follows.1.keys name)

  pub kept_again : kept_count (restored start (records ++ records_in runs)) ≡ kept_count (last_state next runs)
  kept_again =
      ap kept_count joined ∙ (restored_kept (restored start records) more ∙ (covers.kept ∙ (sym (restored_kept next more) ∙ follows.1.kept)))

  others_of : (name : Name) → (x y : Option (List KeyRow)) → keys_held (restored start records) name ≡ x → keys_held next name ≡ y
      → IsSome (keys_held (restored start all) name) → keys_held (restored start records) name ≡ keys_held next name
  others_of name (Some keys) y e g some = covers.keys name (subst IsSome (sym e) (search rules))
  others_of name None None e g some = e ∙ sym g
  others_of name None (Some keys) e g some =
      absurd (none_there (keys_held (restored start all) name)
      (ap (λ (s : State). keys_held s name) joined
      ∙ lacked_stays (restored start records) next more name covers.kept shared e (subst IsSome (sym g) (search rules))) some)
    where
      none_there : (x : Option (List KeyRow)) → x ≡ None → IsSome x → ⊥
      none_there None n h = absurd (cc)
      none_there (Some ks) n h = cc

  pub found_again : new_count (restored start records) ≤ new_count next
      → ((name : Name) → IsSome (keys_held start name) → keys_held (restored start records) name ≡ keys_held next name)
      → IsFoundAgain start (records ++ records_in runs) (last_state next runs)
  found_again low own = record {
    next = all_next;
    kept = kept_again;
    keys = λ name some. found_of name (own name some);
    others = λ name some. found_of name (others_of name (keys_held (restored start records) name) (keys_held next name) refl refl some);
    count =
        let a : new_count (restored start all) ≡ new_count (restored (restored start records) more) = ap new_count joined in
        let b : new_count (restored (restored start records) more) ≤ new_count (restored next more) = restored_count (restored start records) next more low in
        let c : new_count (restored next more) ≡ new_count (last_state next runs) = count_runs next next runs f.each f.counts (omega arith) in
        omega (arith, a, b, c);
  }

  -- the count too, where it is the same
  pub count_again : new_count (restored start records) ≡ new_count next
      → new_count (restored start (records ++ records_in runs)) ≡ new_count (last_state next runs)
  count_again same = ap new_count joined ∙ count_runs (restored start records) next runs f.each f.counts same

  pub reads_again : (cut : List ℕ) → is_cut_off cut ≡ true
      → IsReading start (records_text records ++ journals runs ++ cut) (whole (records ++ records_in runs) cut)
      × ((reading : Reading) → IsReading start (records_text records ++ journals runs ++ cut) reading → reading ≡ whole (records ++ records_in runs) cut)
  reads_again cut c =
      let text : List ℕ = records_text records ++ journals runs ++ cut in
      let is : text ≡ records_text all ++ cut =
      ap (λ (xs : List ℕ). xs ++ cut) (ap (λ (xs : List ℕ). records_text records ++ xs)
      (sym (records_are_journals runs)) ∙ sym (records_joined records more)) in
      let begins : Begins start text all cut = record { text_is = is; next = all_next } in
      ((begins, c), λ reading g. reads_one start text all cut begins c reading g)
