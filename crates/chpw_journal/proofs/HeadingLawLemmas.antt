-- A journal's heading is no record of a history, and what follows it may be opened with.
use Rattle.std.proofs.Common.{◌≡◌, ◌≢◌, ℕ, ◌+◌, ◌≤◌, List, [], ◌∷◌, ◌++◌, length, drop, Bool, true, false, ◌&&◌, inl, inr, Option, None, Some, refl}
use Rattle.std.proofs.Common.{sym, ◌∙◌, ap, subst, arith, length-append, append_assoc, true≢false, ◌⊎◌}
use Rattle.std.specs.Int.{to_be_bytes, w16}
use Rattle.std.specs.Prelude.{nat_lt}
use Rattle.std.proofs.lemmas.Bool.Decides.{nat_tests}
use Rattle.std.proofs.lemmas.Nat.{from_be_bytes-to_be_bytes_2}
use Rattle.std.proofs.Math.Seq.{drop-append_seam}
use Rattle.chpw_rules.specs.Limits.{is_in, realm_lengths}
use Rattle.chpw_record.specs.declared.record.KeyKind.TheVariants as kind
use Rattle.chpw_record.specs.declared.record.Record.{Record}
use Rattle.chpw_record.specs.declared.record.Record.TheVariants as record_of
use Rattle.chpw_record.specs.Records.{record_text, records_text, stated_length, is_record_length}
use Rattle.chpw_journal.specs.declared.restoring.Restored.{Restored}
use Rattle.chpw_journal.specs.JournalText.{is_cut_off, HasBadLength, HasBadBody}
use Rattle.chpw_journal.specs.Restoring.{IsRestored}
use Rattle.chpw_journal.specs.Runs.{Run, journals, records_in}
use Rattle.chpw_journal.specs.Joined.{MayOpen}
use Rattle.chpw_journal.specs.Headings.{begins_as_heading, heading, heading_lengths, realm_record, IsBehind}
use Rattle.chpw_journal.specs.HeadingLaws.{HeadingsAreApart, HeadingsAreNoRecords, WholeMayOpen}
use Rattle.chpw_journal.proofs.JoinedLemmas.{read_may_open}
use Rattle.chpw_journal.proofs.RunLemmas.{records_are_journals}

-- ---- the record of a realm

few : (n : ℕ) → is_in realm_lengths n ≡ true → (1 ≤ n) × (n ≤ 255)
few n h = grind (arith, nat_tests)

fits : (n m : ℕ) → n ≡ m + 1 → 1 ≤ m → m ≤ 255 → is_in heading_lengths n ≡ true
fits n m e low high = grind (arith, nat_tests)

states : (realm rest : List ℕ) → is_in realm_lengths (length realm) ≡ true → stated_length (realm_record realm ++ rest) ≡ length (7 ∷ realm)
states realm rest h = from_be_bytes-to_be_bytes_2 (length (7 ∷ realm)) (omega (arith, (few (length realm) h).1))

begins : (realm rest : List ℕ) → is_in realm_lengths (length realm) ≡ true → begins_as_heading (realm_record realm ++ rest) ≡ true
begins realm rest h =
    let within = few (length realm) h in
    ap (is_in heading_lengths) (states realm rest h) ∙ fits (length (7 ∷ realm)) (length realm) (omega arith) within.0 within.1

-- ---- no record of a history

no_heading : (c : Record) (rest : List ℕ) → begins_as_heading (record_text c ++ rest) ≡ false
no_heading (record_of.Key kind.Change c) rest = refl
no_heading (record_of.Key kind.Base c) rest = refl
no_heading (record_of.Key kind.Adopt c) rest = refl
no_heading (record_of.Key kind.Lift c) rest = refl
no_heading (record_of.Key kind.Remove c) rest = refl
no_heading (record_of.Raise count) rest = refl

pub headings_are_apart : HeadingsAreApart
headings_are_apart = (begins, no_heading)

-- ---- what is cut off has no whole one

realm_length : (realm rest : List ℕ) → length (realm_record realm ++ rest) ≡ (3 + length realm) + length rest
realm_length realm rest =
    let size = length-append (realm_record realm) rest in
    let own = length-append (to_be_bytes w16 (1 + length realm)) (7 ∷ realm) in
    omega (arith, size, own)

not_short : (m n : ℕ) → n ≤ m → nat_lt m n ≡ false
not_short m n h = grind (arith, nat_tests)

pub headings_are_no_records : HeadingsAreNoRecords
headings_are_no_records realm rest h = by (is_record_length (stated_length text)) refl
  where
    text : List ℕ
    text = realm_record realm ++ rest

    by : (b : Bool) → is_record_length (stated_length text) ≡ b → HasBadLength text ⊎ HasBadBody text
    by false e =
        let size = realm_length realm rest in
        inl (omega (arith, size), e)
    by true e =
        let size = realm_length realm rest in
        let st = states realm rest h in
        inr (omega (arith, size, st), λ r left f is. true≢false (sym (begins realm rest h) ∙ (ap begins_as_heading is ∙ no_heading r left)))

whole_is_not_cut : (realm rest : List ℕ) → is_in realm_lengths (length realm) ≡ true → is_cut_off (realm_record realm ++ rest) ≡ false
whole_is_not_cut realm rest h =
    let text = realm_record realm ++ rest in
    let st = states realm rest h in
    let size = realm_length realm rest in
    let long : nat_lt (length text) 2 ≡ false = not_short (length text) 2 (omega (arith, size)) in
    let all : nat_lt (length text) (2 + stated_length text) ≡ false = not_short (length text) (2 + stated_length text) (omega (arith, size, st)) in
    rw (long, all) (last (is_record_length (stated_length text)))
  where
    last : (b : Bool) → (b && false) ≡ false
    last true = refl
    last false = refl

-- ---- a whole journal of runs

same_behind : (xs ys zs : List ℕ) → xs ++ ys ≡ xs ++ zs → ys ≡ zs
same_behind xs ys zs e = sym (drop-append_seam xs ys) ∙ (ap (drop (length xs)) e ∙ drop-append_seam xs zs)

-- the journal of runs, with what is cut off after it, has no whole record of a realm at its beginning
unnamed : (runs : List Run) (cut realm rest : List ℕ) → is_cut_off cut ≡ true → is_in realm_lengths (length realm) ≡ true
    → journals runs ++ cut ≢ realm_record realm ++ rest
unnamed runs cut realm rest short fit e = by (records_in runs) (ap (λ (xs : List ℕ). xs ++ cut) (records_are_journals runs) ∙ e)
  where
    by : (cs : List Record) → records_text cs ++ cut ≡ realm_record realm ++ rest → ⊥
    by [] is =
        true≢false (sym short ∙ (ap is_cut_off is ∙ whole_is_not_cut realm rest fit))
    by (c ∷ cs) is =
        let no : begins_as_heading (record_text c ++ (records_text cs ++ cut)) ≡ false = no_heading c (records_text cs ++ cut) in
        let same : record_text c ++ (records_text cs ++ cut) ≡ realm_record realm ++ rest = sym (append_assoc (record_text c) (records_text cs) cut) ∙ is in
        true≢false (sym (ap begins_as_heading same ∙ begins realm rest fit) ∙ no)

pub whole_may_open : WholeMayOpen
whole_may_open s runs cut is_named before r f short alike fit h =
    subst (λ (x : Restored). MayOpen s runs x.table.state) (sym h.whole) (go is_named h.is_named h.behind h.headed h.read)
  where
    text : List ℕ
    text = journals runs ++ cut

    opened : (behind : Option (List ℕ)) → behind ≡ Some text → IsRestored before behind h.left h.records → MayOpen s runs h.records.table.state
    opened behind same is =
        read_may_open s runs cut before h.left h.records f short alike (subst (λ (o : Option (List ℕ)). IsRestored before o h.left h.records) same is)

    go : (has is : Bool) (behind : Option (List ℕ))
        → IsBehind before.state.fixed.realm is (Some (heading has before.state.fixed.realm ++ text)) behind
        → IsRestored before behind h.left h.records → MayOpen s runs h.records.table.state
    go true true None d e = absurd d
    go true true (Some ys) d e =
        opened (Some ys) (ap Some (sym (same_behind (realm_record before.state.fixed.realm) text ys d))) e
    go true false behind d e =
        absurd (true≢false (sym (begins before.state.fixed.realm text fit) ∙ d.1))
    go false true None d e = absurd d
    go false true (Some ys) d e = absurd (unnamed runs cut before.state.fixed.realm ys short fit d)
    go false false behind d e = opened behind d.0 e
