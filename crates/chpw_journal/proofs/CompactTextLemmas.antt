-- The text of a compact journal, piece by piece.
use Rattle.std.proofs.Common.{◌≡◌, ℕ, ◌≤◌, List, [], ◌∷◌, ◌++◌, filter, length, Bool, true, false, if◌then◌else◌}
use Rattle.std.proofs.Common.{refl, sym, ◌∙◌, ap, subst, arith, append_assoc}
use Rattle.std.specs.Prelude.{nat_lt}
use Rattle.std.specs.List.{flat_map}
use Rattle.std.proofs.lemmas.Grind.{flat_map-append}
use Rattle.std.proofs.lemmas.List.{flat_map_more}
use Rattle.std.proofs.lemmas.List.Elements.{filter-append}
use Rattle.chpw_rules.specs.declared.name.Name.{Name}
use Rattle.chpw_rules.specs.Names.{is_name}
use Rattle.chpw_record.specs.declared.key.KeyRow.{KeyRow}
use Rattle.chpw_record.specs.declared.record.KeyKind.{KeyKind}
use Rattle.chpw_record.specs.declared.record.Record.{Record}
use Rattle.chpw_record.specs.declared.record.Record.TheVariants as record_of
use Rattle.chpw_record.specs.Records.{record_text, records_text}
use Rattle.chpw_table.specs.State.{State, new_count}
use Rattle.chpw_journal.specs.Compact.{key_records, newer_kind, raise_records, AreWholeRecords}
use Rattle.chpw_journal.specs.Runs.{IsWholeKey}
use Rattle.chpw_record.proofs.RecordLemmas.{records_joined, records_more}

-- more records after others
pub text_more : (old : List ℕ) (front more all : List Record) → front ++ more ≡ all
    → (old ++ records_text front) ++ records_text more ≡ old ++ records_text all
text_more old front more all h =
    append_assoc old (records_text front) (records_text more)
    ∙ ap (λ (xs : List ℕ). old ++ xs) (sym (records_joined front more) ∙ ap records_text h)

-- one name more
pub names_more : (records : Name → List Record) (names : List Name) (name : Name)
    → flat_map records names ++ records name ≡ flat_map records (names ++ name ∷ [])
names_more records names name = flat_map_more records [] names name

-- of which some are left out
pub some_more : (p : Name → Bool) (records : Name → List Record) (names : List Name) (name : Name)
    → flat_map records (filter p names) ++ flat_map records (filter p (name ∷ [])) ≡ flat_map records (filter p (names ++ name ∷ []))
some_more p records names name =
    sym (flat_map-append records (filter p names) (filter p (name ∷ []))) ∙ ap (flat_map records) (sym (filter-append p names (name ∷ [])))

-- one key more, in front of others
pub key_text : (first : KeyKind) (name : Name) (keys : List KeyRow) (key : KeyRow) (older : List KeyRow) → keys ≡ key ∷ older → 1 ≤ length older
    → records_text (key_records first name older) ++ record_text (record_of.Key (newer_kind key older) (record { name = name; key = key }))
    ≡ records_text (key_records first name keys)
key_text first name keys key [] e h = absurd (omega (arith, h))
key_text first name keys key (k ∷ ks) e h =
    sym (records_more (key_records first name (k ∷ ks)) (record_of.Key (newer_kind key (k ∷ ks)) (record { name = name; key = key })))
    ∙ ap (λ (rows : List KeyRow). records_text (key_records first name rows)) (sym e)

-- ---- whole records

pub whole_joined : (xs ys : List Record) → AreWholeRecords xs → AreWholeRecords ys → AreWholeRecords (xs ++ ys)
whole_joined [] ys v w = w
whole_joined (x ∷ xs) ys v w = (v.0, whole_joined xs ys v.1 w)

pub whole_more : (front more all : List Record) → front ++ more ≡ all → AreWholeRecords front → AreWholeRecords more → AreWholeRecords all
whole_more front more all h v w = subst AreWholeRecords h (whole_joined front more v w)

pub key_whole : (first : KeyKind) (name : Name) (keys : List KeyRow) (key : KeyRow) (older : List KeyRow)
    → keys ≡ key ∷ older → 1 ≤ length older → is_name name ≡ true
    → AreWholeRecords (key_records first name older) → IsWholeKey key → AreWholeRecords (key_records first name keys)
key_whole first name keys key [] e h n v w = absurd (omega (arith, h))
key_whole first name keys key (k ∷ ks) e h n v w =
    subst (λ (rows : List KeyRow). AreWholeRecords (key_records first name rows)) (sym e)
    (whole_joined (key_records first name (k ∷ ks)) (record_of.Key (newer_kind key (k ∷ ks)) (record { name = name; key = key }) ∷ []) v ((n, w), tt))

pub raise_whole : (opening s : State) → AreWholeRecords (raise_records opening s)
raise_whole opening s = at (nat_lt (new_count opening) (new_count s))
  where
    at : (b : Bool) → AreWholeRecords (if b then record_of.Raise (new_count s) ∷ [] else [])
    at true = (tt, tt)
    at false = tt

-- the three parts of it
pub all_text : (raise own joined : List Record) (one two three : List ℕ) → one ≡ records_text raise → two ≡ one ++ records_text own
    → three ≡ two ++ records_text joined → three ≡ records_text (raise ++ (own ++ joined))
all_text raise own joined one two three h g f =
    f
    ∙ (ap (λ (xs : List ℕ). xs ++ records_text joined) (g ∙ ap (λ (xs : List ℕ). xs ++ records_text own) h)
    ∙ (text_more (records_text raise) own joined (own ++ joined) refl ∙ sym (records_joined raise (own ++ joined))))
