-- What a compact journal gives, and what is found again after it.
use Rattle.std.proofs.Common.{◌≡◌, ℕ, ◌≤◌, ◌<◌, ◌+◌, max, List, [], ◌∷◌, ◌++◌, length, Bool, true, false, ◌||◌, ◌==◌}
use Rattle.std.proofs.Common.{if◌then◌else◌, Option, Some, None, refl, sym, ◌∙◌, ap, subst, arith}
use Rattle.std.specs.Prelude.{Decides, nat_lt, IfSome}
use Rattle.std.specs.List.{flat_map}
use Rattle.std.specs.Cmp.Lexicographic.{pointwise_decides, bytes_decides}
use Rattle.std.proofs.lemmas.Bool.Decides.{Decides-and, Decides-eqb, Decides-like, nat_tests}
use Rattle.std.proofs.lemmas.Grind.{flat_map-append}
use Rattle.std.proofs.lemmas.List.{take_all}
use Rattle.chpw_rules.specs.declared.name.Name.{Name}
use Rattle.chpw_rules.specs.Limits.{is_in, iteration_counts}
use Rattle.chpw_rules.specs.Names.{is_same_name, is_name}
use Rattle.chpw_record.specs.declared.key.KeyRow.{KeyRow}
use Rattle.chpw_table.specs.State.{State, keys_held, kept_count, new_count}
use Rattle.chpw_table.specs.Decision.{newest_kvno}
use Rattle.chpw_table.specs.Agreement.{Agrees}
use Rattle.chpw_table.specs.Updates.{keys_after, blank_key, is_newer}
use Rattle.chpw_table.proofs.AgreementLemmas.{agrees_itself}
use Rattle.chpw_table.proofs.NameLemmas.{is_same_name-Decides, is_same_name-itself}
use Rattle.chpw_table.proofs.UpdateLemmas.{same_held}
use Rattle.chpw_record.specs.declared.record.PrincipalKey.{PrincipalKey}
use Rattle.chpw_record.specs.declared.record.KeyKind.{KeyKind}
use Rattle.chpw_record.specs.declared.record.KeyKind.TheVariants as kind
use Rattle.chpw_record.specs.declared.record.Record.{Record}
use Rattle.chpw_record.specs.declared.record.Record.TheVariants as record_of
use Rattle.chpw_record.specs.Records.{ChangeFits, records_text}
use Rattle.chpw_journal.specs.JournalText.{restored, is_lacked, may_follow, IsNextRecord, AreNext, Begins, whole, IsReading}
use Rattle.chpw_journal.specs.Runs.{SameKeys, IsWholeKey, journals, records_in}
use Rattle.chpw_journal.specs.Joined.{IsAlike}
use Rattle.chpw_journal.specs.Compact.{is_same_key, are_same_keys, newer_kind, key_records, records_between, names_of, joined_names}
use Rattle.chpw_journal.specs.Compact.{name_records, raise_records, compacted, KeyInRange}
use Rattle.chpw_journal.specs.Compact.{AreInRow, AreKeptInRow, AreWholeRecords, MayCompact}
use Rattle.chpw_journal.specs.CompactLaws.{IsGiven, CompactGives, CompactIsNext, CompactReads, CompactIsFoundAgain, CompactMayOpen}
use Rattle.chpw_journal.proofs.CoverLemmas.{Covers, AreShared, all_shared, record_keys, restored_kept, restored_alike, restored_count, next_shared}
use Rattle.chpw_journal.proofs.FoundLemmas.{all_next, found_again, found_of, kept_again, count_again, reads_again}
use Rattle.chpw_journal.proofs.JoinedLemmas.{all_read, records_read, restored_may_open}
use Rattle.chpw_journal.proofs.NamesLemmas.{is_among, AreOnce, names_once, not_among}
use Rattle.chpw_journal.proofs.RecordsLemmas.{restored_joined, next_joined, next_more}
use Rattle.chpw_journal.proofs.StopLemmas.{reads_one}

-- ---- the same keys

is_same_key-Decides : (a b : KeyRow) → Decides (is_same_key a b) (a ≡ b)
is_same_key-Decides a b =
    Decides-like (is_same_key a b)
    (λ e i. record { kvno = e.0 i; count = e.1.0 i; aes128 = e.1.1.0 i; aes256 = e.1.1.1 i })
    (λ e. (ap (λ (k : KeyRow). k.kvno) e, (ap (λ (k : KeyRow). k.count) e, (ap (λ (k : KeyRow). k.aes128) e, ap (λ (k : KeyRow). k.aes256) e))))
    (Decides-and _ _ (Decides-eqb a.kvno b.kvno) (Decides-and _ _ (Decides-eqb a.count b.count)
    (Decides-and _ _ (bytes_decides a.aes128 b.aes128) (bytes_decides a.aes256 b.aes256))))

pub are_same_keys-Decides : (keys others : List KeyRow) → Decides (are_same_keys keys others) (keys ≡ others)
are_same_keys-Decides keys others = pointwise_decides is_same_key-Decides keys others

-- ---- the records of one name

abbrev key_of : Name → KeyRow → PrincipalKey
key_of name key = record { name = name; key = key }

-- a record of this kind gives a name that key alone
abbrev Starts : State → Name → KeyKind → Type 0
Starts t n first = (key : KeyRow) → keys_after first (kept_count t) key (keys_held t n) ≡ Some (key ∷ [])

-- a newer key comes in front of the others
newer_in_front : (b : Bool) (kept : ℕ) (key : KeyRow) (older : List KeyRow) → length (key ∷ older) ≤ kept
    → keys_after (if b then kind.Change else kind.Adopt) kept key (Some older) ≡ Some (key ∷ older)
newer_in_front true kept key older few = ap Some (take_all kept (key ∷ older) few)
newer_in_front false kept key older few = ap Some (take_all kept (key ∷ older) few)

put_on : (b : Bool) (first : KeyKind) (kept : ℕ) (key : KeyRow) (older : List KeyRow) (x y : Option (List KeyRow))
    → x ≡ (if b then Some older else y) → keys_after first kept key (Some older) ≡ Some (key ∷ older)
    → (if b then keys_after first kept key x else x) ≡ (if b then Some (key ∷ older) else y)
put_on true first kept key older x y h front = ap (λ (o : Option (List KeyRow)). keys_after first kept key o) h ∙ front
put_on false first kept key older x y h front = h

-- the keys of each name after them
keys_behind : (t : State) (first : KeyKind) (n : Name) (keys : List KeyRow) (name : Name) → 1 ≤ length keys → length keys ≤ kept_count t → Starts t n first
    → keys_held (restored t (key_records first n keys)) name ≡ (if is_same_name n name then Some keys else keys_held t name)
keys_behind t first n [] name some few starts = absurd (omega (arith, some))
keys_behind t first n (k ∷ []) name some few starts = record_keys t first (key_of n k) name ∙ at (is_same_name n name) refl
  where
    at : (b : Bool) → is_same_name n name ≡ b
        → (if b then keys_after first (kept_count t) k (keys_held t name) else keys_held t name) ≡ (if b then Some (k ∷ []) else keys_held t name)
    at true e = ap (λ (x : Option (List KeyRow)). keys_after first (kept_count t) k x) (sym (same_held t n name e)) ∙ starts k
    at false e = refl
keys_behind t first n (k ∷ l ∷ ls) name some few starts =
    let front : List Record = key_records first n (l ∷ ls) in
    let u : State = restored t front in
    let kept : kept_count u ≡ kept_count t = restored_kept t front in
    let newer : KeyKind = newer_kind k (l ∷ ls) in
    let ih = keys_behind t first n (l ∷ ls) name (omega arith) (omega (arith, few)) starts in
    let much : length (k ∷ l ∷ ls) ≤ kept_count u = subst (λ (m : ℕ). length (k ∷ l ∷ ls) ≤ m) (sym kept) few in
    ap (λ (s : State). keys_held s name) (restored_joined t front (record_of.Key newer (key_of n k) ∷ []))
    ∙ (record_keys u newer (key_of n k) name
    ∙ put_on (is_same_name n name) newer (kept_count u) k (l ∷ ls) (keys_held u name) (keys_held t name) ih
    (newer_in_front (k.kvno == newest_kvno (l ∷ ls) + 1) (kept_count u) k (l ∷ ls) much))

change_fits : (n : Name) (key : KeyRow) → KeyInRange key → (is_name n ≡ true) × IsWholeKey key → ChangeFits (key_of n key)
change_fits n key f w = record { name = w.0; kvno = f.kvno; count = f.count; aes128 = w.1.0; aes256 = w.1.1 }

-- of whole records each part is
whole_parts : (xs ys : List Record) → AreWholeRecords (xs ++ ys) → AreWholeRecords xs × AreWholeRecords ys
whole_parts [] ys w = (tt, w)
whole_parts (x ∷ xs) ys w = let rest = whole_parts xs ys w.1 in ((w.0, rest.0), rest.1)

above : (m n : ℕ) → m < n → nat_lt m n ≡ true
above m n h = grind (arith, nat_tests)

-- a newer key may come next
newer_next : (key l : KeyRow) (ls : List KeyRow) (x : Option (List KeyRow)) → x ≡ Some (l ∷ ls) → l.kvno < key.kvno
    → (is_lacked (newer_kind key (l ∷ ls)) x ≡ false) × (may_follow (newer_kind key (l ∷ ls)) key.kvno x ≡ true)
newer_next key l ls x h higher =
    subst (λ (o : Option (List KeyRow)). (is_lacked (newer_kind key (l ∷ ls)) o ≡ false) × (may_follow (newer_kind key (l ∷ ls)) key.kvno o ≡ true))
    (sym h) (at (key.kvno == l.kvno + 1) refl)
  where
    at : (b : Bool) → (key.kvno == l.kvno + 1) ≡ b
        → (is_lacked (if b then kind.Change else kind.Adopt) (Some (l ∷ ls)) ≡ false)
        × (may_follow (if b then kind.Change else kind.Adopt) key.kvno (Some (l ∷ ls)) ≡ true)
    at true e = (refl, e)
    at false e = (refl, above l.kvno key.kvno higher)

-- they may come next where the first may
next_of_name : (t : State) (first : KeyKind) (n : Name) (keys : List KeyRow) → Starts t n first
    → ((key : KeyRow) → IsNextRecord t (record_of.Key first (key_of n key)))
    → length keys ≤ kept_count t → AreInRow keys → AreWholeRecords (key_records first n keys) → AreNext t (key_records first n keys)
next_of_name t first n [] starts may few row w = tt
next_of_name t first n (k ∷ []) starts may few row w = (change_fits n k row.0 w.0, may k, tt)
next_of_name t first n (k ∷ l ∷ ls) starts may few row w =
    let newer : Record = record_of.Key (newer_kind k (l ∷ ls)) (key_of n k) in
    let parts = whole_parts (key_records first n (l ∷ ls)) (newer ∷ []) w in
    let ih = next_of_name t first n (l ∷ ls) starts may (omega (arith, few)) row.2 parts.0 in
    let held : keys_held (restored t (key_records first n (l ∷ ls))) n ≡ Some (l ∷ ls) =
    keys_behind t first n (l ∷ ls) n (omega arith) (omega (arith, few)) starts ∙ rw (is_same_name-itself n) refl in
    next_more t (key_records first n (l ∷ ls)) newer ih (change_fits n k row.0 parts.1.0)
    (newer_next k l ls (keys_held (restored t (key_records first n (l ∷ ls))) n) held row.1)

count_of_name : (t : State) (first : KeyKind) (n : Name) (keys : List KeyRow) → new_count (restored t (key_records first n keys)) ≡ new_count t
count_of_name t first n [] = refl
count_of_name t first n (k ∷ []) = refl
count_of_name t first n (k ∷ l ∷ ls) =
    ap new_count (restored_joined t (key_records first n (l ∷ ls)) (record_of.Key (newer_kind k (l ∷ ls)) (key_of n k) ∷ []))
    ∙ count_of_name t first n (l ∷ ls)

-- ---- those that lead from one name's keys to others

abbrev IsKept : State → Option (List KeyRow) → Type 0
IsKept t y = IfSome y (AreKeptInRow (kept_count t))

module _ (t : State) (n : Name) where
  based : (before : List KeyRow) → keys_held t n ≡ Some before → Starts t n kind.Base
  based before h key = ap (λ (x : Option (List KeyRow)). keys_after kind.Base (kept_count t) key x) h

  adopted : (keys : List KeyRow) → keys_held t n ≡ None → AreKeptInRow (kept_count t) keys → Starts t n kind.Adopt
  adopted keys h w key =
      ap (λ (x : Option (List KeyRow)). keys_after kind.Adopt (kept_count t) key x) h
      ∙ ap Some (take_all (kept_count t) (key ∷ []) (omega (arith, w.some, w.few)))

  based_next : (before : List KeyRow) → keys_held t n ≡ Some before → (key : KeyRow) → IsNextRecord t (record_of.Key kind.Base (key_of n key))
  based_next before h key = (ap (λ (x : Option (List KeyRow)). is_lacked kind.Base x) h, refl)

  adopted_next : keys_held t n ≡ None → (key : KeyRow) → IsNextRecord t (record_of.Key kind.Adopt (key_of n key))
  adopted_next h key = (refl, ap (λ (x : Option (List KeyRow)). is_newer key.kvno x) h)

  -- a name that has what it is to have
  unchanged : (y : Option (List KeyRow)) (name : Name) → keys_held t n ≡ y → keys_held t name ≡ (if is_same_name n name then y else keys_held t name)
  unchanged y name h = at (is_same_name n name) refl
    where
      at : (b : Bool) → is_same_name n name ≡ b → keys_held t name ≡ (if b then y else keys_held t name)
      at true e = sym (same_held t n name e) ∙ h
      at false e = refl

  between_keys : (x y : Option (List KeyRow)) (name : Name) → keys_held t n ≡ x → IsKept t y
      → keys_held (restored t (records_between n x y)) name ≡ (if is_same_name n name then y else keys_held t name)
  between_keys None None name h w = unchanged None name h
  between_keys None (Some keys) name h w = keys_behind t kind.Adopt n keys name w.some w.few (adopted keys h w)
  between_keys (Some before) None name h w = record_keys t kind.Remove (key_of n blank_key) name
  between_keys (Some before) (Some keys) name h w = at (are_same_keys before keys) refl
    where
      at : (b : Bool) → are_same_keys before keys ≡ b
          → keys_held (restored t (if b then [] else key_records kind.Base n keys)) name ≡ (if is_same_name n name then Some keys else keys_held t name)
      at true e = unchanged (Some keys) name (h ∙ ap Some ((are_same_keys-Decides before keys).0 e))
      at false e = keys_behind t kind.Base n keys name w.some w.few (based before h)

  between_next : (x y : Option (List KeyRow)) → keys_held t n ≡ x → IsKept t y → AreWholeRecords (records_between n x y)
      → AreNext t (records_between n x y)
  between_next None None h k w = tt
  between_next None (Some keys) h k w = next_of_name t kind.Adopt n keys (adopted keys h k) (adopted_next h) k.few k.row w
  between_next (Some before) None h k w = (
    record { name = w.0.0; kvno = refl; count = refl; aes128 = w.0.1.0; aes256 = w.0.1.1 },
    (ap (λ (x : Option (List KeyRow)). is_lacked kind.Remove x) h, refl),
    tt,
  )
  between_next (Some before) (Some keys) h k w = at (are_same_keys before keys) w
    where
      at : (b : Bool) → AreWholeRecords (if b then [] else key_records kind.Base n keys) → AreNext t (if b then [] else key_records kind.Base n keys)
      at true v = tt
      at false v = next_of_name t kind.Base n keys (based before h) (based_next before h) k.few k.row v

  between_count : (x y : Option (List KeyRow)) → new_count (restored t (records_between n x y)) ≡ new_count t
  between_count None None = refl
  between_count None (Some keys) = count_of_name t kind.Adopt n keys
  between_count (Some before) None = refl
  between_count (Some before) (Some keys) = at (are_same_keys before keys)
    where
      at : (b : Bool) → new_count (restored t (if b then [] else key_records kind.Base n keys)) ≡ new_count t
      at true = refl
      at false = count_of_name t kind.Base n keys

-- ---- those of all names

-- a name among these has the opening's keys still, and each other one those that it is to have
abbrev Settles : State → State → State → List Name → Type 0
Settles opening s t ns = (name : Name) → keys_held t name ≡ (if is_among name ns then keys_held opening name else keys_held s name)

module _ (opening s : State) (may : MayCompact opening s) where
  kept_of : (t : State) (n : Name) → kept_count t ≡ kept_count s → IsKept t (keys_held s n)
  kept_of t n kept = subst (λ (m : ℕ). IfSome (keys_held s n) (AreKeptInRow m)) (sym kept) (may.row n)

  first_held : (t : State) (n : Name) (ns : List Name) → Settles opening s t (n ∷ ns) → keys_held t n ≡ keys_held opening n
  first_held t n ns settles =
      settles n ∙ ap (λ (b : Bool). if b || is_among n ns then keys_held opening n else keys_held s n) (is_same_name-itself n)

  settles_next : (t : State) (n : Name) (ns : List Name) → is_among n ns ≡ false → kept_count t ≡ kept_count s
      → Settles opening s t (n ∷ ns) → Settles opening s (restored t (name_records opening s n)) ns
  settles_next t n ns once kept settles name =
      between_keys t n (keys_held opening n) (keys_held s n) name (first_held t n ns settles) (kept_of t n kept) ∙ at (is_same_name n name) refl
    where
      at : (b : Bool) → is_same_name n name ≡ b
          → (if b then keys_held s n else keys_held t name) ≡ (if is_among name ns then keys_held opening name else keys_held s name)
      at true e =
          let same : n ≡ name = (is_same_name-Decides n name).0 e in
          let none : is_among name ns ≡ false = ap (λ (m : Name). is_among m ns) (sym same) ∙ once in
          same_held s n name e ∙ ap (λ (b : Bool). if b then keys_held opening name else keys_held s name) (sym none)
      at false e = settles name ∙ ap (λ (b : Bool). if b || is_among name ns then keys_held opening name else keys_held s name) e

  all_names : (t : State) (ns : List Name) → AreOnce ns → kept_count t ≡ kept_count s → Settles opening s t ns
      → AreWholeRecords (flat_map (name_records opening s) ns)
      → AreNext t (flat_map (name_records opening s) ns)
      × ((name : Name) → keys_held (restored t (flat_map (name_records opening s) ns)) name ≡ keys_held s name)
      × (new_count (restored t (flat_map (name_records opening s) ns)) ≡ new_count t)
  all_names t [] once kept settles w = (tt, settles, refl)
  all_names t (n ∷ ns) once kept settles w =
      let front : List Record = name_records opening s n in
      let more : List Record = flat_map (name_records opening s) ns in
      let joined : restored t (front ++ more) ≡ restored (restored t front) more = restored_joined t front more in
      let parts = whole_parts front more w in
      let held : keys_held t n ≡ keys_held opening n = first_held t n ns settles in
      let rest = all_names (restored t front) ns once.1 (restored_kept t front ∙ kept) (settles_next t n ns once.0 kept settles) parts.1 in (
        next_joined t front more (between_next t n (keys_held opening n) (keys_held s n) held (kept_of t n kept) parts.0) rest.0,
        λ name. ap (λ (v : State). keys_held v name) joined ∙ rest.1 name,
        ap new_count joined ∙ (rest.2 ∙ between_count t n (keys_held opening n) (keys_held s n)),
      )

-- ---- the raise

raise_keys : (t : State) (count : ℕ) (b : Bool) (name : Name) → keys_held (restored t (if b then record_of.Raise count ∷ [] else [])) name ≡ keys_held t name
raise_keys t count true name = refl
raise_keys t count false name = refl

raise_next : (t : State) (count : ℕ) (b : Bool) → is_in iteration_counts count ≡ true → AreNext t (if b then record_of.Raise count ∷ [] else [])
raise_next t count true h = (h, tt, tt)
raise_next t count false h = tt

raise_count : (t : State) (count : ℕ) (b : Bool) → nat_lt (new_count t) count ≡ b
    → new_count (restored t (if b then record_of.Raise count ∷ [] else [])) ≡ max (new_count t) count
raise_count t count true e = refl
raise_count t count false e = not_lower (new_count t) count e
  where
    not_below : (m n : ℕ) → nat_lt m n ≡ false → n ≤ m
    not_below m n h = grind (arith, nat_tests)

    not_lower : (m n : ℕ) → nat_lt m n ≡ false → m ≡ max m n
    not_lower m n h = omega (arith, not_below m n h)

-- ---- a compact journal

module _ (opening s : State) (may : MayCompact opening s) where
  abbrev raise : List Record
  raise = raise_records opening s

  abbrev start : State
  start = restored opening raise

  abbrev names : List Name
  names = names_of opening ++ joined_names opening s

  -- the records of all names
  abbrev several : List Record
  several = flat_map (name_records opening s) names

  split : compacted opening s ≡ raise ++ several
  split = ap (λ (rs : List Record). raise ++ rs) (sym (flat_map-append (name_records opening s) (names_of opening) (joined_names opening s)))

  begun : (name : Name) → keys_held start name ≡ keys_held opening name
  begun name = raise_keys opening (new_count s) (nat_lt (new_count opening) (new_count s)) name

  settles : Settles opening s start names
  settles name = begun name ∙ at (is_among name names) refl
    where
      at : (b : Bool) → is_among name names ≡ b → keys_held opening name ≡ (if b then keys_held opening name else keys_held s name)
      at true e = refl
      at false e = let none = not_among opening s name e in none.0 ∙ sym none.1

  all : AreNext start several
      × ((name : Name) → keys_held (restored start several) name ≡ keys_held s name)
      × (new_count (restored start several) ≡ new_count start)
  all = all_names opening s may start names (names_once opening s may.order) (restored_kept opening raise ∙ may.kept) settles
      (whole_parts raise several (subst AreWholeRecords split may.whole)).1

  joined : restored opening (compacted opening s) ≡ restored start several
  joined = ap (restored opening) split ∙ restored_joined opening raise several

  next : AreNext opening (compacted opening s)
  next = subst (AreNext opening) (sym split) (next_joined opening raise several
      (raise_next opening (new_count s) (nat_lt (new_count opening) (new_count s)) may.sound.count) all.0)

  given : IsGiven opening s (restored opening (compacted opening s))
  given = record {
    same = record {
      kept = restored_kept opening (compacted opening s) ∙ may.kept;
      keys = λ name. ap (λ (v : State). keys_held v name) joined ∙ all.1 name;
    };
    count = ap new_count joined ∙ (all.2 ∙ raise_count opening (new_count s) (nat_lt (new_count opening) (new_count s)) refl);
  }

  covers : Covers (restored opening (compacted opening s)) s
  covers = record { kept = given.same.kept; keys = λ name some. given.same.keys name }

  shared : (rs : List Record) → AreShared (restored opening (compacted opening s)) s rs
  shared rs = all_shared (restored opening (compacted opening s)) s rs given.same.keys

pub compact_gives : CompactGives
compact_gives opening s may = given opening s may

pub compact_is_next : CompactIsNext
compact_is_next opening s may = next opening s may

pub compact_reads : CompactReads
compact_reads opening s runs cut may f c =
    reads_again opening s (compacted opening s) (next opening s may) (covers opening s may) runs f (shared opening s may (records_in runs)) cut c

pub compact_is_found_again : CompactIsFoundAgain
compact_is_found_again opening s runs may f low =
    let rs : List Record = compacted opening s in
    let front : AreNext opening rs = next opening s may in
    let over : Covers (restored opening rs) s = covers opening s may in
    let with : AreShared (restored opening rs) s (records_in runs) = shared opening s may (records_in runs) in
    let same : SameKeys (restored opening rs) s = (given opening s may).same in
    let is : new_count (restored opening rs) ≡ max (new_count opening) (new_count s) = (given opening s may).count in (
      found_again opening s rs front over runs f with (omega (arith, is, low)) (λ name some. same.keys name),
      record {
        keys = record {
          kept = kept_again opening s rs front over runs f with;
          keys = λ name. found_of opening s rs front over runs f with name (same.keys name);
        };
        count = count_again opening s rs front over runs f with (omega (arith, is, low));
      },
    )

-- ---- a further run over it

module _ (opening s before : State) (may : MayCompact opening s) (low : new_count opening ≤ new_count s)
    (like : IsAlike opening before) where
  abbrev over : State
  over = restored before (compacted opening s)

  alike : IsAlike s (restored before (compacted opening s))
  alike =
      let is : new_count (restored opening (compacted opening s)) ≡ max (new_count opening) (new_count s) = (given opening s may).count in
      let same : new_count opening ≡ new_count before = like.count in
      let a : new_count (restored opening (compacted opening s)) ≤ new_count over = restored_count opening before (compacted opening s) (omega (arith, same)) in
      let b : new_count over ≤ new_count (restored opening (compacted opening s)) = restored_count before opening (compacted opening s) (omega (arith, same)) in
      record {
        keys = record {
          kept = sym may.kept ∙ (like.keys.kept ∙ sym (restored_kept before (compacted opening s)));
          keys = λ name.
              sym ((given opening s may).same.keys name)
              ∙ restored_alike opening before (compacted opening s) name like.keys.kept (like.keys.keys name);
        };
        count = omega (arith, is, low, a, b);
      }

pub compact_may_open : CompactMayOpen
compact_may_open opening s runs cut before new r may low f c like is =
    let more : List Record = records_in runs in
    let all : List Record = compacted opening s ++ more in
    let text : List ℕ = records_text (compacted opening s) ++ journals runs ++ cut in
    let with : AreShared (restored opening (compacted opening s)) s more = shared opening s may more in
    let there : AreNext opening all = all_next opening s (compacted opening s) (next opening s may) (covers opening s may) runs f with in
    let here : AreNext before.state all =
    next_shared before.state opening all (sym like.keys.kept) (all_shared before.state opening all (λ name. sym (like.keys.keys name))) there in
    let begins : Begins before.state text all cut = record {
      text_is = (reads_again opening s (compacted opening s) (next opening s may) (covers opening s may) runs f with cut c).0.0.text_is;
      next = here;
    } in
    let read : records_text is.whole_records ++ is.rest ≡ text = all_read text (records_text is.whole_records ++ is.rest) new is.read is.end in
    let reading : IsReading before.state text (whole is.whole_records is.rest) =
    subst (λ (xs : List ℕ). IsReading before.state xs (whole is.whole_records is.rest)) read (is.reading before.state (agrees_itself before.state)) in
    let records : is.whole_records ≡ all = ap records_read (reads_one before.state text all cut begins c (whole is.whole_records is.rest) reading) in
    let put_back : Agrees r.table.state (restored before.state all) =
    subst (λ (rs : List Record). Agrees r.table.state (restored before.state rs)) records
    (is.table before.state (agrees_itself before.state)) in
    restored_may_open s runs (restored before.state (compacted opening s)) r.table.state f (alike opening s before.state may low like)
    (subst (Agrees r.table.state) (restored_joined before.state (compacted opening s) more) put_back)
