-- What a reload keeps, and what a later start finds.
use Rattle.std.proofs.Common.{◌≡◌, ℕ, ◌≤◌, max, suc, List, [], ◌∷◌, ◌++◌, take, length, Option, Some, None, refl, sym, ◌∙◌, ap, subst, arith, rules}
use Rattle.std.specs.Prelude.{option_map, IsSome, IfSome, ℤ, negsuc}
use Rattle.std.proofs.lemmas.List.{take_all}
use Rattle.chpw_rules.specs.declared.name.Name.{Name}
use Rattle.chpw_rules.specs.declared.config.Config.{Config}
use Rattle.chpw_record.specs.declared.key.KeyRow.{KeyRow}
use Rattle.chpw_table.specs.State.{Fixed, State, keys_held, kept_count, new_count, opening_of}
use Rattle.chpw_table.specs.Times.{is_later}
use Rattle.chpw_record.specs.declared.record.Record.{Record}
use Rattle.chpw_record.specs.declared.record.Record.TheVariants as record_of
use Rattle.chpw_journal.specs.JournalText.{with_record, restored, IsNextRecord, AreNext}
use Rattle.chpw_journal.specs.Runs.{SameKeys, IsSound, Run, records_in, last_state}
use Rattle.chpw_journal.specs.Known.{AreKnown}
use Rattle.chpw_journal.proofs.RecordsLemmas.{restored_joined, next_joined}
use Rattle.chpw_journal.proofs.OpeningLemmas.{openings_are_sound}
use Rattle.chpw_journal.proofs.CountLemmas.{count_runs}
use Rattle.chpw_journal.proofs.RunLemmas.{Follows, runs_next}
use Rattle.chpw_journal.proofs.JoinedLemmas.{tables_may_open}
use Rattle.chpw_journal.proofs.StopLemmas.{unknown_next}
use Rattle.chpw_journal.proofs.CoverLemmas.{AreShared, Covers, all_shared, known_shared, next_shared, opening_few}
use Rattle.chpw_journal.proofs.CoverLemmas.{restored_kept, restored_alike, restored_few, restored_count}
use Rattle.chpw_journal.proofs.FoundLemmas.{found_again, reads_again}
use Rattle.chpw_report.specs.Held.{opening}
use Rattle.chpw_reload.specs.Next.{settings_of, next_config, next_state}
use Rattle.chpw_reload.specs.Comparing.{AreNewest}
use Rattle.chpw_reload.specs.Reloads.{IsRenewed, IsReload}
use Rattle.chpw_reload.specs.Laws.{IdsStay, KeysStay, KeysAreGiven, CountStays, TimesStay, ReloadsAreSound}
use Rattle.chpw_reload.specs.Laws.{RemovedAreGone, LaterStartsFind, LaterStartsRead, StartsKnowAll, StartsFindAgain}
use Rattle.chpw_reload.proofs.KeyLemmas.{chosen, next_keys}
use Rattle.chpw_reload.proofs.NewestLemmas.{newest_itself, newest_taken}
use Rattle.chpw_table.proofs.KeyLemmas.{kept_some}

-- ---- what stays

pub ids_stay : IdsStay
ids_stay file records left next h id young =
    h.opens.ids id (ap (λ (c : ℤ). is_later c id.ctime) h.is_left.clock ∙ young) ∙ h.is_left.ids id young

pub times_stay : TimesStay
times_stay file records left next h = (
  ap (λ (f : Fixed). f.quiet_until) h.opens.fixed ∙ ap (λ (f : Fixed). f.quiet_until) h.is_left.fixed,
  h.opens.clock ∙ h.is_left.clock,
  ap (λ (f : Fixed). f.realm) h.opens.fixed ∙ (sym h.may.realm ∙ ap (λ (f : Fixed). f.realm) h.is_left.fixed),
  h.opens.broken ∙ h.is_left.broken,
)

pub count_stays : CountStays
count_stays file records left next h =
    let now : new_count next ≡ max h.closed.count h.renewed.count = h.opens.count in
    let was : h.closed.count ≡ new_count left = h.is_left.count in
    omega (arith, now, was)

-- ---- keys

renewed_kept : (file : Config) (records : List Record) (renewed : State) → IsRenewed file records renewed → kept_count renewed ≡ max file.policy.depth 1
renewed_kept file records renewed h = ap (λ (f : Fixed). max f.policy.depth 1) h.table.fixed ∙ restored_kept (opening file) records

pub next_kept : (file : Config) (records : List Record) (left next : State) → IsReload file records left next → kept_count next ≡ max file.policy.depth 1
next_kept file records left next h = ap (λ (f : Fixed). max f.policy.depth 1) h.opens.fixed

-- the keys of a name that a next history opens with
keys_next : (file : Config) (records : List Record) (left next : State) (h : IsReload file records left next) (name : Name)
    → keys_held next name ≡ chosen (max file.policy.depth 1) (keys_held (restored (opening file) records) name) (keys_held left name)
keys_next file records left next h name =
    h.opens.principals name
    ∙ (next_keys (settings_of file) h.closed h.renewed name
    ∙ (ap (λ (x : Option (List KeyRow)). chosen (max file.policy.depth 1) x (keys_held h.closed name)) (h.is_renewed.table.principals name)
    ∙ ap (λ (x : Option (List KeyRow)). chosen (max file.policy.depth 1) (keys_held (restored (opening file) records) name) x) (h.is_left.principals name)))

chosen_whole : (kept : ℕ) (found other : Option (List KeyRow)) → IsSome found → IfSome found (λ keys. length keys ≤ kept) → chosen kept found other ≡ found
chosen_whole kept None other some few = absurd (cc)
chosen_whole kept (Some keys) other some few = ap Some (take_all kept keys few)

chosen_other : (kept kept2 : ℕ) (found other : Option (List KeyRow)) → kept ≡ kept2 → found ≡ None → chosen kept found other ≡ option_map (take kept2) other
chosen_other kept kept2 found other e h = rw h (ap (λ (n : ℕ). option_map (take n) other) e)

pub keys_are_given : KeysAreGiven
keys_are_given file records left next h name =
    let kept : ℕ = max file.policy.depth 1 in
    let renewed : State = restored (opening file) records in (
      λ some. keys_next file records left next h name
          ∙ chosen_whole kept (keys_held renewed name) (keys_held left name) some
          (subst (λ (k : ℕ). IfSome (keys_held renewed name) (λ keys. length keys ≤ k)) (restored_kept (opening file) records)
          (restored_few (opening file) records (opening_few file (negsuc 0)) name)),
      λ none. keys_next file records left next h name
          ∙ chosen_other kept (kept_count next) (keys_held renewed name) (keys_held left name)
          (sym (next_kept file records left next h)) none,
    )

pub keys_stay : KeysStay
keys_stay file records left next h name keys e = at (keys_held h.renewed name) refl
  where
    kept : kept_count next ≡ max file.policy.depth 1
    kept = next_kept file records left next h

    more : (j : ℕ) × (max file.policy.depth 1 ≡ suc j)
    more = kept_some file.policy.depth

    -- the same, of as many keys as are kept now
    taken : (others : List KeyRow) → AreNewest (take (max file.policy.depth 1) keys) others
        → AreNewest (take (max file.policy.depth 1) keys) (take (max file.policy.depth 1) others)
    taken others n =
        subst (λ (k : ℕ). AreNewest (take k keys) (take k others)) (sym more.1)
        (newest_taken more.0 keys others (subst (λ (k : ℕ). AreNewest (take k keys) others) more.1 n))

    now : (found : Option (List KeyRow)) → keys_held h.renewed name ≡ found → keys_held next name ≡ chosen (max file.policy.depth 1) found (Some keys)
    now found f =
        h.opens.principals name
        ∙ (next_keys (settings_of file) h.closed h.renewed name
        ∙ (ap (λ (x : Option (List KeyRow)). chosen (max file.policy.depth 1) x (keys_held h.closed name)) f
        ∙ ap (λ (x : Option (List KeyRow)). chosen (max file.policy.depth 1) found x) (h.is_left.principals name ∙ e)))

    at : (found : Option (List KeyRow)) → keys_held h.renewed name ≡ found
        → (later : List KeyRow) × (keys_held next name ≡ Some later) × AreNewest (take (kept_count next) keys) later
    at None f = (
      take (max file.policy.depth 1) keys,
      now None f,
      subst (λ (k : ℕ). AreNewest (take k keys) (take (max file.policy.depth 1) keys)) (sym kept) (newest_itself (take (max file.policy.depth 1) keys)),
    )
    at (Some others) f = (
      take (max file.policy.depth 1) others,
      now (Some others) f,
      subst (λ (k : ℕ). AreNewest (take k keys) (take (max file.policy.depth 1) others)) (sym kept)
          (taken others (subst (λ (k : ℕ). AreNewest (take k keys) others)
          (renewed_kept file records h.renewed h.is_renewed) (h.may.keys name keys others (h.is_left.principals name ∙ e) f))),
    )

-- ---- within the limits

pub reloads_are_sound : ReloadsAreSound
reloads_are_sound file records left next h =
    let t : State = next_state (settings_of file) h.closed h.renewed in
    let o = openings_are_sound (next_config (settings_of file) h.closed h.renewed) h.closed.fixed.quiet_until h.may.fits in
    let sound : IsSound t = record { count = o.count; names = o.names; versions = o.versions; counts = o.counts } in
    (tables_may_open t [] next (record { sound = sound; each = tt; counts = tt }) h.opens).sound

-- ---- a later start

one_next : (s : State) (records more : List Record) (r : Record) → AreNext s (records ++ r ∷ more) → IsNextRecord (restored s records) r
one_next s [] more r n = n.1
one_next s (q ∷ qs) more r n = one_next (with_record q s) qs more r n.2

pub starts_know_all : StartsKnowAll
starts_know_all file quiet records more r n unknown =
    unknown_next (restored (opening_of file quiet) records) r unknown (one_next (opening_of file quiet) records more r n)

known_like : (s u t : State) (rs : List Record) → ((name : Name) → keys_held s name ≡ keys_held u name) → AreKnown s t rs → AreKnown u t rs
known_like s u t [] same h = tt
known_like s u t ((record_of.Key kind c) ∷ rs) same h = (λ some. subst IsSome (same c.name) (h.0 some), known_like s u t rs same h.1)
known_like s u t ((record_of.Raise count) ∷ rs) same h = (tt, known_like s u t rs same h.1)

module _ (file : Config) (records : List Record) (left next : State) (quiet : ℤ) (h : IsReload file records left next) where
  -- the quiet time changes no keys
  same_keys : (name : Name) → keys_held (restored (opening file) records) name ≡ keys_held (restored (opening_of file quiet) records) name
  same_keys name = restored_alike (opening file) (opening_of file quiet) records name refl refl

  covers : Covers (restored (opening_of file quiet) records) next
  covers = record {
    kept = restored_kept (opening_of file quiet) records ∙ sym (next_kept file records left next h);
    keys = λ name some.
        sym (same_keys name)
        ∙ sym ((keys_are_given file records left next h name).0 (subst IsSome (sym (same_keys name)) some));
  }

  front : AreNext (opening_of file quiet) records
  front =
      next_shared (opening_of file quiet) (opening file) records refl
      (all_shared (opening_of file quiet) (opening file) records (λ name. refl)) h.is_renewed.next

  -- a name of the file has what it is given, or was removed
  own_of : RemovedAreGone file records left → (name : Name) → IsSome (keys_held (opening_of file quiet) name) → (x : Option (List KeyRow))
      → keys_held (restored (opening file) records) name ≡ x
      → keys_held (restored (opening_of file quiet) records) name ≡ keys_held next name
  own_of gone name some (Some keys) e =
      covers.keys name (subst IsSome (sym e ∙ same_keys name) (search rules))
  own_of gone name some None e =
      sym (same_keys name)
      ∙ (e ∙ sym ((keys_are_given file records left next h name).1 e
      ∙ ap (option_map (take (kept_count next))) (gone name some e)))

  lower : new_count (restored (opening_of file quiet) records) ≤ new_count next
  lower =
      let a : new_count (restored (opening_of file quiet) records) ≤ new_count (restored (opening file) records) =
      restored_count (opening_of file quiet) (opening file) records (omega arith) in
      let b : h.renewed.count ≡ new_count (restored (opening file) records) = h.is_renewed.table.count in
      let c : new_count next ≡ max h.closed.count h.renewed.count = h.opens.count in
      omega (arith, a, b, c)

  shared_there : (runs : List Run) → AreKnown (restored (opening file) records) next (records_in runs)
      → AreShared (restored (opening_of file quiet) records) next (records_in runs)
  shared_there runs known =
      known_shared (restored (opening_of file quiet) records) next (records_in runs) covers
      (known_like (restored (opening file) records) (restored (opening_of file quiet) records) next (records_in runs) same_keys known)

pub later_starts_find : LaterStartsFind
later_starts_find file records left next runs quiet h f known gone =
    found_again (opening_of file quiet) next records (front file records left next quiet h) (covers file records left next quiet h) runs f
    (shared_there file records left next quiet h runs known) (lower file records left next quiet h)
    (λ name some. own_of file records left next quiet h gone name some (keys_held (restored (opening file) records) name) refl)

pub later_starts_read : LaterStartsRead
later_starts_read file records left next runs quiet cut h f known c =
    reads_again (opening_of file quiet) next records (front file records left next quiet h) (covers file records left next quiet h) runs f
    (shared_there file records left next quiet h runs known) cut c

-- the same without a reload
pub starts_find_again : StartsFindAgain
starts_find_again file records quiet s runs n a f =
    let start : State = opening file in
    let put : State = restored start records in
    let began : State = restored (opening_of file quiet) records in
    let more : List Record = records_in runs in
    let joined : restored start (records ++ more) ≡ restored put more = restored_joined start records more in
    let same : SameKeys put s = record {
      kept = restored_kept start records ∙ (sym (restored_kept (opening_of file quiet) records) ∙ sym (ap (λ (f : Fixed). max f.policy.depth 1) a.fixed));
      keys = λ name. restored_alike start (opening_of file quiet) records name refl refl ∙ sym (a.principals name);
    } in
    let follows : Follows put more (last_state s runs) = runs_next put s runs same f.each in
    let low : new_count put ≤ new_count began = restored_count start (opening_of file quiet) records (omega arith) in
    let high : new_count began ≤ new_count put = restored_count (opening_of file quiet) start records (omega arith) in
    let is : new_count s ≡ new_count began = a.count in
    let counts : new_count put ≡ new_count s = omega (arith, low, high, is) in
    record {
      next = next_joined start records more n follows.0;
      kept = ap kept_count joined ∙ follows.1.kept;
      keys = λ name some. ap (λ (u : State). keys_held u name) joined ∙ follows.1.keys name;
      others = λ name some. ap (λ (u : State). keys_held u name) joined ∙ follows.1.keys name;
      count =
          let b : new_count (restored start (records ++ more)) ≡ new_count (restored put more) = ap new_count joined in
          let c : new_count (restored put more) ≡ new_count (last_state s runs) = count_runs put s runs f.each f.counts counts in
          omega (arith, b, c);
    }
