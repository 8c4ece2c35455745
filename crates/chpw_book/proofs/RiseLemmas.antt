-- Versions rise along the list of accepted changes, and so does the count of new keys.
use Rattle.std.proofs.Common.{◌≡◌, ℕ, ◌+◌, ◌<◌, List, [], ◌∷◌, ◌++◌, Bool, true, false, ◌||◌, if◌then◌else◌}
use Rattle.std.proofs.Common.{Option, Some, None, unwrap_or, refl, sym, ◌∙◌, ap, subst, arith, rules}
use Rattle.std.specs.Prelude.{option_map, IsSome, nat_le}
use Rattle.std.proofs.lemmas.Bool.Decides.{nat_tests}
use Rattle.std.proofs.lemmas.List.{append-nil}
use Rattle.chpw_rules.specs.declared.name.Name.{Name}
use Rattle.chpw_table.specs.declared.times.Moment.{Moment}
use Rattle.chpw_table.specs.declared.request.Opened.{Opened}
use Rattle.chpw_table.specs.declared.verdict.Verdict.{Verdict}
use Rattle.chpw_table.specs.declared.verdict.Verdict.TheVariants.{Done}
use Rattle.chpw_table.specs.declared.raising.RaiseVerdict.TheVariants as raise
use Rattle.chpw_table.specs.declared.change.KeyChange.{KeyChange}
use Rattle.chpw_table.specs.declared.change.AcceptedChange.{AcceptedChange}
use Rattle.chpw_table.specs.declared.change.AcceptedChange.TheVariants.{Key, Count}
use Rattle.chpw_table.specs.declared.history.Event.{Event}
use Rattle.chpw_table.specs.declared.history.Event.TheVariants.{Ask, Raise, Update}
use Rattle.chpw_table.specs.declared.history.Entry.{Entry}
use Rattle.chpw_table.specs.declared.updating.KdcUpdate.{KdcUpdate}
use Rattle.chpw_record.specs.declared.key.KeyRow.{KeyRow}
use Rattle.chpw_table.specs.Requests.{target_of}
use Rattle.chpw_table.specs.State.{State, keys_held, new_count}
use Rattle.chpw_table.specs.Verdicts.{is_done}
use Rattle.chpw_table.specs.Raising.{is_raised}
use Rattle.chpw_table.specs.Updates.{is_taken, update_fits, update_verdict}
use Rattle.chpw_table.specs.Decision.{verdict, newest_kvno}
use Rattle.chpw_table.specs.Step.{new_key}
use Rattle.chpw_table.specs.History.{IsJudged, IsLegal, is_accepted, step_entry, outcome}
use Rattle.chpw_table.specs.Agreement.{Agrees}
use Rattle.chpw_table.specs.Preparing.{IsNextRow}
use Rattle.chpw_table.specs.Versions.{Shown, change_by, change_in, entry_change, accepted, shown, shown_count, shown_keys}
use Rattle.chpw_table.proofs.KeyLemmas.{done_raises_target}
use Rattle.chpw_table.proofs.VersionLemmas.{shows_held, shows_count}
use Rattle.chpw_decider.proofs.KeepingLemmas.{legal_on, outcome_on}
use Rattle.chpw_journal.specs.Runs.{BringsWhole, AreWhole}
use Rattle.chpw_snapshots.specs.Rising.{IsNextVersion, AreNextVersions}
use Rattle.chpw_book.specs.RisingLaws.{VersionsRise}
use Rattle.chpw_book.proofs.ChangeLemmas.{accepted_on}
use Rattle.chpw_book.proofs.UpdateLemmas.{update_next}

done_alone : (v : Verdict) → is_done v ≡ true → v ≡ Done
done_alone Done h = refl
done_alone v h = absurd (cc)

some_keys : (held : Option (List KeyRow)) → IsSome held → (keys : List KeyRow) × (held ≡ Some keys)
some_keys None h = absurd (cc)
some_keys (Some keys) h = (keys, refl)

has_keys : (held : Option (List KeyRow)) → IsSome (option_map newest_kvno held) → IsSome held
has_keys None h = h
has_keys (Some keys) h = search rules

-- a raise that is accepted is to a higher count
higher : (count n : ℕ) (low broken : Bool) → nat_le count n ≡ low
    → is_raised (if low then raise.NotHigher else if broken then raise.Broken else raise.Raised) ≡ true → n < count
higher count n true broken e h = absurd (cc)
higher count n false true e h = absurd (cc)
higher count n false false e h = grind (arith, nat_tests)

-- the change of an accepted event may come after those before it
event_next : (opening : State) (es : List Entry) (now : Moment) (io : Bool) (event : Event)
    → IsLegal opening es → IsJudged (outcome opening es) now io event → BringsWhole (outcome opening es) event → is_accepted event ≡ true
    → IsNextVersion opening (accepted opening es) (change_by (outcome opening es) event)
event_next opening es now io (Ask o v) legal decided whole done =
    let s : State = outcome opening es in
    let name : Name = (target_of o).name in
    let is : verdict s now o io ≡ Done = sym decided.verdict_is ∙ done_alone v done in
    let held = some_keys (keys_held s name) (has_keys (keys_held s name) (done_raises_target s now o io is).0) in (
      shown_keys held.0,
      shows_held opening es name legal ∙ ap (λ (x : Option (List KeyRow)). option_map shown_keys x) held.1,
      ap (λ (x : Option (List KeyRow)). newest_kvno (unwrap_or x []) + 1) held.1,
      sym (shows_count opening es legal),
    )
event_next opening es now io (Raise count v) legal decided whole done =
    let s : State = outcome opening es in
    let up : new_count s < count = higher count (new_count s)
    (nat_le count (new_count s)) (s.broken || io) refl (ap is_raised (sym decided.verdict_is) ∙ done) in
    subst (λ (n : ℕ). n < count) (sym (shows_count opening es legal)) up
event_next opening es now io (Update u v) legal decided whole done =
    update_next opening (outcome opening es) (accepted opening es) u io (λ name. shows_held opening es name legal)
    (ap is_taken (sym decided.verdict_is) ∙ done) whole.0

-- what is shown of the count after the accepted changes is the count of a table that agrees
count_shown : (opening t : State) (es : List Entry) (list : List AcceptedChange) → IsLegal opening es
    → Agrees t (outcome opening es) → list ≡ accepted opening es → new_count t ≡ shown_count opening list
count_shown opening t es list legal agrees is =
    agrees.count ∙ (sym (shows_count opening es legal) ∙ ap (λ (cs : List AcceptedChange). shown_count opening cs) (sym is))

-- and so may the row that a table makes, which agrees with the history
pub row_next : (opening t : State) (es : List Entry) (list : List AcceptedChange) (now : Moment) (o : Opened) (name : Name) (row : Shown) (count : ℕ)
    → IsLegal opening es → Agrees t (outcome opening es) → list ≡ accepted opening es → IsNextRow t now o name row → count ≡ new_count t
    → IsNextVersion opening list (Key (record { name = name; kvno = row.kvno; count = count }))
row_next opening t es list now o name row count legal agrees is next counted =
    let held = some_keys (keys_held t name) next.held in
    let made : (new_key t o).kvno ≡ newest_kvno (unwrap_or (keys_held t name) []) + 1 =
    ap (λ (n : Name). newest_kvno (unwrap_or (keys_held t n) []) + 1) (sym next.target) in (
      shown_keys held.0,
      ap (λ (cs : List AcceptedChange). shown opening cs name) is ∙ (shows_held opening es name legal
          ∙ (ap (λ (x : Option (List KeyRow)). option_map shown_keys x) (sym (agrees.principals name))
          ∙ ap (λ (x : Option (List KeyRow)). option_map shown_keys x) held.1)),
      sym (ap (λ (c : KeyChange). c.kvno) next.change) ∙ (made ∙ ap (λ (x : Option (List KeyRow)). newest_kvno (unwrap_or x []) + 1) held.1),
      counted ∙ count_shown opening t es list legal agrees is,
    )

-- and a count above that table's
pub count_next : (opening t : State) (es : List Entry) (list : List AcceptedChange) (count : ℕ)
    → IsLegal opening es → Agrees t (outcome opening es) → list ≡ accepted opening es → new_count t < count
    → IsNextVersion opening list (Count count)
count_next opening t es list count legal agrees is above = subst (λ (n : ℕ). n < count) (count_shown opening t es list legal agrees is) above

-- and so may the change of an update that the table takes unless its append fails
pub taken_next : (opening t : State) (es : List Entry) (list : List AcceptedChange) (u : KdcUpdate)
    → IsLegal opening es → Agrees t (outcome opening es) → list ≡ accepted opening es → is_taken (update_verdict t u false) ≡ true
    → update_fits u ≡ true → IsNextVersion opening list (change_in u)
taken_next opening t es list u legal agrees is taken fits =
    update_next opening t list u false
    (λ name. ap (λ (cs : List AcceptedChange). shown opening cs name) is ∙ (shows_held opening es name legal
    ∙ ap (λ (x : Option (List KeyRow)). option_map shown_keys x) (sym (agrees.principals name)))) taken fits

next_more : (opening : State) (before rest : List AcceptedChange) (c : AcceptedChange) (b : Bool) → (b ≡ true → IsNextVersion opening before c)
    → AreNextVersions opening (before ++ (if b then c ∷ [] else [])) rest → AreNextVersions opening before ((if b then c ∷ [] else []) ++ rest)
next_more opening before rest c true here later = (here refl, later)
next_more opening before rest c false here later = subst (λ (cs : List AcceptedChange). AreNextVersions opening cs rest) (append-nil before) later

rise_on : (opening : State) (before es : List Entry) → IsLegal opening before → IsLegal (outcome opening before) es
    → AreWhole (outcome opening before) es → AreNextVersions opening (accepted opening before) (accepted (outcome opening before) es)
rise_on opening before [] legal more whole = tt
rise_on opening before (e ∷ es) legal more whole =
    let s : State = outcome opening before in
    let all : List Entry = before ++ e ∷ [] in
    let after : step_entry s e ≡ outcome opening all = sym (outcome_on opening before e) in
    let goes : IsLegal (outcome opening all) es = subst (λ (t : State). IsLegal t es) after more.1 in
    let brings : AreWhole (outcome opening all) es = subst (λ (t : State). AreWhole t es) after whole.1 in
    let on : AreNextVersions opening (accepted opening all) (accepted (outcome opening all) es) =
    rise_on opening all es (legal_on opening before e legal more.0) goes brings in
    let later : AreNextVersions opening (accepted opening before ++ entry_change s e) (accepted (step_entry s e) es) =
    subst (λ (t : State). AreNextVersions opening (accepted opening before ++ entry_change s e) (accepted t es)) (outcome_on opening before e)
    (subst (λ (cs : List AcceptedChange). AreNextVersions opening cs (accepted (outcome opening all) es)) (accepted_on opening before e) on) in
    next_more opening (accepted opening before) (accepted (step_entry s e) es) (change_by s e.event)
    (is_accepted e.event) (λ done. event_next opening before e.now e.io_failed e.event legal more.0 (whole.0 done) done) later

pub versions_rise : VersionsRise
versions_rise opening history legal whole = rise_on opening [] history tt legal whole
