-- Laws of the machine.
use Rattle.std.specs.Prelude.{◌≡◌, ◌≢◌, ℕ, ℤ, ◌+◌, ◌+ℤ◌, ◌≤ℤ◌, ◌≤◌, List, [], ◌∷◌, ◌++◌, length, Bool}
use Rattle.std.specs.Prelude.{true, false, ◌&&◌, if◌then◌else◌, Option, IsSome, IfSome, option_map, take, map, unwrap_or}
use Rattle.chpw_rules.specs.declared.name.Name.{Name}
use Rattle.chpw_rules.specs.Names.{is_same_name}
use Rattle.chpw_table.specs.declared.times.TheConstants.{CLOCK_SKEW}
use Rattle.chpw_table.specs.declared.times.Moment.{Moment}
use Rattle.chpw_table.specs.declared.request.Opened.{Opened}
use Rattle.chpw_table.specs.declared.verdict.Verdict.TheVariants.{Skew, Done}
use Rattle.chpw_table.specs.declared.history.Event.{Event}
use Rattle.chpw_table.specs.declared.history.Event.TheVariants.{Ask, Raise, Update}
use Rattle.chpw_table.specs.declared.updating.KdcUpdate.{KdcUpdate}
use Rattle.chpw_table.specs.declared.updating.KdcUpdate.TheVariants.{Adopt, Lift, Remove}
use Rattle.chpw_table.specs.declared.history.Entry.{Entry}
use Rattle.chpw_record.specs.declared.key.KeyRow.{KeyRow}
use Rattle.chpw_table.specs.Requests.{id_of, target_of}
use Rattle.chpw_table.specs.State.{State, keys_held, kept_count, new_count}
use Rattle.chpw_table.specs.Verdicts.{adds_id, reads_keys, is_done}
use Rattle.chpw_table.specs.Decision.{verdict, newest_kvno}
use Rattle.chpw_table.specs.Step.{step, new_key}
use Rattle.chpw_table.specs.Raising.{step_raise}
use Rattle.chpw_table.specs.Updates.{step_update, update_verdict, name_in, kind_of, key_in, keys_after, is_taken}
use Rattle.chpw_table.specs.History.{step_entry, outcome, missing, IsLegal}
use Rattle.chpw_table.specs.Standing.{refused_anyway}

-- a verdict other than Done leaves all principals
abbrev pub RefusalKeepsKeys : Type 0
RefusalKeepsKeys = (s : State) (now : Moment) (o : Opened) (io : Bool) →
    verdict s now o io ≢ Done → (step s now o io).principals ≡ s.principals

-- a name's newest version
abbrev pub newest_of : State → Name → Option ℕ
newest_of s name = option_map newest_kvno (keys_held s name)

-- Done raises the target's newest version by one
abbrev pub DoneRaisesTarget : Type 0
DoneRaisesTarget = (s : State) (now : Moment) (o : Opened) (io : Bool) → verdict s now o io ≡ Done →
    IsSome (newest_of s (target_of o).name)
    × (newest_of (step s now o io) (target_of o).name ≡ option_map (λ n. n + 1) (newest_of s (target_of o).name))

-- no other name's keys change, whatever the verdict
abbrev pub OthersStay : Type 0
OthersStay = (s : State) (now : Moment) (o : Opened) (io : Bool) (name : Name) →
    name ≢ (target_of o).name → keys_held (step s now o io) name ≡ keys_held s name

-- a raise leaves all principals and used ids, and never lowers the count
abbrev pub RaiseKeepsKeys : Type 0
RaiseKeepsKeys = (s : State) (now : Moment) (count : ℕ) (io : Bool) →
    ((step_raise s now count io).principals ≡ s.principals) × ((step_raise s now count io).used ≡ s.used)
    × (new_count s ≤ new_count (step_raise s now count io))

-- an update leaves the used ids and the count of new keys, and the keys of each other name; unless it is taken, of its own
-- name too, and what a taken one does to those is what its record's kind says
abbrev pub UpdateTakesOneName : Type 0
UpdateTakesOneName = (s : State) (now : Moment) (u : KdcUpdate) (io : Bool) (name : Name) →
    ((step_update s now u io).used ≡ s.used) × (new_count (step_update s now u io) ≡ new_count s)
    × (keys_held (step_update s now u io) name
    ≡ (if is_taken (update_verdict s u io) && is_same_name (name_in u) name
    then keys_after (kind_of u) (kept_count s) (key_in (keys_held s name) u) (keys_held s name)
    else keys_held s name))

-- an id that an entry added is never judged past Replay again
abbrev pub UsedForGood : Type 0
UsedForGood = (s : State) (before : Moment) (used : Opened) (failed : Bool) (es : List Entry)
    (now : Moment) (o : Opened) (io : Bool) →
    adds_id (verdict s before used failed) ≡ true → id_of o ≡ id_of used →
    adds_id (verdict (outcome (step s before used failed) es) now o io) ≡ false

-- the key that comes with an update
abbrev pub adopted_keys : KdcUpdate → List KeyRow
adopted_keys (Adopt name key) = key ∷ []
adopted_keys (Lift name kvno) = []
adopted_keys (Remove name) = []

-- the key that an event made for a name, or brought
abbrev pub event_keys : State → Event → Name → List KeyRow
event_keys s (Ask o v) name =
    if is_done v && is_same_name (target_of o).name name
    then new_key s o ∷ []
    else []
event_keys s (Raise count v) name = []
event_keys s (Update u v) name =
    if is_taken v && is_same_name (name_in u) name
    then adopted_keys u
    else []

-- those that the entries made or brought, newest first
abbrev pub keys_made : State → List Entry → Name → List KeyRow
keys_made s [] name = []
keys_made s (e ∷ es) name = keys_made (step_entry s e) es name ++ event_keys s e.event name

-- no name has more keys than are kept
abbrev pub HoldsFew : State → Type 0
HoldsFew s = (name : Name) → IfSome (keys_held s name) (λ keys. length keys ≤ kept_count s)

-- whether an event removed this name
abbrev pub removes : Name → Event → Bool
removes name (Update (Remove n) v) = is_taken v && is_same_name n name
removes name _ = false

abbrev pub NeverRemoved : Name → List Entry → Type 0
NeverRemoved name [] = Unit {0}
NeverRemoved name (e ∷ es) = (removes name e.event ≡ false) × NeverRemoved name es

-- a key without its version, which a lift changes
abbrev pub unversioned : KeyRow → KeyRow
unversioned k = record k { kvno = 0 }

-- the keys of a name that is held, or none
abbrev pub keys_or_none : State → Name → List KeyRow
keys_or_none s name = unwrap_or (keys_held s name) []

-- the keys of a name that wasn't removed are those made or brought and then the opening's, of which the newest are kept; only
-- the version of the newest may be higher than it was
abbrev pub KeepsNewest : Type 0
KeepsNewest = (opening : State) (history : List Entry) (name : Name) → IsLegal opening history → HoldsFew opening → NeverRemoved name history →
    map unversioned (keys_or_none (outcome opening history) name)
    ≡ map unversioned (take (kept_count opening) (keys_made opening history name ++ keys_or_none opening name))

-- no moment of these is after the start
abbrev pub AllBefore : ℤ → List Entry → Type 0
AllBefore start [] = Unit {0}
AllBefore start (e ∷ es) = (e.now.seconds ≤ℤ start) × AllBefore start es

-- an id that a run added up to `start` is Skew in a run that is quiet for the skew after it
abbrev pub QuietRefusesFormer : Type 0
QuietRefusesFormer = (opening : State) (es : List Entry) (before : Moment) (used : Opened) (failed : Bool)
    (start : ℤ) → opening.clock ≤ℤ start → AllBefore start es → before.seconds ≤ℤ start →
    adds_id (verdict (outcome opening es) before used failed) ≡ true →
    (next : State) (now : Moment) (o : Opened) (io : Bool) →
    next.fixed.quiet_until ≡ start +ℤ CLOCK_SKEW → id_of o ≡ id_of used → verdict next now o io ≡ Skew

-- a request that is refused anyway has none of its new password's keys looked at, in any state with these fixed parts,
-- and so it lacks none
abbrev pub RefusedAnyway : Type 0
RefusedAnyway = (s : State) (now : Moment) (o : Opened) (io : Bool) → refused_anyway s.fixed now o ≡ true →
    (reads_keys (verdict s now o io) ≡ false) × (missing s now o ≡ [])
