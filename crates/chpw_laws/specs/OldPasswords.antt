-- An old password: which key a change makes of it, how long new passwords are compared with that key, or with one that was
-- adopted from the KDC, and what is refused meanwhile.
use Rattle.std.specs.Prelude.{◌≡◌, ◌≢◌, ℕ, ◌<◌, ◌≤◌, List, [], ◌∷◌, ◌++◌, length, take, map, filter, Contains, Bool, true, false, ◌&&◌}
use Rattle.krb_keys.specs.declared.etype.Etype.TheVariants as etype
use Rattle.krb_keys.specs.Keys.{s2k, bytes_of}
use Rattle.chpw_rules.specs.declared.name.Name.{Name}
use Rattle.chpw_rules.specs.Names.{is_same_name}
use Rattle.chpw_record.specs.declared.key.KeyRow.{KeyRow}
use Rattle.chpw_table.specs.declared.times.Moment.{Moment}
use Rattle.chpw_table.specs.declared.request.Target.{Target}
use Rattle.chpw_table.specs.declared.request.Opened.{Opened}
use Rattle.chpw_table.specs.declared.verdict.Verdict.TheVariants.{Reused, Done}
use Rattle.chpw_table.specs.declared.history.Event.{Event}
use Rattle.chpw_table.specs.declared.history.Event.TheVariants.{Ask, Raise, Update}
use Rattle.chpw_table.specs.declared.updating.KdcUpdate.{KdcUpdate}
use Rattle.chpw_table.specs.declared.updating.KdcUpdate.TheVariants.{Adopt, Lift}
use Rattle.chpw_table.specs.declared.updating.UpdateVerdict.TheVariants.{Taken}
use Rattle.chpw_table.specs.declared.history.Entry.{Entry}
use Rattle.chpw_table.specs.Derivations.{digest_from}
use Rattle.chpw_table.specs.Completing.{salt_of}
use Rattle.chpw_table.specs.Requests.{target_of, digest_of}
use Rattle.chpw_table.specs.State.{State}
use Rattle.chpw_table.specs.Verdicts.{is_done, reads_keys}
use Rattle.chpw_table.specs.Wanted.{compared_keys}
use Rattle.chpw_table.specs.Decision.{verdict}
use Rattle.chpw_table.specs.Step.{new_key}
use Rattle.chpw_table.specs.Raising.{step_raise}
use Rattle.chpw_table.specs.Updates.{name_in, is_taken, step_update}
use Rattle.chpw_table.specs.History.{missing, IsLegal, outcome}
use Rattle.chpw_table.specs.Laws.{keys_made, unversioned, NeverRemoved}

-- the request is for this password of the principal of this name: its digest has the password's keys under some counts
abbrev pub IsFor : Name → List ℕ → Opened → Type 0
IsFor name password o =
    ((target_of o).name ≡ name) × ((counts : List ℕ) × (digest_of o ≡ digest_from password (salt_of (target_of o)) counts))

-- in this state no request for this password of this name is accepted, whoever sends it and whenever, if it has the keys
-- that a decision wants; where no earlier row refuses it, it is refused for reuse
abbrev pub Refuses : State → Name → List ℕ → Type 0
Refuses s name password = (now : Moment) (o : Opened) (io : Bool) → IsFor name password o → missing s now o ≡ [] →
    (verdict s now o io ≢ Done) × (reads_keys (verdict s now o io) ≡ true → verdict s now o io ≡ Reused)

-- ---- one state

-- the principal of this name in the service's realm
abbrev pub principal : State → Name → Target
principal s name = record { realm = s.fixed.realm; name = name }

-- the key's bytes of etype 18 are the password's, under the key's own iteration count (RFC 3962 section 4)
abbrev pub IsKeyOf : State → Name → List ℕ → KeyRow → Type 0
IsKeyOf s name password key = key.aes256 ≡ bytes_of (s2k etype.Aes256 password (salt_of (principal s name)) key.count)

-- and those of etype 17
abbrev pub IsOtherKeyOf : State → Name → List ℕ → KeyRow → Type 0
IsOtherKeyOf s name password key = key.aes128 ≡ bytes_of (s2k etype.Aes128 password (salt_of (principal s name)) key.count)

-- the key is one of those that a new password is compared with, under this version or another
abbrev pub ComparesWith : State → Name → KeyRow → Type 0
ComparesWith s name key = (kvno : ℕ) × Contains (compared_keys s name) (record key { kvno = kvno })

-- an accepted change makes the password's keys
abbrev pub MakesItsKeys : Type 0
MakesItsKeys = (s : State) (now : Moment) (o : Opened) (io : Bool) (name : Name) (password : List ℕ) →
    IsFor name password o → missing s now o ≡ [] → verdict s now o io ≡ Done →
    IsKeyOf s name password (new_key s o) × IsOtherKeyOf s name password (new_key s o)

-- a password is refused while a key of it is among those that a new password is compared with, under whichever version
abbrev pub RefusedWhileCompared : Type 0
RefusedWhileCompared = (s : State) (name : Name) (password : List ℕ) (key : KeyRow) →
    ComparesWith s name key → IsKeyOf s name password key → Refuses s name password

-- a raise of the iteration count leaves the keys that a new password is compared with
abbrev pub RaiseComparesTheSame : Type 0
RaiseComparesTheSame = (s : State) (now : Moment) (count : ℕ) (io : Bool) (name : Name) →
    compared_keys (step_raise s now count io) name ≡ compared_keys s name

-- so does a lift, except for the version of the newest
abbrev pub LiftComparesTheSame : Type 0
LiftComparesTheSame = (s : State) (now : Moment) (lifted : Name) (kvno : ℕ) (io : Bool) (name : Name) →
    map unversioned (compared_keys (step_update s now (Lift lifted kvno) io) name) ≡ map unversioned (compared_keys s name)

-- and any update those of another name
abbrev pub UpdateLeavesOthers : Type 0
UpdateLeavesOthers = (s : State) (now : Moment) (u : KdcUpdate) (io : Bool) (name : Name) →
    is_same_name (name_in u) name ≡ false → compared_keys (step_update s now u io) name ≡ compared_keys s name

-- ---- a history

-- whether an event put a key of this name in front: by a change that was accepted, or by one that was adopted from the KDC
abbrev pub brings_key : Name → Event → Bool
brings_key name (Ask o v) = is_done v && is_same_name (target_of o).name name
brings_key name (Update (Adopt adopted key) v) = is_taken v && is_same_name adopted name
brings_key name _ = false

-- how many keys of this name came in front by these entries
abbrev pub new_keys_of : Name → List Entry → ℕ
new_keys_of name entries = length (filter (λ (e : Entry). brings_key name e.event) entries)

-- a legal history with an accepted change of a name to a password in it, some entries before that and some later
pub record Changed : Type 0 where
  pub opening : State
  pub before : List Entry
  pub change : Entry
  pub later : List Entry
  pub opened : Opened
  pub name : Name
  pub password : List ℕ
  pub legal : IsLegal opening (before ++ change ∷ later)
  pub accepted : change.event ≡ Ask opened Done
  pub asked : IsFor name password opened

-- how many of a name's newest keys a new password is compared with
abbrev pub depth_of : Changed → ℕ
depth_of h = h.opening.fixed.policy.depth

-- the key that the change made
abbrev pub key_of : Changed → KeyRow
key_of h = new_key (outcome h.opening h.before) h.opened

-- the state after the change, and the one after all later entries
abbrev pub after_change : Changed → State
after_change h = outcome h.opening (h.before ++ h.change ∷ [])

abbrev pub end_of : Changed → State
end_of h = outcome h.opening (h.before ++ h.change ∷ h.later)

-- at the end the password is refused if the key that the change made is among those that a new password is compared with
abbrev pub RefusedWhileItsKeyIsCompared : Type 0
RefusedWhileItsKeyIsCompared = (h : Changed) → ComparesWith (end_of h) h.name (key_of h) → Refuses (end_of h) h.name h.password

-- and so it is in each state of a later history of the same realm, after a restart or a reload, that compares with that key
abbrev pub RefusedInLaterHistories : Type 0
RefusedInLaterHistories = (h : Changed) (later : State) → later.fixed.realm ≡ h.opening.fixed.realm →
    ComparesWith later h.name (key_of h) → Refuses later h.name h.password

-- until `depth` further keys of the name came in front, that key is among them, unless the name was removed
abbrev pub ComparedUntilDepth : Type 0
ComparedUntilDepth = (h : Changed) → NeverRemoved h.name h.later → new_keys_of h.name h.later < depth_of h →
    ComparesWith (end_of h) h.name (key_of h)

-- so until then the password is refused
abbrev pub RefusedUntilDepth : Type 0
RefusedUntilDepth = (h : Changed) → NeverRemoved h.name h.later → new_keys_of h.name h.later < depth_of h →
    Refuses (end_of h) h.name h.password

-- but no longer for that change: from then on a new password is compared with the keys that came later alone
abbrev pub ComparedNoLonger : Type 0
ComparedNoLonger = (h : Changed) → NeverRemoved h.name h.later → depth_of h ≤ new_keys_of h.name h.later →
    map unversioned (compared_keys (end_of h) h.name)
    ≡ map unversioned (take (depth_of h) (keys_made (after_change h) h.later h.name))

-- between two accepted changes of a name to one password at least `depth` other keys of it came in front, unless it was
-- removed
abbrev pub DepthOthersBetween : Type 0
DepthOthersBetween = (h : Changed) (again : Entry) (o : Opened) → NeverRemoved h.name h.later →
    IsLegal h.opening ((h.before ++ h.change ∷ h.later) ++ again ∷ []) →
    again.event ≡ Ask o Done → IsFor h.name h.password o →
    depth_of h ≤ new_keys_of h.name h.later
