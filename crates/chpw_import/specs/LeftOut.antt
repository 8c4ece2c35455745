-- Which entries of a keytab are skipped, and why: each for the first of these reasons.
use Rattle.std.specs.Prelude.{ℕ, ◌+◌, Bool, false, not, ◌&&◌, ◌==◌, if◌then◌else◌, List, [], ◌∷◌, ◌++◌, length, Option, Some, None, is_some, Result, Ok, Err}
use Rattle.std.specs.List.{find, list_any}
use Rattle.krb_keys.specs.declared.key.Key.{Key}
use Rattle.krb_keytab.specs.declared.entry.KeytabEntry.{KeytabEntry}
use Rattle.chpw_rules.specs.declared.name.Name.{Name}
use Rattle.chpw_rules.specs.declared.config.KeyBytes.{KeyBytes}
use Rattle.chpw_rules.specs.declared.config.PrincipalRow.{PrincipalRow}
use Rattle.chpw_rules.specs.declared.config.ServiceRow.{ServiceRow}
use Rattle.chpw_rules.specs.Fitting.{is_same_etype}
use Rattle.chpw_rules.specs.Names.{is_same_name}
use Rattle.chpw_import.specs.declared.left.SkippedEntry.{SkippedEntry}
use Rattle.chpw_import.specs.declared.left.Reason.{Reason}
use Rattle.chpw_import.specs.declared.left.Reason.TheVariants.{Repeated, Unpaired, BehindGap, TooManyKeys, TooManyPrincipals}
use Rattle.chpw_import.specs.declared.slot.Slot.{Slot}
use Rattle.chpw_import.specs.declared.slot.Found.{Found}
use Rattle.chpw_import.specs.Entries.{named, key_in}
use Rattle.chpw_import.specs.Tables.{latest, newest, slot_in}
use Rattle.chpw_import.specs.Rows.{is_service, pair_for}

-- ---- the service's keys

-- the row of a key of this kvno and encryption type
abbrev pub is_key_of : KeytabEntry → ServiceRow → Bool
is_key_of e row = (row.kvno == e.kvno) && is_same_etype row.etype e.etype

-- a key of the service is used if it has a row
abbrev pub unused_of_service : KeytabEntry → List ServiceRow → Option Reason
unused_of_service e service = if list_any (is_key_of e) service then None else Some TooManyKeys

-- ---- a principal's keys

-- the keys that are used: its row's, none if it has no row
abbrev pub row_keys : Option PrincipalRow → List KeyBytes
row_keys None = []
row_keys (Some row) = row.keys

abbrev pub used_keys : Name → List PrincipalRow → List KeyBytes
used_keys name rows = row_keys (find (λ row. is_same_name row.name name) rows)

abbrev pub has_version : ℕ → List KeyBytes → Bool
has_version kvno keys = list_any (λ key. key.kvno == kvno) keys

-- A principal's key is used if its version is. The versions that are used go down from the newest one without a gap;
-- the next one is skipped for a reason of its own, and whatever is older comes after the gap.
abbrev pub unused : (kvno newest : ℕ) → List KeyBytes → (is_pair : Bool) → Option Reason
unused kvno newest keys is_pair =
    if has_version kvno keys then None
    else if not (kvno + length keys == newest) then Some BehindGap
    else if not is_pair then Some Unpaired
    else if length keys == 0 then Some TooManyPrincipals
    else Some TooManyKeys

-- ---- an entry

-- the one whose key its slot has
abbrev pub is_found : ℕ → Option Found → Bool
is_found index None = false
is_found index (Some found) = found.index == index

-- why an entry with this name, whose key can be used, is skipped, for these keys, newest versions and rows
abbrev pub usable : (Slot → Option Found) → (Name → ℕ) → List ServiceRow → List PrincipalRow → ℕ → KeytabEntry → Name → Option Reason
usable keys newest service principals index e name =
    if not (is_found index (keys (slot_in name e))) then Some Repeated
    else if is_service name then unused_of_service e service
    else unused e.kvno (newest name) (used_keys name principals) (is_some (pair_for keys 1 name e.kvno))

-- what comes first: it can't be used by itself, or the reason by its name
abbrev pub first_why : Result Name Reason → Result Key Reason → (Name → Option Reason) → Option Reason
first_why (Err why) key next = Some why
first_why (Ok name) (Err why) next = Some why
first_why (Ok name) (Ok key) next = next name

abbrev pub why_left : List ℕ → (Slot → Option Found) → (Name → ℕ) → List ServiceRow → List PrincipalRow → ℕ → KeytabEntry → Option Reason
why_left realm keys newest service principals index e =
    first_why (named realm e) (key_in e) (usable keys newest service principals index e)

-- ---- the file

abbrev pub told : ℕ → Option Reason → List SkippedEntry
told index (Some why) = record { index = index; why = why } ∷ []
told index None = []

-- the skipped ones of entries, the first of which is the index-th of the file
abbrev pub told_from : (ℕ → KeytabEntry → Option Reason) → ℕ → List KeytabEntry → List SkippedEntry
told_from why index [] = []
told_from why index (e ∷ es) = told index (why index e) ++ told_from why (index + 1) es

-- each entry that isn't used, in the order of the file
abbrev pub left_out : List ℕ → List KeytabEntry → List ServiceRow → List PrincipalRow → List SkippedEntry
left_out realm es service principals =
    told_from (why_left realm (λ s. latest realm s 0 es) (λ n. newest realm n es) service principals) 0 es
