-- What is to be reported, and what was reported already.
use Rattle.std.specs.Prelude.{ℕ, Bool, true, false, ◌||◌, bytes_eq, codes, if◌then◌else◌, List, [], ◌∷◌, ◌++◌, Option, Some, None}
use Rattle.std.specs.Map.{lookup, remove_entry}
use Rattle.std.specs.BTreeMap.{is_at, insert_entry}
use Rattle.chpw_rules.specs.declared.name.Name.{Name}
use Rattle.chpw_rules.specs.Names.{name_cmp}
use Rattle.chpw_kdc.specs.declared.answer.Reason.{Reason}
use Rattle.chpw_kdc.specs.declared.answer.Reason.TheVariants as reason
use Rattle.chpw_kdc.specs.declared.update.Notice.{Notice}
use Rattle.chpw_kdc.specs.declared.update.Notice.TheVariants.{Lost, Refused, TooManyGone, TableFull, Failed}
use Rattle.chpw_kdc.specs.declared.update.RefusedName.{RefusedName}

-- what is to be reported, the reason that was reported last for each name, the last refusal; a change was lost and that isn't reported
-- yet; a failure was reported and nothing has succeeded since; it was reported that the table is full, and no name has gone since; it was
-- told that many names are gone, and the lists since were so, too
pub record Tellings : Type 0 where
  pub notices : List Notice
  pub told : List (Name × Reason)
  pub refusal : Option RefusedName
  pub is_lost : Bool
  pub is_failing : Bool
  pub is_full_told : Bool
  pub is_many_told : Bool

abbrev pub nothing_told : Tellings
nothing_told = record {
  notices = [];
  told = [];
  refusal = None;
  is_lost = false;
  is_failing = false;
  is_full_told = false;
  is_many_told = false;
}

abbrev pub same_reason : Reason → Reason → Bool
same_reason reason.Reserved reason.Reserved = true
same_reason reason.Components reason.Components = true
same_reason reason.Lockdown reason.Lockdown = true
same_reason reason.Keys reason.Keys = true
same_reason reason.Version reason.Version = true
same_reason a b = false

abbrev pub is_reason : Option Reason → Reason → Bool
is_reason None why = false
is_reason (Some last) why = same_reason last why

-- this reason was the last one reported for the name
abbrev pub is_told : Tellings → Name → Reason → Bool
is_told t name why = is_reason (lookup (is_at (name_cmp name)) t.told) why

-- a refusal is reported
abbrev pub after_told : Name → Reason → Tellings → Tellings
after_told name why t = record t { notices = t.notices ++ Refused name why ∷ []; told = insert_entry name_cmp t.told name why }

abbrev pub with_refusal : Name → Reason → Tellings → Tellings
with_refusal name why t = record t { refusal = Some (record { name = name; reason = why }) }

-- a refusal is reported unless its reason was the last one reported for its name
abbrev pub after_refusal : Name → Reason → Tellings → Tellings
after_refusal name why t = with_refusal name why (if is_told t name why then t else after_told name why t)

-- the next refusal of the name is reported again
abbrev pub after_accepted : Name → Tellings → Tellings
after_accepted name t = record t { told = remove_entry (is_at (name_cmp name)) t.told }

-- a list lacks many names: reported unless that was reported, and the lists since were so, too
abbrev pub after_missing : ℕ → ℕ → Tellings → Tellings
after_missing gone of t =
    if t.is_many_told then t else record t { notices = t.notices ++ TooManyGone gone of ∷ []; is_many_told = true }

-- a list lacks few
abbrev pub after_few : Tellings → Tellings
after_few t = record t { is_many_told = false }

-- a failure is reported unless one was reported and nothing has succeeded since, or another program has the database locked
abbrev pub after_failure : List ℕ → Tellings → Tellings
after_failure text t =
    if t.is_failing || bytes_eq text (codes "locked") then t
    else record t { notices = t.notices ++ Failed text ∷ []; is_failing = true }

abbrev pub after_success : Tellings → Tellings
after_success t = record t { is_failing = false }

-- a name isn't adopted, since the table is full: reported unless that was reported and no name has gone since
abbrev pub after_full : Name → Tellings → Tellings
after_full name t =
    if t.is_full_told then t else record t { notices = t.notices ++ TableFull name ∷ []; is_full_told = true }

abbrev pub after_room : Tellings → Tellings
after_room t = record t { is_full_told = false }

abbrev pub after_lost_change : Tellings → Tellings
after_lost_change t = record t { is_lost = true }

-- the next notice, and what is left then
abbrev pub first_notice : List Notice → Option Notice
first_notice [] = None
first_notice (n ∷ ns) = Some n

abbrev pub rest_of : List Notice → List Notice
rest_of [] = []
rest_of (n ∷ ns) = ns

abbrev pub next_notice : Tellings → Option Notice
next_notice t = if t.is_lost then Some Lost else first_notice t.notices

abbrev pub after_notice : Tellings → Tellings
after_notice t = if t.is_lost then record t { is_lost = false } else record t { notices = rest_of t.notices }
