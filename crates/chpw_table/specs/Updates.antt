-- What the KDC says of a principal: a key of its own, a version, or that it has it no more. The first test that applies, and
-- what it does.
use Rattle.std.specs.Prelude.{◌≡◌, ℕ, List, [], ◌∷◌, ◌++◌, Bool, true, false, not, ◌&&◌, ◌||◌, if◌then◌else◌, nat_lt, replicate}
use Rattle.std.specs.Prelude.{Option, Some, None, option_map, unwrap_or, is_none, take, filter}
use Rattle.chpw_rules.specs.declared.name.Name.{Name}
use Rattle.chpw_rules.specs.Names.{is_name, is_same_name}
use Rattle.chpw_rules.specs.Limits.{is_in, kvnos, iteration_counts, aes128_length, aes256_length}
use Rattle.chpw_record.specs.declared.key.KeyRow.{KeyRow}
use Rattle.chpw_record.specs.declared.record.KeyKind.{KeyKind}
use Rattle.chpw_record.specs.declared.record.KeyKind.TheVariants as kind
use Rattle.chpw_record.specs.Records.{key_bytes}
use Rattle.chpw_table.specs.declared.times.Moment.{Moment}
use Rattle.chpw_table.specs.declared.table.Principal.{Principal}
use Rattle.chpw_table.specs.declared.updating.KdcUpdate.{KdcUpdate}
use Rattle.chpw_table.specs.declared.updating.KdcUpdate.TheVariants as update
use Rattle.chpw_table.specs.declared.updating.UpdateVerdict.{UpdateVerdict}
use Rattle.chpw_table.specs.declared.updating.UpdateVerdict.TheVariants as verdict
use Rattle.chpw_table.specs.Times.{clock_at}
use Rattle.chpw_table.specs.State.{State, keys_held, kept_count}
use Rattle.chpw_table.specs.Decision.{newest_kvno}

-- ---- the keys of one name

-- a name has these keys from then on, or none: it is held no more
abbrev pub with_keys : Name → Option (List KeyRow) → List Principal → List Principal
with_keys name None ps = filter (λ (p : Principal). not (is_same_name p.name name)) ps
with_keys name (Some keys) ps =
    filter (λ (p : Principal). not (is_same_name p.name name)) ps ++ record { name = name; keys = keys } ∷ []

-- this key in place of the newest
abbrev pub with_newest : KeyRow → List KeyRow → List KeyRow
with_newest key [] = []
with_newest key (k ∷ ks) = key ∷ ks

-- What a record of this kind does to the keys held of its name, of which so many are kept: a change's comes in front, and so
-- does an adopted one, which may be the first; a base is all that there is then; a lifted one takes the newest one's place; and
-- of a removed name none are left.
abbrev pub keys_after : KeyKind → ℕ → KeyRow → Option (List KeyRow) → Option (List KeyRow)
keys_after kind.Change kept key held = option_map (λ (keys : List KeyRow). take kept (key ∷ keys)) held
keys_after kind.Base kept key held = option_map (λ (keys : List KeyRow). key ∷ []) held
keys_after kind.Adopt kept key held = Some (take kept (key ∷ unwrap_or held []))
keys_after kind.Lift kept key held = option_map (with_newest key) held
keys_after kind.Remove kept key held = None

-- ---- an update

abbrev pub name_in : KdcUpdate → Name
name_in (update.Adopt name key) = name
name_in (update.Lift name kvno) = name
name_in (update.Remove name) = name

abbrev pub kind_of : KdcUpdate → KeyKind
kind_of (update.Adopt name key) = kind.Adopt
kind_of (update.Lift name kvno) = kind.Lift
kind_of (update.Remove name) = kind.Remove

-- its version and its iteration count are within a configuration's limits, and so is the name that an adopted key brings
abbrev pub update_fits : KdcUpdate → Bool
update_fits (update.Adopt name key) = is_name name && (is_in kvnos key.kvno && is_in iteration_counts key.count)
update_fits (update.Lift name kvno) = is_in kvnos kvno
update_fits (update.Remove name) = true

-- what the record of a removed name has in place of a key
abbrev pub blank_key : KeyRow
blank_key = record { kvno = 1; count = 1; aes128 = replicate aes128_length 0; aes256 = replicate aes256_length 0 }

-- the newest of these, under this version
abbrev pub lifted_key : ℕ → List KeyRow → KeyRow
lifted_key kvno [] = record blank_key { kvno = kvno }
lifted_key kvno (k ∷ ks) = record k { kvno = kvno }

-- the key that its record has: the KDC's, or the newest one held, under the KDC's version
abbrev pub key_in : Option (List KeyRow) → KdcUpdate → KeyRow
key_in held (update.Adopt name key) = key
key_in held (update.Lift name kvno) = lifted_key kvno (unwrap_or held [])
key_in held (update.Remove name) = blank_key

-- there is a newest key
abbrev pub has_newest : Option (List KeyRow) → Bool
has_newest (Some (k ∷ ks)) = true
has_newest _ = false

-- the version is above the newest one held, or none is held
abbrev pub is_newer : ℕ → Option (List KeyRow) → Bool
is_newer kvno None = true
is_newer kvno (Some keys) = nat_lt (newest_kvno keys) kvno

-- the tests of an update, which depend on the keys held of its name, and on the journal
abbrev pub update_row : KdcUpdate → Option (List KeyRow) → Bool → UpdateVerdict
update_row (update.Adopt name key) held broken =
    if not (is_newer key.kvno held) then verdict.NotNewer
    else if broken then verdict.Broken
    else verdict.Taken
update_row (update.Lift name kvno) held broken =
    if not (has_newest held) then verdict.NoSuchPrincipal
    else if not (is_newer kvno held) then verdict.NotNewer
    else if broken then verdict.Broken
    else verdict.Taken
update_row (update.Remove name) held broken =
    if is_none held then verdict.NoSuchPrincipal
    else if broken then verdict.Broken
    else verdict.Taken

-- the first that applies
abbrev pub update_verdict : State → KdcUpdate → Bool → UpdateVerdict
update_verdict s u io = update_row u (keys_held s (name_in u)) (s.broken || io)

abbrev pub is_taken : UpdateVerdict → Bool
is_taken verdict.Taken = true
is_taken _ = false

abbrev pub is_lost : UpdateVerdict → Bool
is_lost verdict.Broken = true
is_lost _ = false

-- the clock moves on; a failed append breaks the journal; Taken gives the name its keys; nothing else changes
abbrev pub after_update : UpdateVerdict → State → Moment → KdcUpdate → Bool → State
after_update v s now u io =
    let held = keys_held s (name_in u) in
    record s {
      principals = if is_taken v then with_keys (name_in u) (keys_after (kind_of u) (kept_count s) (key_in held u) held) s.principals else s.principals;
      clock = clock_at s now;
      broken = s.broken || (is_lost v && io);
    }

abbrev pub step_update : State → Moment → KdcUpdate → Bool → State
step_update s now u io = after_update (update_verdict s u io) s now u io

-- this verdict is the machine's, and an append failed only if one was made
pub record IsUpdate (s : State) (u : KdcUpdate) (io : Bool) (v : UpdateVerdict) : Type 0 where
  pub verdict_is : v ≡ update_verdict s u io
  pub append : io ≡ true → (v ≡ verdict.Broken) × (s.broken ≡ false)

-- what it appends if it is taken
abbrev pub update_record : State → KdcUpdate → List ℕ
update_record s u = key_bytes (kind_of u) (name_in u) (key_in (keys_held s (name_in u)) u)
