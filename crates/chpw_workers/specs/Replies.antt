-- What a worker answers to one message, and when a history is full after it.
use Rattle.std.specs.Prelude.{◌≡◌, ℕ, ◌+◌, ◌-◌, List, Bool, true, false, Option, Some, None, IsSomeAnd, MatchOption}
use Rattle.std.specs.Prelude.{nat_le, nat_lt, if◌then◌else◌, option_and_then, length, slice_get}
use Rattle.chpw_serve.specs.declared.serving.Ended.{Ended}
use Rattle.chpw_serve.specs.declared.serving.Ended.TheVariants as end
use Rattle.chpw_table.specs.declared.history.Receipt.{Receipt}
use Rattle.chpw_rules.specs.declared.name.Name.{Name}
use Rattle.chpw_record.specs.declared.key.KeyRow.{KeyRow}
use Rattle.chpw_table.specs.declared.digest.Digest.{Digest}
use Rattle.chpw_table.specs.declared.history.Event.{Event}
use Rattle.chpw_table.specs.declared.history.Event.TheVariants.{Ask}
use Rattle.chpw_table.specs.declared.request.Body.{Body}
use Rattle.chpw_table.specs.declared.request.Body.TheVariants as body
use Rattle.chpw_table.specs.declared.request.Opened.{Opened}
use Rattle.chpw_table.specs.declared.verdict.Verdict.TheVariants.{Done}
use Rattle.chpw_table.specs.Requests.{target_of}
use Rattle.chpw_book.specs.Newest.{IsMadeHeld}
use Rattle.chpw_connections.specs.declared.kdc_change.KdcChange.{KdcChange}
use Rattle.chpw_connections.specs.declared.kdc_change.KdcChange.TheVariants as change
use Rattle.chpw_connections.specs.declared.taking.Reply.{Reply}

abbrev pub IsReplyWith : List ℕ → Bool → Option Reply → Type 0
IsReplyWith bytes last reply = IsSomeAnd reply (λ r. (r.bytes.items ≡ bytes) × (r.is_last ≡ last))

-- the reply to a message whose stream ended so, after these bytes were written for it: after a message that was too
-- long the connection ends; a reply that isn't whole isn't sent
abbrev pub IsReplyBehind : Ended → List ℕ → Option Reply → Type 0
IsReplyBehind end.Input bytes reply = IsReplyWith bytes false reply
IsReplyBehind end.TooLong bytes reply = IsReplyWith bytes true reply
IsReplyBehind e bytes reply = reply ≡ None

-- this receipt is of the last entry for which there is room
abbrev pub is_last_of : Option Receipt → Option ℕ → Bool
is_last_of None room = false
is_last_of (Some r) None = false
is_last_of (Some r) (Some room) = nat_le room (r.position + 1)

-- the newest of these receipts is
abbrev pub fills_at : List Receipt → Option ℕ → Bool
fills_at receipts room = is_last_of (slice_get receipts (length receipts - 1)) room

-- the principal whose password a request changes, and the password's digest
abbrev pub password_in_body : Name → Body → Option (Name × Digest)
password_in_body name (body.Ask target digest) = Some (name, digest)
password_in_body name body.BadPrivate = None
password_in_body name body.BadData = None

abbrev pub password_in : Opened → Option (Name × Digest)
password_in o = password_in_body (target_of o).name o.body

-- those of an event by which a password was changed
abbrev pub change_made_by : Event → Option (Name × Digest)
change_made_by (Ask o Done) = password_in o
change_made_by e = None

-- those of the newest of these receipts, if there is one more than before
abbrev pub change_made_after : ℕ → List Receipt → Option (Name × Digest)
change_made_after before receipts =
    if nat_lt before (length receipts)
    then option_and_then (λ (r : Receipt). change_made_by r.entry.event) (slice_get receipts (length receipts - 1))
    else None

-- What a turn leaves to be put into the KDC's database: nothing without a change, or a KDC; and otherwise the newest of the
-- name's keys that is the new password's, unless memory ran out, or none of them is held any more.
abbrev pub IsChangeOf : (Name → Option (List KeyRow) → Type 0) → Name × Digest → KdcChange → Type 0
IsChangeOf holds made change.Nothing = ⊥
IsChangeOf holds made (change.Key c) = (c.name ≡ made.0) × IsMadeHeld holds made.0 made.1 (Some c.key)
IsChangeOf holds made change.Lost = Unit {0}

abbrev pub IsKdcChange : (Name → Option (List KeyRow) → Type 0) → Bool → ℕ → List Receipt → KdcChange → Type 0
IsKdcChange holds has_kdc before receipts left =
    MatchOption (if has_kdc then change_made_after before receipts else None) (left ≡ change.Nothing) (λ made. IsChangeOf holds made left)
