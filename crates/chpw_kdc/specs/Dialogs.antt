-- What the service says to the agent at the KDC's database: what is kept, and what happens to it when the service says it
-- something.
use Rattle.std.specs.Prelude.{ℕ, ◌+◌, ◌-◌, ◌^◌, min, Bool, true, false, not, ◌&&◌, ◌==◌, is_some, is_none, nat_le, if◌then◌else◌, List, [], ◌∷◌}
use Rattle.std.specs.Prelude.{◌++◌, length, filter, Option, Some, None}
use Rattle.chpw_rules.specs.declared.name.Name.{Name}
use Rattle.chpw_record.specs.declared.key.KeyRow.{KeyRow}
use Rattle.chpw_kdc.specs.declared.pace.Pace.{Pace}
use Rattle.chpw_kdc.specs.declared.put.Put.{Put}
use Rattle.chpw_kdc.specs.declared.put.UnderWay.{UnderWay}
use Rattle.chpw_kdc.specs.declared.put.UnderWay.TheVariants as asked
use Rattle.chpw_kdc.specs.declared.update.KdcUpdate.{KdcUpdate}
use Rattle.chpw_kdc.specs.Lines.{Request, list_keys, get, put}
use Rattle.chpw_kdc.specs.Mirrors.{Mirror, told, without, key_of}
use Rattle.chpw_kdc.specs.Paces.{pace_at_start, pace_connected, pace_lost, pace_at_fault, pace_awaiting, pace_begun, pace_due, may_ask, later}
use Rattle.chpw_kdc.specs.Tellings.{Tellings, nothing_told, after_lost_change, after_full, after_room, after_notice}

-- The mirror; the keys that the KDC is to get, the first of which may be under way; the last ticket that was given, and the
-- last that is confirmed; whether the KDC has the key whose put was answered last; the request under way, and the beginning
-- of a line of its answer; the names that the list under way
-- has named, and those that the last list lacked and that are asked for alone; what the desk is to be asked, and how much it
-- was asked and hasn't decided.
pub record State : Type 0 where
  pub mirror : Mirror
  pub puts : List Put
  pub issued : ℕ
  pub confirmed : ℕ
  pub written : Bool
  pub asked : Option UnderWay
  pub heard : List ℕ
  pub listed : List Name
  pub gets : List Name
  pub updates : List KdcUpdate
  pub deciding : ℕ
  pub tellings : Tellings
  pub pace : Pace

abbrev pub at_start : ℕ → State
at_start now = record {
  mirror = [];
  puts = [];
  issued = 0;
  confirmed = 0;
  written = true;
  asked = None;
  heard = [];
  listed = [];
  gets = [];
  updates = [];
  deciding = 0;
  tellings = nothing_told;
  pace = pace_at_start now;
}

-- ---- what the service says

-- the table has this key as the newest of the name
abbrev pub after_hold : Name → KeyRow → State → State
after_hold name key s = record s { mirror = told s.mirror name key }

-- the table has no such name; if it had, there is room for one that wasn't adopted, and they are compared anew
abbrev pub after_none : Name → State → State
after_none name s =
    let gone = is_some (key_of s.mirror name) in record s {
      mirror = without s.mirror name;
      tellings = if gone then after_room s.tellings else s.tellings;
      pace = if gone && s.tellings.is_full_told then pace_due s.pace else s.pace;
    }

-- the table is full, so that the name isn't adopted
abbrev pub after_full_table : Name → State → State
after_full_table name s = record s { tellings = after_full name s.tellings }

abbrev pub ticketed : ℕ → Name → KeyRow → ℕ → Put
ticketed now name key ticket = record { name = name; key = key; ticket = Some ticket; since = now }

-- as many keys are on their way to the KDC as changes may add to: twice as many as a table has principals
abbrev pub has_most_puts : State → Bool
has_most_puts s = nat_le 20000 (length s.puts)

-- a change was accepted, and gets the next ticket
abbrev pub after_want : ℕ → Name → KeyRow → State → State
after_want now name key s = record s {
  mirror = told s.mirror name key;
  puts = s.puts ++ ticketed now name key (s.issued + 1) ∷ [];
  issued = s.issued + 1;
}

-- the table has changed otherwise
abbrev pub after_want_comparison : State → State
after_want_comparison s = record s { pace = pace_due s.pace }

-- a change was lost
abbrev pub after_lost_want : State → State
after_lost_want s = record s { tellings = after_lost_change s.tellings; pace = pace_due s.pace }

-- ---- the connection

-- the puts that changes wait for; the others come from comparisons
abbrev pub is_of_change : Put → Bool
is_of_change p = is_some p.ticket

abbrev pub changes_of : List Put → List Put
changes_of puts = filter is_of_change puts

-- all that belongs to one connection is forgotten, and what a comparison was to put: the next one finds it again, or something newer
abbrev pub forgotten : State → State
forgotten s = record s { puts = changes_of s.puts; asked = None; heard = []; listed = []; gets = []; updates = [] }

abbrev pub after_connect : ℕ → State → State
after_connect now s = record (forgotten s) { pace = pace_connected now s.pace }

abbrev pub after_loss : ℕ → State → State
after_loss now s = record (forgotten s) { pace = pace_lost now s.pace }

-- the connection ends, since the agent is at fault
abbrev pub after_fault : ℕ → State → State
after_fault now s = record (forgotten s) { pace = pace_lost now (pace_at_fault s.pace) }

-- ---- what is asked

-- a put has its own key: a newer one of the table's has a put of its own, or is the KDC's
abbrev pub put_in : List Put → Option Request
put_in [] = None
put_in (p ∷ ps) = Some (put p.name p.key)

abbrev pub first_put : State → Option Request
first_put s = put_in s.puts

abbrev pub get_in : List Name → Option Request
get_in [] = None
get_in (name ∷ names) = Some (get name)

abbrev pub first_get : State → Option Request
first_get s = get_in s.gets

-- a list, if one is due and the desk has decided what the last one brought
abbrev pub is_list_due : State → Bool
is_list_due s = s.pace.is_due && (length s.updates == 0) && (s.deciding == 0)

abbrev pub first_list : ℕ → State → Option Request
first_list now s = if is_list_due s && nat_le s.pace.compare_at now then Some list_keys else None

abbrev pub or_else : Option Request → Option Request → Option Request
or_else None other = other
or_else (Some r) other = Some r

-- puts first, then the names that a list lacked, then a list
abbrev pub first_request : ℕ → State → Option Request
first_request now s = or_else (first_put s) (or_else (first_get s) (first_list now s))

-- the request that is made now, if none is under way
abbrev pub request_by : ℕ → State → Option Request
request_by now s = if is_none s.asked && may_ask now s.pace then first_request now s else None

-- when a list is asked for, none is due until something changes
abbrev pub after_request : ℕ → Option Request → State → State
after_request now None s = s
after_request now (Some list_keys) s = record s { asked = Some asked.List; pace = pace_awaiting now (pace_begun now s.pace) }
after_request now (Some (get name)) s = record s { asked = Some asked.Get; pace = pace_awaiting now s.pace }
after_request now (Some (put name key)) s = record s { asked = Some (asked.Put key); pace = pace_awaiting now s.pace }

abbrev pub after_ask : ℕ → State → State
after_ask now s = after_request now (request_by now s) s

-- the next line of an answer is late
abbrev pub is_late : ℕ → State → Bool
is_late now s = is_some s.asked && nat_le s.pace.late_at now

abbrev pub after_tick : ℕ → State → State
after_tick now s = if is_late now s then after_fault now s else s

-- ---- whether changes reach the KDC in time

-- the key that it gets next has been on its way for so long
abbrev pub is_late_put : ℕ → ℕ → List Put → Bool
is_late_put wait now [] = false
is_late_put wait now (p ∷ ps) = nat_le (later p.since wait) now

abbrev pub is_in_reach : ℕ → ℕ → State → Bool
is_in_reach wait now s = s.pace.connected && not (is_late_put wait now s.puts)

-- ---- the desk, and what is reported

abbrev pub first_update : List KdcUpdate → Option KdcUpdate
first_update [] = None
first_update (u ∷ us) = Some u

abbrev pub without_update : State → List KdcUpdate → State
without_update s [] = s
without_update s (u ∷ us) = record s { updates = us; deciding = min (s.deciding + 1) (2 ^ 64 - 1) }

abbrev pub after_take : State → State
after_take s = without_update s s.updates

abbrev pub after_decision : State → State
after_decision s = record s { deciding = s.deciding - 1 }

abbrev pub after_telling : State → State
after_telling s = record s { tellings = after_notice s.tellings }
