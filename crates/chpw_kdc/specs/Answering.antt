-- What the agent's answers do.
use Rattle.std.specs.Prelude.{ℕ, ◌+◌, ◌/◌, Bool, true, false, not, ◌&&◌, ◌==◌, nat_lt, nat_le, max, is_some, if◌then◌else◌}
use Rattle.std.specs.Prelude.{List, [], ◌∷◌, ◌++◌, length, Option, Some, None, Result, Ok, Err}
use Rattle.std.specs.List.{list_any}
use Rattle.std.specs.BTreeMap.{is_at}
use Rattle.std.specs.BTreeSet.{insert_key}
use Rattle.chpw_rules.specs.declared.name.Name.{Name}
use Rattle.chpw_rules.specs.Names.{name_cmp, is_same_name}
use Rattle.chpw_record.specs.declared.key.KeyRow.{KeyRow}
use Rattle.chpw_kdc.specs.declared.fields.KeyPair.{KeyPair}
use Rattle.chpw_kdc.specs.declared.answer.Reason.{Reason}
use Rattle.chpw_kdc.specs.declared.answer.Answer.{Answer}
use Rattle.chpw_kdc.specs.declared.answer.Answer.TheVariants as answer
use Rattle.chpw_kdc.specs.declared.fault.LineFault.{LineFault}
use Rattle.chpw_kdc.specs.declared.fault.ProtocolFault.{ProtocolFault}
use Rattle.chpw_kdc.specs.declared.fault.ProtocolFault.TheVariants as fault
use Rattle.chpw_kdc.specs.declared.judging.Judgement.{Judgement}
use Rattle.chpw_kdc.specs.declared.judging.Judgement.TheVariants as judged
use Rattle.chpw_kdc.specs.declared.put.Put.{Put}
use Rattle.chpw_kdc.specs.declared.put.UnderWay.{UnderWay}
use Rattle.chpw_kdc.specs.declared.put.UnderWay.TheVariants as asked
use Rattle.chpw_kdc.specs.declared.update.KdcUpdate.{KdcUpdate}
use Rattle.chpw_kdc.specs.declared.update.KdcUpdate.TheVariants as update
use Rattle.chpw_kdc.specs.Faults.{fault_of_line}
use Rattle.chpw_kdc.specs.Lines.{answer_of, is_changed}
use Rattle.chpw_kdc.specs.Mirrors.{Mirror, key_of, judgement, is_same}
use Rattle.chpw_kdc.specs.Paces.{pace_awaiting, pace_failed, pace_postponed, pace_succeeded, pace_ended, pace_due}
use Rattle.chpw_kdc.specs.Tellings.{after_refusal, after_accepted, after_missing, after_few, after_failure, after_success}
use Rattle.chpw_kdc.specs.Dialogs.{State, is_of_change}

-- ---- the parts of an answer's effect

abbrev pub with_update : KdcUpdate → State → State
with_update u s = record s { updates = s.updates ++ u ∷ [] }

-- a change's put, of this key of the name: its version, and both keys
abbrev pub brings : Name → KeyRow → Put → Bool
brings name key p =
    is_of_change p && is_same_name p.name name && is_same p.key key.kvno (record { aes256 = key.aes256; aes128 = key.aes128 })

-- the KDC gets this key, since a change's put of it is on its way
abbrev pub is_on_its_way : List Put → Name → KeyRow → Bool
is_on_its_way puts name key = list_any (brings name key) puts

-- the KDC gets this key, once
abbrev pub with_put : Name → KeyRow → State → State
with_put name key s =
    if is_on_its_way s.puts name key then s
    else record s { puts = s.puts ++ record { name = name; key = key; ticket = None; since = s.pace.began } ∷ [] }

abbrev pub after_judgement : Name → Judgement → State → State
after_judgement name judged.Leave s = s
after_judgement name (judged.Adopt key) s = with_update (update.Adopt name key) s
after_judgement name (judged.Put key) s = with_put name key s

-- the KDC has these keys of the name
abbrev pub compared : (Name → Bool) → Name → ℕ → KeyPair → State → State
compared ours name kvno keys s = after_judgement name (judgement ours (key_of s.mirror name) name kvno keys) s

abbrev pub refused : Name → Reason → State → State
refused name why s = record s { tellings = after_refusal name why s.tellings }

-- the KDC has the name, but the agent doesn't write it or give its keys: reported, if the mirror has it
abbrev pub refused_if_held : Name → Reason → State → State
refused_if_held name why s = if is_some (key_of s.mirror name) then refused name why s else s

-- the request was answered
abbrev pub succeeded : State → State
succeeded s = record s { asked = None; tellings = after_success s.tellings; pace = pace_succeeded s.pace }

-- a put failed, and is made again after a pause, before anything else is asked
abbrev pub retried : List ℕ → ℕ → State → State
retried text now s = record s { asked = None; tellings = after_failure text s.tellings; pace = pace_failed now s.pace }

-- a list failed, or a look at one name: there is a list again, after a pause
abbrev pub postponed : List ℕ → ℕ → State → State
postponed text now s = record s { asked = None; tellings = after_failure text s.tellings; pace = pace_postponed now s.pace }

-- ---- the list

abbrev pub is_listed : List Name → Name → Bool
is_listed listed name = list_any (is_at (name_cmp name)) listed

abbrev pub with_listed : Name → State → State
with_listed name s = record s { listed = insert_key name_cmp s.listed name }

-- the names that the mirror has and the list hasn't named
abbrev pub lacked_in : List Name → Mirror → List Name
lacked_in listed [] = []
lacked_in listed (e ∷ es) = if is_listed listed e.0 then lacked_in listed es else e.0 ∷ lacked_in listed es

-- so many of all are too many to be removed: more than ten, and more than a tenth
abbrev pub is_many : ℕ → ℕ → Bool
is_many gone of = nat_lt 10 gone && nat_lt (of / 10) gone

-- the names that are lacked are asked for alone, unless they are many, which is reported
abbrev pub with_lacked : List Name → State → State
with_lacked lacked s =
    if is_many (length lacked) (length s.mirror) then record s { tellings = after_missing (length lacked) (length s.mirror) s.tellings }
    else record s { gets = lacked; tellings = after_few s.tellings }

abbrev pub after_end : ℕ → ℕ → State → Result State ProtocolFault
after_end count now s =
    if not (length s.listed == count) then Err fault.WrongCount
    else let t = with_lacked (lacked_in s.listed s.mirror) s in Ok (succeeded (record t { listed = []; pace = pace_ended now t.pace }))

abbrev pub list_postponed : List ℕ → ℕ → State → State
list_postponed text now s = record (postponed text now s) { listed = [] }

-- a line of the list
abbrev pub of_list : (Name → Bool) → ℕ → State → Answer → Result State ProtocolFault
of_list ours now s (answer.Has name kvno keys) =
    if is_listed s.listed name then Err fault.NamedTwice else Ok (compared ours name kvno keys (with_listed name s))
of_list ours now s (answer.Other name why) =
    if is_listed s.listed name then Err fault.NamedTwice else Ok (refused_if_held name why (with_listed name s))
of_list ours now s (answer.End count) = after_end count now s
of_list ours now s (answer.ListFailed text) = Ok (list_postponed text now s)
of_list ours now s a = Err fault.OutOfTurn

-- ---- a name that was asked for alone

-- the name is the first of these
abbrev pub is_first : List Name → Name → Bool
is_first [] name = false
is_first (n ∷ ns) name = is_same_name n name

abbrev pub without_first : {A : Type 0} → List A → List A
without_first [] = []
without_first (x ∷ xs) = xs

abbrev pub got : State → State
got s = succeeded (record s { gets = without_first s.gets })

-- this, if the answer is about the right name
abbrev pub if_named : Bool → State → Result State ProtocolFault
if_named true s = Ok s
if_named false s = Err fault.OtherName

-- the next name is asked for; this one is, where the next list lacks it, too
abbrev pub unknown : List ℕ → ℕ → State → State
unknown text now s = postponed text now (record s { gets = without_first s.gets })

abbrev pub of_get : (Name → Bool) → ℕ → State → Answer → Result State ProtocolFault
of_get ours now s (answer.Has name kvno keys) = if_named (is_first s.gets name) (got (compared ours name kvno keys s))
of_get ours now s (answer.Other name why) = if_named (is_first s.gets name) (got (refused_if_held name why s))
of_get ours now s (answer.None name) = if_named (is_first s.gets name) (got (with_update (update.Remove name) s))
of_get ours now s (answer.Failed name text) = if_named (is_first s.gets name) (unknown text now s)
of_get ours now s a = Err fault.OutOfTurn

-- ---- a put

abbrev pub is_put_for : List Put → Name → Bool
is_put_for [] name = false
is_put_for (p ∷ ps) name = is_same_name p.name name

abbrev pub later_ticket : ℕ → Option ℕ → ℕ
later_ticket confirmed None = confirmed
later_ticket confirmed (Some ticket) = max confirmed ticket

abbrev pub confirmed_with : ℕ → List Put → ℕ
confirmed_with confirmed [] = confirmed
confirmed_with confirmed (p ∷ ps) = later_ticket confirmed p.ticket

-- the first put is done with, and its ticket is confirmed
abbrev pub popped : State → State
popped s = record s { puts = without_first s.puts; confirmed = confirmed_with s.confirmed s.puts }

-- the answer says whether the KDC has its key
abbrev pub settled : Bool → State → State
settled written s = succeeded (record (popped s) { written = written })

abbrev pub has_version : Option KeyRow → ℕ → Bool
has_version None kvno = false
has_version (Some held) kvno = held.kvno == kvno

-- the table's newest key is the one that was put: the mirror has its version, and the desk has decided all that it was asked
abbrev pub is_newest : Name → ℕ → State → Bool
is_newest name put s = has_version (key_of s.mirror name) put && (length s.updates == 0) && (s.deciding == 0)

-- the KDC has the key under a higher version: the table's is lifted if it is the newest one; else they are compared, and the key
-- comes back in front of others
abbrev pub after_higher : Name → ℕ → ℕ → State → State
after_higher name put kvno s =
    if is_newest name put s then with_update (update.Lift name kvno) s else record s { pace = pace_due s.pace }

abbrev pub lifted : Name → ℕ → ℕ → State → State
lifted name put kvno s = if nat_lt put kvno then after_higher name put kvno s else s

abbrev pub accepted : Name → State → State
accepted name s = record s { tellings = after_accepted name s.tellings }

abbrev pub of_put : KeyRow → ℕ → State → Answer → Result State ProtocolFault
of_put key now s (answer.Put name kvno) =
    if not (is_put_for s.puts name) then Err fault.OtherName
    else if nat_lt kvno key.kvno then Err fault.LowerVersion
    else Ok (settled true (accepted name (lifted name key.kvno kvno s)))
of_put key now s (answer.None name) = if_named (is_put_for s.puts name) (settled false (with_update (update.Remove name) s))
of_put key now s (answer.Refused name why) = if_named (is_put_for s.puts name) (settled false (refused name why s))
of_put key now s (answer.Failed name text) = if_named (is_put_for s.puts name) (retried text now s)
of_put key now s a = Err fault.OutOfTurn

-- ---- an answer, and the bytes that make it up

abbrev pub of_asked : (Name → Bool) → ℕ → Option UnderWay → State → Answer → Result State ProtocolFault
of_asked ours now None s a = Err fault.OutOfTurn
of_asked ours now (Some asked.List) s a = of_list ours now s a
of_asked ours now (Some asked.Get) s a = of_get ours now s a
of_asked ours now (Some (asked.Put key)) s a = of_put key now s a

-- a line of the answer under way: the next one is awaited anew
abbrev pub awaiting : ℕ → State → State
awaiting now s = record s { pace = pace_awaiting now s.pace }

-- `changed` may be said at any time: a comparison is due, and an answer under way is awaited no longer than before
abbrev pub after_answer : (Name → Bool) → ℕ → State → Answer → Result State ProtocolFault
after_answer ours now s a =
    if is_changed a then Ok (record s { pace = pace_due s.pace }) else of_asked ours now s.asked (awaiting now s) a

abbrev pub after_read : (Name → Bool) → ℕ → State → Result Answer LineFault → Result State ProtocolFault
after_read ours now s (Ok a) = after_answer ours now s a
after_read ours now s (Err why) = Err (fault_of_line why)

-- a whole line
abbrev pub after_line : (Name → Bool) → ℕ → State → Result State ProtocolFault
after_line ours now s = after_read ours now (record s { heard = [] }) (answer_of s.heard)

abbrev pub after_byte : (Name → Bool) → ℕ → State → ℕ → Result State ProtocolFault
after_byte ours now s byte =
    if not s.pace.connected then Err fault.NotConnected
    else if byte == 10 then after_line ours now s
    else if nat_le 1024 (length s.heard + 1) then Err fault.LineTooLong
    else Ok (record s { heard = s.heard ++ byte ∷ [] })

abbrev pub and_then : Result State ProtocolFault → (State → Result State ProtocolFault) → Result State ProtocolFault
and_then (Ok s) f = f s
and_then (Err why) f = Err why

-- one after the other, up to the first fault
abbrev pub each : {A : Type 0} → (State → A → Result State ProtocolFault) → State → List A → Result State ProtocolFault
each step s [] = Ok s
each step s (x ∷ xs) = and_then (step s x) (λ t. each step t xs)

abbrev pub after_bytes : (Name → Bool) → ℕ → State → List ℕ → Result State ProtocolFault
after_bytes ours now s bytes = each (after_byte ours now) s bytes
