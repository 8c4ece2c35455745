-- What holds of all that can happen between the service and the agent, in any order.
use Rattle.std.specs.Prelude.{◌≡◌, ℕ, ◌+◌, ◌^◌, ◌<◌, ◌≤◌, List, [], ◌∷◌, ◌++◌, ◌⊎◌, Bool, true, false, map, length, Option, Some}
use Rattle.std.specs.Prelude.{None, Result, Ok, Err, is_ok}
use Rattle.std.specs.List.{AllByRecursion}
use Rattle.chpw_rules.specs.declared.name.Name.{Name}
use Rattle.chpw_record.specs.declared.key.KeyRow.{KeyRow}
use Rattle.chpw_kdc.specs.declared.fields.KeyPair.{KeyPair}
use Rattle.chpw_kdc.specs.declared.fault.ProtocolFault.{ProtocolFault}
use Rattle.chpw_kdc.specs.declared.answer.Answer.{Answer}
use Rattle.chpw_kdc.specs.declared.answer.Answer.TheVariants as answer
use Rattle.chpw_kdc.specs.declared.put.UnderWay.TheVariants as asked
use Rattle.chpw_kdc.specs.declared.update.KdcUpdate.{KdcUpdate}
use Rattle.chpw_kdc.specs.declared.update.KdcUpdate.TheVariants as update
use Rattle.chpw_kdc.specs.Lines.{Request, list_keys, get, put, answer_of, is_sayable, request_line}
use Rattle.chpw_kdc.specs.Mirrors.{key_of, may_adopt, adopted}
use Rattle.chpw_kdc.specs.Dialogs.{State, at_start, after_hold, after_none, after_full_table, after_want, after_want_comparison, after_lost_want}
use Rattle.chpw_kdc.specs.Dialogs.{after_connect, after_loss, after_fault, after_ask, after_tick, after_take, after_decision, after_telling}
use Rattle.chpw_kdc.specs.Dialogs.{changes_of, request_by, is_late, first_update}
use Rattle.chpw_kdc.specs.Answering.{after_byte, after_bytes, is_first, is_put_for, is_many, lacked_in, without_first}

-- ---- what happens

-- The table has a key of a name, or no such name, or no room for it; a change is accepted, or lost; a comparison is wanted; a
-- connection is made, or lost; the service asks;
-- the agent says a byte, where this is the test of which names are the service's; time passes; the desk is asked, and decides;
-- a notice is taken.
pub data Event : Type 0 where
  holds : Name → KeyRow → Event
  holds_none : Name → Event
  fills : Name → Event
  wants : ℕ → Name → KeyRow → Event
  loses_want : Event
  wants_comparison : Event
  connects : ℕ → Event
  loses : ℕ → Event
  asks : ℕ → Event
  hears : (Name → Bool) → ℕ → ℕ → Event
  ticks : ℕ → Event
  takes : Event
  decides : Event
  tells : Event

-- at a fault the connection ends
abbrev pub or_lost : ℕ → State → Result State ProtocolFault → State
or_lost now s (Ok t) = t
or_lost now s (Err why) = after_fault now s

abbrev pub behind : State → Event → State
behind s (holds name key) = after_hold name key s
behind s (holds_none name) = after_none name s
behind s (fills name) = after_full_table name s
behind s (wants now name key) = after_want now name key s
behind s loses_want = after_lost_want s
behind s wants_comparison = after_want_comparison s
behind s (connects now) = after_connect now s
behind s (loses now) = after_loss now s
behind s (asks now) = after_ask now s
behind s (hears ours now byte) = or_lost now s (after_byte ours now s byte)
behind s (ticks now) = after_tick now s
behind s takes = after_take s
behind s decides = after_decision s
behind s tells = after_telling s

abbrev pub run : State → List Event → State
run s [] = s
run s (e ∷ es) = run (behind s e) es

-- the state after these events, the first of which come after the start
abbrev pub state_after : ℕ → List Event → State
state_after start events = run (at_start start) events

-- ---- pieces

-- bytes that are heard together do what they do one by one, in any pieces
abbrev pub Piecewise : Type 0
Piecewise =
    (ours : Name → Bool) (now : ℕ) (s t : State) (bytes : List ℕ)
    → after_bytes ours now s bytes ≡ Ok t → run s (map (λ (b : ℕ). hears ours now b) bytes) ≡ t

-- ---- what is put

-- this event tells the key of the name
abbrev pub Tells : Event → Name → KeyRow → Type 0
Tells (holds n k) name key = (n ≡ name) × (k ≡ key)
Tells (wants now n k) name key = (n ≡ name) × (k ≡ key)
Tells e name key = ⊥

pub record IsTold (events : List Event) (name : Name) (key : KeyRow) : Type 0 where
  pub before : List Event
  pub event : Event
  pub later : List Event
  pub parts : events ≡ before ++ event ∷ later
  pub tells : Tells event name key

-- each put is of a key that was reported for that name, under its version
abbrev pub PutsAreTold : Type 0
PutsAreTold =
    (start : ℕ) (events : List Event) (now : ℕ) (name : Name) (key : KeyRow)
    → request_by now (state_after start events) ≡ Some (put name key) → IsTold events name key

-- ---- what is confirmed

-- the answer settles a put of this key: it says that the KDC has it in this version or a higher one, that there is no such name,
-- or that it is never written
abbrev pub Settles : Answer → Name → KeyRow → Type 0
Settles (answer.Put n kvno) name key = (n ≡ name) × (key.kvno ≤ kvno)
Settles (answer.None n) name key = n ≡ name
Settles (answer.Refused n why) name key = n ≡ name
Settles a name key = ⊥

-- a put of this key of the name is under way, and the line so far is an answer that settles it
pub record IsAnswered (s : State) (name : Name) (key : KeyRow) : Type 0 where
  pub answer : Answer
  pub under_way : s.asked ≡ Some (asked.Put key)
  pub line : answer_of s.heard ≡ Ok answer
  pub settles : Settles answer name key

-- a change got this ticket, and later the put of its own key was answered by a whole line
pub record IsConfirmed (start : ℕ) (events : List Event) (ticket : ℕ) : Type 0 where
  pub before : List Event
  pub wanted_at : ℕ
  pub name : Name
  pub key : KeyRow
  pub between : List Event
  pub ours : Name → Bool
  pub now : ℕ
  pub later : List Event
  pub parts : events ≡ before ++ wants wanted_at name key ∷ (between ++ hears ours now 10 ∷ later)
  pub issued : (state_after start before).issued + 1 ≡ ticket
  pub answered : IsAnswered (state_after start (before ++ wants wanted_at name key ∷ between)) name key

-- a ticket is confirmed only so
abbrev pub Truthful : Type 0
Truthful =
    (start : ℕ) (events : List Event) (ticket : ℕ)
    → 0 < ticket → ticket ≤ (state_after start events).confirmed → IsConfirmed start events ticket

-- what was confirmed stays confirmed
abbrev pub NeverFalls : Type 0
NeverFalls =
    (start : ℕ) (events more : List Event) → (state_after start events).confirmed ≤ (state_after start (events ++ more)).confirmed

-- ---- what the desk is asked

-- the connection doesn't end with these events
abbrev pub Keeps : State → Event → Type 0
Keeps s (connects now) = ⊥
Keeps s (loses now) = ⊥
Keeps s (hears ours now byte) = is_ok (after_byte ours now s byte) ≡ true
Keeps s (ticks now) = is_late now s ≡ false
Keeps s e = Unit {0}

abbrev pub Lasts : State → List Event → Type 0
Lasts s [] = Unit {0}
Lasts s (e ∷ es) = Keeps s e × Lasts (behind s e) es

-- the KDC's version is newer than the mirror's, or the mirror lacks the name and it may be adopted
abbrev pub IsNews : (Name → Bool) → Option KeyRow → Name → ℕ → Type 0
IsNews ours None name kvno = may_adopt ours name ≡ true
IsNews ours (Some held) name kvno = held.kvno < kvno

-- the mirror's key of a name has this version
abbrev pub HasVersion : Option KeyRow → ℕ → Type 0
HasVersion None kvno = ⊥
HasVersion (Some held) kvno = held.kvno ≡ kvno

-- this name was asked for: alone, or by a put
abbrev pub IsAskedFor : State → Name → Type 0
IsAskedFor s name =
    ((s.asked ≡ Some asked.Get) × (is_first s.gets name ≡ true))
    ⊎ ((key : KeyRow) × (s.asked ≡ Some (asked.Put key)) × (is_put_for s.puts name ≡ true))

-- the line so far is an answer that gives the desk this to do
abbrev pub Grounds : (Name → Bool) → State → KdcUpdate → Type 0
Grounds ours s (update.Adopt name key) =
    (keys : KeyPair) × (answer_of s.heard ≡ Ok (answer.Has name key.kvno keys)) × (key ≡ adopted key.kvno keys)
    × IsNews ours (key_of s.mirror name) name key.kvno
Grounds ours s (update.Lift name kvno) =
    (key : KeyRow) × (answer_of s.heard ≡ Ok (answer.Put name kvno)) × (s.asked ≡ Some (asked.Put key)) × (is_put_for s.puts name ≡ true)
    × (key.kvno < kvno) × HasVersion (key_of s.mirror name) key.kvno
Grounds ours s (update.Remove name) = (answer_of s.heard ≡ Ok (answer.None name)) × IsAskedFor s name

-- the agent said what the update is for, over the connection that there still is
pub record IsGrounded (start : ℕ) (events : List Event) (u : KdcUpdate) : Type 0 where
  pub before : List Event
  pub ours : Name → Bool
  pub now : ℕ
  pub later : List Event
  pub parts : events ≡ before ++ hears ours now 10 ∷ later
  pub grounds : Grounds ours (state_after start before) u
  pub lasts : Lasts (state_after start before) (hears ours now 10 ∷ later)

abbrev pub UpdatesAreGrounded : Type 0
UpdatesAreGrounded =
    (start : ℕ) (events : List Event) (u : KdcUpdate) → first_update (state_after start events).updates ≡ Some u → IsGrounded start events u

-- at the end of a list the names that it lacks are asked for alone, if they may be removed
abbrev pub AsksTheLacked : State → State → Type 0
AsksTheLacked s t =
    (t.gets ≡ lacked_in s.listed s.mirror) × (is_many (length (lacked_in s.listed s.mirror)) (length s.mirror) ≡ false)

-- otherwise those that are asked for alone only become fewer
abbrev pub AsksFew : State → State → Type 0
AsksFew s t = (t.gets ≡ s.gets) ⊎ (t.gets ≡ without_first s.gets) ⊎ (t.gets ≡ []) ⊎ AsksTheLacked s t

abbrev pub FewAreAsked : Type 0
FewAreAsked = (s : State) (e : Event) → AsksFew s (behind s e)

-- ---- faults

-- no key, no change on its way and no ticket is another
pub record SameKeys (s t : State) : Type 0 where
  pub mirror : t.mirror ≡ s.mirror
  pub puts : changes_of t.puts ≡ changes_of s.puts
  pub issued : t.issued ≡ s.issued
  pub confirmed : t.confirmed ≡ s.confirmed

-- after a loss, and after a byte at which there is a fault
abbrev pub FaultsChangeNothing : Type 0
FaultsChangeNothing =
    (s : State) (ours : Name → Bool) (now byte : ℕ) (why : ProtocolFault)
    → SameKeys s (behind s (loses now)) × (after_byte ours now s byte ≡ Err why → SameKeys s (behind s (hears ours now byte)))

-- ---- what is asked when

-- one request at a time
abbrev pub OneAtATime : Type 0
OneAtATime = (s : State) (now : ℕ) (r : Request) → request_by now s ≡ Some r → s.asked ≡ None

-- puts that wait are asked before anything else, and so before the list that follows a connection
abbrev pub PutsComeFirst : Type 0
PutsComeFirst =
    (s : State) (now : ℕ)
    → ((name : Name) → request_by now s ≡ Some (get name) → s.puts ≡ [])
    × (request_by now s ≡ Some list_keys → (s.puts ≡ []) × (s.gets ≡ []) × (s.updates ≡ []) × (s.deciding ≡ 0))

-- ---- how long a line is

-- a name that a line can have, and a key as `KeyRow` has it
abbrev pub IsSayableKey : Name → KeyRow → Type 0
IsSayableKey name key = (is_sayable name ≡ true) × (key.kvno < 2 ^ 32) × (length key.aes256 ≡ 32) × (length key.aes128 ≡ 16)

-- `hold` and `want` let no other name in
abbrev pub IsTakenIn : Event → Type 0
IsTakenIn (holds name key) = IsSayableKey name key
IsTakenIn (wants now name key) = IsSayableKey name key
IsTakenIn e = Unit {0}

-- no request has more than 1,024 bytes
abbrev pub LinesAreShort : Type 0
LinesAreShort =
    (start : ℕ) (events : List Event) (now : ℕ) (r : Request) → AllByRecursion IsTakenIn events
    → request_by now (state_after start events) ≡ Some r → length (request_line r) ≤ 1024
