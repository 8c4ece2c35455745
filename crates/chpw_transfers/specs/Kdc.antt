-- The KDC, as the connections' state knows it.
use Rattle.std.specs.Prelude.{◌≡◌, ℕ, ◌+◌, Bool, true, false, not, ◌==◌, ◌||◌, ◌&&◌, ◌⊎◌, nat_lt, List, length, Option, Some}
use Rattle.std.specs.Prelude.{None, Ok, MatchBool, if◌then◌else◌}
use Rattle.std.specs.Option.{option_map}
use Rattle.std.specs.declared.net.ip_addr.IpAddr.{IpAddr}
use Rattle.slab.specs.Slab.{Slab, get}
use Rattle.chpw_rules.specs.declared.name.Name.{Name}
use Rattle.chpw_rules.specs.declared.pattern.NamePatterns.{NamePatterns}
use Rattle.chpw_record.specs.declared.key.KeyRow.{KeyRow}
use Rattle.chpw_record.specs.declared.record.PrincipalKey.{PrincipalKey}
use Rattle.chpw_kdc.specs.declared.fault.ProtocolFault.{ProtocolFault}
use Rattle.chpw_kdc.specs.Dialogs.{State, after_hold, after_none, after_full_table, after_want, after_want_comparison, after_lost_want}
use Rattle.chpw_kdc.specs.Dialogs.{after_decision, is_in_reach}
use Rattle.chpw_kdc.specs.Answering.{after_bytes}
use Rattle.chpw_kdc.specs.Answers.{FaultsIn}
use Rattle.chpw_connection.specs.Confirming.{Confirms, Withdraws}
use Rattle.chpw_connection.specs.Stages.{failed, released}
use Rattle.chpw_connections.specs.Confirming.{EndsOverdue}
use Rattle.chpw_connection.specs.declared.connection.Connection.{Connection}
use Rattle.chpw_connections.specs.declared.kdc_change.KdcChange.{KdcChange}
use Rattle.chpw_connections.specs.declared.kdc_change.KdcChange.TheVariants as change
use Rattle.chpw_connections.specs.declared.taking.Reply.{Reply}
use Rattle.chpw_transfers.specs.declared.kdc.Release.{Release}
use Rattle.chpw_transfers.specs.declared.kdc.KdcSide.{KdcSide}
use Rattle.chpw_transfers.specs.declared.kdc.Release.TheVariants as release
use Rattle.chpw_transfers.specs.declared.kdc.UpdateEnd.{UpdateEnd}
use Rattle.chpw_transfers.specs.declared.kdc.UpdateEnd.TheVariants as end

-- the last ticket that is confirmed, whether keys are on their way, and whether there is something for a worker
abbrev pub confirmed_in : Option State → ℕ
confirmed_in None = 0
confirmed_in (Some s) = s.confirmed

abbrev pub is_behind : Option State → Bool
is_behind None = false
is_behind (Some s) = not (length s.puts == 0)

abbrev pub has_update : Option State → Bool
has_update None = false
has_update (Some s) = not (length s.updates == 0)

-- the worker that takes what the KDC says into the table
abbrev pub is_clerk : ℕ → Bool
is_clerk worker = worker == 0

-- ---- what a turn leaves

-- the ticket that a reply waits for, and the reply, if it may go at all
abbrev pub ticket_of : Release → Option ℕ
ticket_of release.Now = None
ticket_of (release.After ticket) = Some ticket
ticket_of release.Never = None

abbrev pub reply_under : Option Reply → Release → Option Reply
reply_under None r = None
reply_under (Some reply) release.Now = Some reply
reply_under (Some reply) (release.After ticket) = Some reply
reply_under (Some reply) release.Never = None

-- where the KDC has to be in reach, nobody is told of a change whose key was lost
abbrev pub release_of_lost : Bool → Release
release_of_lost needed = if needed then release.Never else release.Now

-- a reply waits for the next ticket while there is a connection, or where the KDC has to be in reach
abbrev pub release_of_key : Bool → State → Release
release_of_key needed s = if needed || s.pace.connected then release.After (s.issued + 1) else release.Now

-- its key is on its way; or it is lost, and they are compared anew
abbrev pub LeavesKey : Bool → ℕ → PrincipalKey → State → State → Release → Type 0
LeavesKey needed now c s t r =
    ((t ≡ after_want now c.name c.key s) × (r ≡ release_of_key needed s))
    ⊎ (((t ≡ after_lost_want (after_hold c.name c.key s)) ⊎ (t ≡ after_lost_want s)) × (r ≡ release_of_lost needed))

abbrev pub LeavesChange : Bool → ℕ → Option State → KdcChange → Option State → Release → Type 0
LeavesChange needed now None c new r = (new ≡ None) × (r ≡ release.Now)
LeavesChange needed now (Some s) change.Nothing new r = (new ≡ Some s) × (r ≡ release.Now)
LeavesChange needed now (Some s) (change.Key c) new r = (t : State) × (new ≡ Some t) × LeavesKey needed now c s t r
LeavesChange needed now (Some s) change.Lost new r = (new ≡ Some (after_lost_want s)) × (r ≡ release_of_lost needed)

-- ---- whether requests are decided

-- always, unless the KDC has to get each change within a time: then while it does
abbrev pub is_deciding : ℕ → Option ℕ → Option State → Bool
is_deciding now None kdc = true
is_deciding now (Some reach) None = false
is_deciding now (Some reach) (Some s) = is_in_reach reach now s

-- ---- what the agent says

abbrev pub IsHeard : (Name → Bool) → ℕ → List ℕ → Option State → Option State → Type 0
IsHeard ours now bytes None new = new ≡ None
IsHeard ours now bytes (Some s) new = (t : State) × (new ≡ Some t) × (after_bytes ours now s bytes ≡ Ok t)

abbrev pub IsFaulty : (Name → Bool) → ℕ → List ℕ → ProtocolFault → Option State → Option State → Type 0
IsFaulty ours now bytes fault None new = ⊥
IsFaulty ours now bytes fault (Some s) new = (t : State) × (new ≡ Some t) × FaultsIn ours now s bytes t fault

-- the KDC has to be in reach, and doesn't have the key that was confirmed last
abbrev pub is_withheld : Bool → Option State → Bool
is_withheld needed None = false
is_withheld needed (Some s) = needed && not s.written

-- the replies that wait for no more than is confirmed are to be written; where they are withheld their connections end
abbrev pub SettlesEach : Bool → ℕ → ℕ → Slab Connection → Slab Connection → Type 0
SettlesEach true confirmed now old new = (slot : ℕ) → Withdraws confirmed (get old slot) (get new slot)
SettlesEach false confirmed now old new = (slot : ℕ) → Confirms confirmed now (get old slot) (get new slot)

abbrev pub Releases : Bool → ℕ → ℕ → ℕ → Slab Connection → Slab Connection → Type 0
Releases withheld before confirmed now old new = MatchBool (nat_lt before confirmed) (SettlesEach withheld confirmed now old new) (new ≡ old)

-- the first reply that has waited for this long is to be written, or it is dropped where the KDC has to be in reach
abbrev pub OverdueEnds : Bool → ℕ → ℕ → Slab Connection → Slab Connection → IpAddr → ℕ → Type 0
OverdueEnds true wait now old new peer ticket = EndsOverdue wait now failed 0 old new peer ticket
OverdueEnds false wait now old new peer ticket = EndsOverdue wait now released now old new peer ticket

-- ---- what is told of the table

-- this is the name's newest key, or it isn't held; or memory ran out for that, and they are compared anew
abbrev pub IsToldTo : Name → Option KeyRow → State → State → Type 0
IsToldTo name None s t = t ≡ after_none name s
IsToldTo name (Some key) s t = (t ≡ after_hold name key s) ⊎ (t ≡ after_lost_want s)

-- the table has no room for the name, which is told; or memory ran out for that, and they are compared anew
abbrev pub IsToldFull : Name → State → State → Type 0
IsToldFull name s t = (t ≡ after_full_table name (after_none name s)) ⊎ (t ≡ after_want_comparison (after_none name s))

-- what came of an update is told
abbrev pub IsEnded : Name → Option KeyRow → UpdateEnd → State → State → Type 0
IsEnded name newest end.Over s t = IsToldTo name newest s t
IsEnded name newest end.Postponed s t = (u : State) × IsToldTo name newest s u × (t ≡ after_want_comparison u)
IsEnded name newest end.TableFull s t = IsToldFull name s t

-- a worker has decided what the KDC said, or it was refused
abbrev pub IsDecided : Name → Option KeyRow → UpdateEnd → Option State → Option State → Type 0
IsDecided name newest end None new = new ≡ None
IsDecided name newest end (Some s) new = (t : State) × (new ≡ Some t) × IsEnded name newest end (after_decision s) t

-- ---- a side of the KDC

abbrev pub dialog_in : Option KdcSide → Option State
dialog_in = option_map (λ (side : KdcSide). side.dialog)

abbrev pub names_in : Option KdcSide → Option NamePatterns
names_in = option_map (λ (side : KdcSide). side.names)

abbrev pub reach_in : Option KdcSide → Option ℕ
reach_in None = None
reach_in (Some side) = side.reach
