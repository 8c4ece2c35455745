-- Which sockets the reactor handles, and when.
use Rattle.std.specs.Prelude.{◌≡◌, ℕ, ◌+◌, ◌-◌, ◌==◌, nat_lt, List, [], ◌∷◌, ◌++◌, length, Option, Some, None}
use Rattle.std.specs.Prelude.{Bool, true, false, not, ◌||◌, ◌&&◌, if◌then◌else◌}
use Rattle.slab.specs.Slab.{slab_len}
use Rattle.chpw_connections.specs.Held.{slots_of, accepted_by, changed_of}
use Rattle.chpw_connection.specs.declared.todo.Todo.{Todo}
use Rattle.chpw_connection.specs.declared.todo.Todo.TheVariants as todo
use Rattle.chpw_transfers.specs.Accepting.{is_waiting, has_failed}
use Rattle.chpw_transfers.specs.Bounded.{allows_more}
use Rattle.chpw_transfers.specs.declared.accepting.Accepting.{Accepting}
use Rattle.chpw_transfers.specs.declared.accept_limit.AcceptLimit.{AcceptLimit}
use Rattle.chpw_connections.specs.Queues.{queue_of}
use Rattle.chpw_transfers.specs.Kdc.{is_behind, is_clerk}
use Rattle.chpw_transfers.specs.declared.state.State.{State}

-- something is to be done for a connection although nothing was reported: to read, if there was no room
abbrev pub is_looked_at : Bool → Todo → Bool
is_looked_at reads (todo.Read n) = reads
is_looked_at reads todo.Write = true
is_looked_at reads todo.Linger = true
is_looked_at reads todo.Close = true
is_looked_at reads todo.Wait = false

-- in a round that begins at the first of these numbers, the slot at this turn: those from it on, and then those before it
abbrev pub comes_at : ℕ → ℕ → ℕ → ℕ
comes_at first slots turn = if nat_lt turn (slots - first) then first + turn else turn - (slots - first)

abbrev pub has_none : State → Bool
has_none s = slab_len (slots_of s.connections) == 0

-- all connections that were to be accepted were, or no more can be
abbrev pub has_all : AcceptLimit → Accepting → State → Bool
has_all wanted accepting s = not (allows_more wanted (accepted_by s.connections)) || has_failed accepting

-- and each has ended; or nobody is left to answer
abbrev pub is_finished : AcceptLimit → Accepting → State → Bool
is_finished wanted accepting s = s.is_deserted || (has_all wanted accepting s && has_none s)

-- and no caller at the control socket has an order under way
abbrev pub is_done : AcceptLimit → Accepting → Bool → State → Bool
is_done wanted accepting orders s = s.is_deserted || (has_all wanted accepting s && has_none s && not orders)

-- it waits for its client's next bytes
abbrev pub is_reading : Todo → Bool
is_reading (todo.Read n) = true
is_reading other = false

-- connections have ended, or are noted; a client waits for room; or keys are on their way to the KDC
abbrev pub wants_reactor : State → Bool
wants_reactor s = s.has_newcomer || (nat_lt 0 (length (changed_of s.connections)) || is_behind s.kdc)

-- No time if there is something to do at once, and a second if there is no connection and none can be accepted before
-- the listener is reported. Otherwise a tenth of a second, after which the time of some may be up, and less while
-- keys are on their way to the KDC.
abbrev pub milliseconds_to_wait : Bool → Accepting → State → ℕ
milliseconds_to_wait can_accept accepting s =
    if can_accept || nat_lt 0 (length (changed_of s.connections)) then 0
    else if has_none s && is_waiting accepting then 1000
    else if is_behind s.kdc then 20
    else 100

-- The first slot that is noted is looked at, and noted no longer; what is noted meanwhile comes behind the others. Nothing
-- is said where it isn't known what is noted, or where nothing is.
abbrev pub LooksAtFirst : Option (List ℕ) → Option (List ℕ) → List ℕ → List ℕ → Type 0
LooksAtFirst (Some (slot ∷ slots)) after seen then_seen = ((more : List ℕ) × (after ≡ Some (slots ++ more))) × (then_seen ≡ seen ++ slot ∷ [])
LooksAtFirst (Some []) after seen then_seen = Unit {0}
LooksAtFirst None after seen then_seen = Unit {0}

-- this worker is the clerk, and takes what the KDC says before messages: it did not do that last, or no message waits
abbrev pub is_update_next : ℕ → State → Bool
is_update_next worker s =
    is_clerk worker && (not s.is_stopped && not (s.is_message_next && nat_lt 0 (length (queue_of s.connections worker))))
