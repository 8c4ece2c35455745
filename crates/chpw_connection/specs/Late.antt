-- Whose time is up, and what becomes of it. Moments are milliseconds.
use Rattle.std.specs.Prelude.{◌≡◌, ℕ, Option, Some, None, Bool, false, MatchBool, nat_le, ◌-◌, ◌&&◌, is_some}
use Rattle.chpw_connection.specs.Stages.{Stage, reading, queued, writing, lingering, failed, stage}
use Rattle.chpw_connection.specs.declared.limits.ConnectionLimits.{ConnectionLimits}
use Rattle.chpw_connection.specs.declared.connection.Connection.{Connection}
use Rattle.chpw_connection.specs.Slot.{queued_at, Comes}

-- how long each stage may last; a message that a worker has is not timed, nor is a reply that waits for a confirmation
abbrev pub time_of : ConnectionLimits → Stage → Option ℕ
time_of b (reading bytes) = Some b.idle
time_of b (writing left last) = Some b.idle
time_of b lingering = Some b.linger
time_of b (queued message) = Some b.wait
time_of b s = None

abbrev pub is_late_at : Option ℕ → ℕ → Bool
is_late_at None waited = false
is_late_at (Some most) waited = nat_le most waited

-- its time is up
abbrev pub is_late : ConnectionLimits → ℕ → Connection → Bool
is_late b now c = is_late_at (time_of b (stage c)) (now - c.since)

abbrev pub is_late_in : ConnectionLimits → ℕ → Option Connection → Bool
is_late_in b now None = false
is_late_in b now (Some c) = is_late b now c

-- a connection whose time is up ends, and another stays
abbrev pub Passes : ConnectionLimits → ℕ → Option Connection → Option Connection → Type 0
Passes b now old new = MatchBool (is_late_in b now old) (Comes 0 failed old new) (new ≡ old)

-- its message waits for a worker, and has waited too long
abbrev pub is_dropped_in : ConnectionLimits → ℕ → Option Connection → Bool
is_dropped_in b now o = is_late_in b now o && is_some (queued_at o)
