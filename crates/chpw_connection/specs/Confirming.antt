-- Replies that wait until their changes are confirmed: up to their ticket, or for a time.
use Rattle.std.specs.Prelude.{◌≡◌, ℕ, ◌-◌, Option, Some, None, Bool, true, false, nat_le, if◌then◌else◌, MatchBool}
use Rattle.chpw_connection.specs.Stages.{Stage, confirming, failed, released, stage}
use Rattle.chpw_connection.specs.Slot.{Comes}
use Rattle.chpw_connection.specs.declared.connection.Connection.{Connection}

-- its reply waits for a confirmation
abbrev pub is_confirming : Stage → Bool
is_confirming (confirming reply last ticket) = true
is_confirming s = false

-- its reply waits for a confirmation of no more than this
abbrev pub is_confirmed : ℕ → Stage → Bool
is_confirmed ticket (confirming reply last wanted) = nat_le wanted ticket
is_confirmed ticket s = false

abbrev pub is_confirmed_in : ℕ → Option Connection → Bool
is_confirmed_in ticket None = false
is_confirmed_in ticket (Some c) = is_confirmed ticket (stage c)

-- the changes up to this ticket are confirmed: a reply that waits for no more is released, and another connection stays
abbrev pub Confirms : ℕ → ℕ → Option Connection → Option Connection → Type 0
Confirms ticket now old new = MatchBool (is_confirmed_in ticket old) (Comes now released old new) (new ≡ old)

-- nobody is told of them: such a connection ends, and another one stays
abbrev pub Withdraws : ℕ → Option Connection → Option Connection → Type 0
Withdraws ticket old new = MatchBool (is_confirmed_in ticket old) (Comes 0 failed old new) (new ≡ old)

-- the ticket that its reply waits for, if it does
abbrev pub ticket_of : Stage → Option ℕ
ticket_of (confirming reply last ticket) = Some ticket
ticket_of s = None

-- that ticket, if the reply has waited for this long
abbrev pub overdue_in : ℕ → ℕ → Option Connection → Option ℕ
overdue_in wait now None = None
overdue_in wait now (Some c) = if nat_le wait (now - c.since) then ticket_of (stage c) else None
