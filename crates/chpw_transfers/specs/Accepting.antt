-- Which faults of an accept may pass: want of files or memory, or a connection that ended first. At any
-- other the listener can't go on.
use Rattle.std.specs.Prelude.{ℤ, pos, ℕ, Bool, true, false, ◌||◌, ◌+◌, ◌-◌, ◌^◌, min, nat_le, if◌then◌else◌, Option, Some, None}
use Rattle.std.specs.Ordering.{int_eq}
use Rattle.chpw_transfers.specs.declared.accepting.Accepting.{Accepting}
use Rattle.chpw_transfers.specs.declared.accepting.Accepting.TheVariants.{Ready, Waiting, Paused, Failed}

-- EINTR, ENOMEM, ENFILE, EMFILE, ECONNABORTED and ENOBUFS of Linux
abbrev pub is_passing : Option ℤ → Bool
is_passing None = false
is_passing (Some code) = int_eq code (pos 4) || int_eq code (pos 12)
    || int_eq code (pos 23) || int_eq code (pos 24)
    || int_eq code (pos 103) || int_eq code (pos 105)

-- Whether a connection may be accepted: a listener that had none is asked again once it was reported, and one whose
-- accept failed for the moment a tenth of a second later.
abbrev pub reported : Accepting → Accepting
reported Waiting = Ready
reported a = a

abbrev pub resumed : ℕ → Accepting → Accepting
resumed now (Paused until) = if nat_le until now then Ready else Paused until
resumed now a = a

-- an accept that would have blocked, one whose fault may pass, and another one
abbrev pub after_fault : Bool → Bool → ℕ → Accepting
after_fault would_wait may_pass now =
    if would_wait then Waiting else if may_pass then Paused (min (now + 100) (2 ^ 64 - 1)) else Failed

abbrev pub is_ready : Accepting → Bool
is_ready Ready = true
is_ready a = false

abbrev pub is_waiting : Accepting → Bool
is_waiting Waiting = true
is_waiting a = false

abbrev pub has_failed : Accepting → Bool
has_failed Failed = true
has_failed a = false
