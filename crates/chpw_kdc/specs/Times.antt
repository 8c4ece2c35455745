-- When the caller looks again, if nothing happens before.
use Rattle.std.specs.Prelude.{ℕ, max, ◌==◌, not, if◌then◌else◌, length, Option, Some, None, is_some}
use Rattle.chpw_kdc.specs.declared.asking.Next as next
use Rattle.chpw_kdc.specs.declared.asking.Next.TheVariants as comes
use Rattle.chpw_kdc.specs.Dialogs.{State, is_list_due}

-- what comes next, once it may be asked
abbrev pub next_of : State → next.Next
next_of s =
    if not (length s.puts == 0) then comes.Put
    else if not (length s.gets == 0) then comes.Get
    else if is_list_due s then comes.List
    else comes.Nothing

abbrev pub time_of : State → next.Next → Option ℕ
time_of s comes.Put = Some s.pace.ask_at
time_of s comes.Get = Some s.pace.ask_at
time_of s comes.List = Some (max s.pace.ask_at s.pace.compare_at)
time_of s comes.Nothing = None

-- when to call, when the answer is late, or when the next request may be made
abbrev pub next_time : State → Option ℕ
next_time s =
    if not s.pace.connected then Some s.pace.call_at
    else if is_some s.asked then Some s.pace.late_at
    else time_of s (next_of s)
