-- When the agent is called, asked and asked again. Times are milliseconds of a clock that doesn't go back.
use Rattle.std.specs.Prelude.{ℕ, ◌+◌, ◌-◌, ◌*◌, ◌^◌, Bool, true, false, ◌&&◌, nat_le, min, max, if◌then◌else◌}
use Rattle.chpw_kdc.specs.declared.pace.Pace.{Pace}

-- a time, by so much later, as far as the clock goes
abbrev pub later : ℕ → ℕ → ℕ
later time by = min (time + by) (2 ^ 64 - 1)

-- so many times as long, as far as the clock goes
abbrev pub times : ℕ → ℕ → ℕ
times span n = min (span * n) (2 ^ 64 - 1)

-- the agent may be called at once, and after the first loss after 100 milliseconds
abbrev pub pace_at_start : ℕ → Pace
pace_at_start now = record {
  connected = false;
  since = now;
  call_at = now;
  call_pause = 100;
  has_listed = false;
  ask_at = now;
  retry_pause = 100;
  late_at = now;
  is_due = true;
  compare_at = now;
  began = now;
}

-- a comparison is due, at once
abbrev pub pace_connected : ℕ → Pace → Pace
pace_connected now p =
    record p { connected = true; since = now; has_listed = false; ask_at = now; retry_pause = 100; is_due = true; compare_at = now }

-- the pause before the next call: 100 milliseconds again after a connection over which a list was heard to its end, else the
-- present one
abbrev pub pause_now : Pace → ℕ
pause_now p = if p.has_listed then 100 else p.call_pause

-- the agent is called after that pause, and the next one is twice as long, up to thirty seconds
abbrev pub pace_lost : ℕ → Pace → Pace
pace_lost now p = record p {
  connected = false;
  since = if p.connected then now else p.since;
  has_listed = false;
  call_at = later now (pause_now p);
  call_pause = min (times (pause_now p) 2) 30000;
  late_at = now;
  is_due = true;
}

-- the agent was at fault: whatever list was heard, the pauses grow
abbrev pub pace_at_fault : Pace → Pace
pace_at_fault p = record p { has_listed = false }

-- the next line of the answer is awaited for thirty seconds
abbrev pub pace_awaiting : ℕ → Pace → Pace
pace_awaiting now p = record p { late_at = later now 30000 }

-- a list is asked for
abbrev pub pace_begun : ℕ → Pace → Pace
pace_begun now p = record p { is_due = false; began = now }

-- the pauses before a request is made again double, up to five seconds
abbrev pub pace_failed : ℕ → Pace → Pace
pace_failed now p = record p { ask_at = later now p.retry_pause; retry_pause = min (times p.retry_pause 2) 5000 }

abbrev pub pace_succeeded : Pace → Pace
pace_succeeded p = record p { retry_pause = 100 }

-- a list failed, or a look at one name: the next list begins after a pause, which doubles, up to five seconds, and no put waits
-- for that
abbrev pub pace_postponed : ℕ → Pace → Pace
pace_postponed now p = record p {
  compare_at = max p.compare_at (later now p.retry_pause);
  retry_pause = min (times p.retry_pause 2) 5000;
  is_due = true;
}

-- a list was heard to its end: the next one begins after a second at least, and after ten times as long as this one took
abbrev pub pace_ended : ℕ → Pace → Pace
pace_ended now p = record p { compare_at = later now (max (times (now - p.began) 10) 1000); has_listed = true }

abbrev pub pace_due : Pace → Pace
pace_due p = record p { is_due = true }

abbrev pub may_ask : ℕ → Pace → Bool
may_ask now p = p.connected && nat_le p.ask_at now
