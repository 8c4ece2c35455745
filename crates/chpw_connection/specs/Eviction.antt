-- Who gives way where room is made, and how many bytes its end frees.
use Rattle.std.specs.Prelude.{ℕ, Option, Some, None, Bool, false, ◌&&◌, not, nat_lt, nat_le, if◌then◌else◌}
use Rattle.chpw_connection.specs.Holding.{held_by, size_by, growth_by, begun_of}
use Rattle.chpw_connection.specs.Stages.{stage}
use Rattle.chpw_connection.specs.Slot.{waits}
use Rattle.chpw_connection.specs.declared.connection.Connection.{Connection}
use Rattle.chpw_connection.specs.declared.eviction.EvictionRule.{EvictionRule}

-- there is no room yet for all of the message that it reads: it waits for room, not for its client
abbrev pub is_held_back : Connection → Bool
is_held_back c = nat_lt 0 (growth_by c.phase)

-- its message or its reply is large enough, and has been under way for long enough
abbrev pub is_among : EvictionRule → Connection → Bool
is_among who c = nat_lt who.larger_than (size_by c.phase) && nat_le (begun_of c) who.begun_by

-- such a one that waits for its client and holds some bytes: ending one that holds none frees nothing
abbrev pub gives_way : EvictionRule → Connection → Bool
gives_way who c = waits (stage c) && (nat_lt 0 (held_by c.phase) && (not (is_held_back c) && is_among who c))

abbrev pub gives_way_at : EvictionRule → Option Connection → Bool
gives_way_at who None = false
gives_way_at who (Some c) = gives_way who c

-- since when its message or reply has been under way, if it gives way
abbrev pub gives_way_since : EvictionRule → Option Connection → Option ℕ
gives_way_since who None = None
gives_way_since who (Some c) = if gives_way who c then Some (begun_of c) else None

-- how many bytes its end would free
abbrev pub given_at : EvictionRule → Option Connection → ℕ
given_at who None = 0
given_at who (Some c) = if gives_way who c then held_by c.phase else 0
