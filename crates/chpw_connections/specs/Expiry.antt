-- How many messages were dropped because they had waited too long for their workers.
use Rattle.std.specs.Prelude.{ℕ, ◌+◌, min, Bool, count_by, if◌then◌else◌}
use Rattle.slab.specs.Slab.{Slab}
use Rattle.chpw_connection.specs.declared.limits.ConnectionLimits.{ConnectionLimits}
use Rattle.chpw_connection.specs.declared.connection.Connection.{Connection}
use Rattle.chpw_connection.specs.Late.{is_dropped_in}

-- how many such connections there are
abbrev pub dropped_in : ConnectionLimits → ℕ → Slab Connection → ℕ
dropped_in b now slots = count_by (is_dropped_in b now) slots.slots

-- this many more, up to 32 bits
abbrev pub and_more : ℕ → ℕ → ℕ
and_more more n = min (n + more) 4294967295

-- one more, if so
abbrev pub one_more : Bool → ℕ → ℕ
one_more is n = if is then and_more 1 n else n
