-- How long the reactor waits while there are callers at the control socket.
use Rattle.std.specs.Prelude.{ℕ, Bool, min, if◌then◌else◌}

-- how long to wait: no time if something is to be done for callers, and at most a tenth of a second while there are any
abbrev pub patience_with : ℕ → Bool → Bool → ℕ
patience_with patience due callers = if due then 0 else if callers then min patience 100 else patience
