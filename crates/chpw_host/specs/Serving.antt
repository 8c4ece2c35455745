-- What a service's options ask for.
use Rattle.std.specs.Prelude.{ℕ, ◌*◌, Bool, Option, Some, None, if◌then◌else◌}
use Rattle.chpw_connection.specs.declared.limits.ConnectionLimits.{ConnectionLimits}
use Rattle.chpw_invocation.specs.declared.invocation.ConnectionLimit.{ConnectionLimit}
use Rattle.chpw_invocation.specs.declared.invocation.ConnectionLimit.TheVariants as asked
use Rattle.chpw_invocation.specs.declared.invocation.ServeOptions.{ServeOptions}
use Rattle.chpw_transfers.specs.declared.accept_limit.AcceptLimit.{AcceptLimit}
use Rattle.chpw_transfers.specs.declared.accept_limit.AcceptLimit.TheVariants as limit

-- after as many connections the service ends, if there is a limit
abbrev pub limit_asked : ConnectionLimit → AcceptLimit
limit_asked asked.Unlimited = limit.Unlimited
limit_asked (asked.Of count) = limit.Of count

-- the milliseconds within which the KDC has to get each change, if that is asked for
abbrev pub reach_asked : Bool → ℕ → Option ℕ
reach_asked asked wait = if asked then Some wait else None

-- what its connections hold, in bytes and milliseconds: a message under way is left alone for a second, waits at most five
-- seconds for its worker, and an end at most a second
abbrev pub limits_asked : ServeOptions → ConnectionLimits
limits_asked o = record {
  connections = o.clients;
  per_peer = o.clients_per_peer;
  bytes = o.buffers * 1048576;
  idle = o.idle * 1000;
  grace = 1000;
  wait = 5000;
  linger = 1000;
}
