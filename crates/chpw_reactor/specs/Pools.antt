-- How many connections a pool has served that was to serve this many.
use Rattle.std.specs.Prelude.{◌≡◌, ℕ, Option, Some, None, true}
use Rattle.chpw_transfers.specs.Bounded.{allows_more}
use Rattle.chpw_transfers.specs.declared.accept_limit.AcceptLimit.{AcceptLimit}
use Rattle.chpw_transfers.specs.declared.accept_limit.AcceptLimit.TheVariants.{Of}
use Rattle.chpw_reactor.specs.declared.outcome.Pool.{Pool}
use Rattle.chpw_sockets.specs.declared.pool_fault.PoolFault.{PoolFault}
use Rattle.chpw_sockets.specs.declared.pool_fault.PoolFault.TheVariants.{Accept, Start, Memory}

-- all, if nothing went wrong; otherwise those before the listener failed, and none if a thread, what watches the
-- sockets, or memory is missing. One without a limit ends in no other way.
abbrev pub IsCount : AcceptLimit → ℕ → Option PoolFault → Type 0
IsCount wanted served None = wanted ≡ Of served
IsCount wanted served (Some Accept) = allows_more wanted served ≡ true
IsCount wanted served (Some Start) = served ≡ 0
IsCount wanted served (Some Memory) = served ≡ 0

abbrev pub Ends : AcceptLimit → Pool → Type 0
Ends wanted pool = IsCount wanted pool.served pool.fault
