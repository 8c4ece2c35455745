-- How many connections are accepted.
use Rattle.std.specs.Prelude.{ℕ, Bool, true, nat_lt}
use Rattle.chpw_transfers.specs.declared.accept_limit.AcceptLimit.{AcceptLimit}
use Rattle.chpw_transfers.specs.declared.accept_limit.AcceptLimit.TheVariants.{Unlimited, Of}

-- one more connection is accepted after this many
abbrev pub allows_more : AcceptLimit → ℕ → Bool
allows_more Unlimited accepted = true
allows_more (Of count) accepted = nat_lt accepted count
