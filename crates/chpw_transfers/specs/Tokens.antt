-- What a token reports.
use Rattle.std.specs.Prelude.{ℕ, ◌-◌, ◌^◌, ◌==◌, nat_lt, if◌then◌else◌}
use Rattle.chpw_transfers.specs.declared.tokens.EventSource.{EventSource}
use Rattle.chpw_transfers.specs.declared.tokens.EventSource.TheVariants.{Listener, Kdc, Datagrams, Connection, Control}

-- Listener, KDC and datagram socket have the three greatest numbers besides that of a wake; connections have the
-- numbers of their slots; all others are the control socket's, its callers' or a wake's.
abbrev pub reported_by : ℕ → ℕ → EventSource
reported_by token connections =
    if token == 2 ^ 64 - 1 then Listener
    else if token == 2 ^ 64 - 3 then Kdc
    else if token == 2 ^ 64 - 4 then Datagrams
    else if nat_lt token connections then Connection token
    else Control
