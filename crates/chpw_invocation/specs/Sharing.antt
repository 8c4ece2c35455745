-- How the connections that may be open at a time are shared out.
use Rattle.std.specs.Prelude.{ℕ, ◌/◌, max}

-- how many one peer may have if nothing is said: a quarter, and at least 1
abbrev pub default_per_peer : ℕ → ℕ
default_per_peer clients = max 1 (clients / 4)
