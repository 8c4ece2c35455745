-- A journal's file: how the length that others read grows.
use Rattle.std.specs.Prelude.{ℕ, ◌+◌, ◌^◌, ◌%◌}

-- a length of 64 bits that has grown by so many bytes
abbrev pub longer_by : ℕ → ℕ → ℕ
longer_by bytes end = (end + bytes) % (2 ^ 64)
