-- The name of a file: non-empty UTF-8 without NUL.
use Rattle.std.specs.Prelude.{ℕ, Bool, ◌&&◌, ◌==◌, not, nat_lt, List, length}
use Rattle.std.specs.List.{list_any}
use Rattle.std.specs.Str.{is_utf8}

abbrev pub is_file_name : List ℕ → Bool
is_file_name name = nat_lt 0 (length name) && is_utf8 name && not (list_any (λ byte. byte == 0) name)
