-- The names of files: that of a replacement, and the folder that a file is in.
use Rattle.std.specs.Prelude.{ℕ, List, [], ◌++◌, ◌==◌, length, codes, if◌then◌else◌}
use Rattle.std.specs.Option.{unwrap_or}
use Rattle.std.specs.Path.{path_parent}

-- the name under which a replacement is made
abbrev pub beside : List ℕ → List ℕ
beside path = path ++ codes ".new"

-- the current folder for a name alone
abbrev pub or_current : List ℕ → List ℕ
or_current folder = if length folder == 0 then codes "." else folder

-- the folder that a file is in
abbrev pub folder_of : List ℕ → List ℕ
folder_of path = or_current (unwrap_or (path_parent path) [])
