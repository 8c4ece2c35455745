-- For proofs alone: whether the newest of the keys held of a name has the lengths of its type, as each key that a table
-- holds.
use Rattle.std.specs.Prelude.{List, [], ◌∷◌, Option, Some, None}
use Rattle.chpw_record.specs.declared.key.KeyRow.{KeyRow}
use Rattle.chpw_journal.specs.Runs.{IsWholeKey}

abbrev pub FirstIsWhole : List KeyRow → Type 0
FirstIsWhole [] = Unit {0}
FirstIsWhole (k ∷ ks) = IsWholeKey k

abbrev pub NewestIsWhole : Option (List KeyRow) → Type 0
NewestIsWhole None = Unit {0}
NewestIsWhole (Some keys) = FirstIsWhole keys
