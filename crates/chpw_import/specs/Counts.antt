-- How many entries of a keytab, or principals of a KDC, are imported, and how many are not.
use Rattle.std.specs.Prelude.{ℕ, List, ◌++◌, codes}
use Rattle.std.specs.Fmt.{decimal}

abbrev pub count_line : ℕ → ℕ → List ℕ
count_line imported left = codes "imported " ++ decimal imported ++ codes ", not imported " ++ decimal left ++ codes "\n"
