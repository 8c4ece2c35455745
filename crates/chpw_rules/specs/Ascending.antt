-- For the proofs of `Config::fits` alone: principals whose names are in their order.
use Rattle.std.specs.Prelude.{Bool, true, ◌&&◌, List, [], ◌∷◌}
use Rattle.std.specs.Ordering.{is_lt}
use Rattle.chpw_rules.specs.declared.name.Name.{Name}
use Rattle.chpw_rules.specs.declared.config.PrincipalRow.{PrincipalRow}
use Rattle.chpw_rules.specs.Names.{name_cmp}

-- each name is above the one before it, the first above `last`
abbrev pub ascend_from : Name → List PrincipalRow → Bool
ascend_from last [] = true
ascend_from last (row ∷ rows) = is_lt (name_cmp last row.name) && ascend_from row.name rows

abbrev pub names_ascend : List PrincipalRow → Bool
names_ascend [] = true
names_ascend (row ∷ rows) = ascend_from row.name rows
