use Rattle.std.proofs.Common.{◌≡◌, take}
use Rattle.std.specs.BTreeSet.{contains}
use Rattle.chpw_rules.specs.declared.name.Name.{Name}
use Rattle.chpw_rules.specs.Names.{name_cmp}
use Rattle.chpw_warnings.specs.Rules.{is_listed}
use Rattle.chpw_warnings.proofs.names.names_of.Given as goal

-- the set has the names so far
abbrev pub invariant-loop-principal : goal.invariant-loop-principal
invariant-loop-principal l =
    (name : Name) → contains name_cmp l.names name ≡ is_listed (take l.principal-index l.principals) name
