-- For proofs: what is kept while a list is read.
use Rattle.std.specs.Prelude.{◌≡◌, List}
use Rattle.std.specs.BTreeSet.{BTreeSet, contains}
use Rattle.std.specs.List.{list_any}
use Rattle.chpw_rules.specs.declared.name.Name.{Name}
use Rattle.chpw_rules.specs.Names.{is_same_name, name_cmp}
use Rattle.chpw_import.specs.declared.kdc.listing.Hearing.{Hearing}
use Rattle.chpw_import.specs.KdcLists.{State}

abbrev pub state_of : Hearing → State
state_of h = record { listed = h.listed.items; said = h.said }

-- the set has exactly these names
abbrev pub KnowsNames : BTreeSet Name → List Name → Type 0
KnowsNames seen names = (name : Name) → contains name_cmp seen name ≡ list_any (is_same_name name) names
