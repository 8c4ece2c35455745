-- A set of texts that represents the names which they spell.
use Rattle.std.specs.Prelude.{◌≡◌, ℕ, List, Some}
use Rattle.std.specs.Borrow.{Bor}
use Rattle.std.specs.BTreeSet.{BTreeSet, contains}
use Rattle.std.specs.Cmp.Lexicographic.{slice_cmp}
use Rattle.std.specs.List.{list_any}
use Rattle.std.specs.Ordering.{nat_cmp}
use Rattle.std.specs.declared.cmp.Ordering.{Ordering}
use Rattle.chpw_rules.specs.declared.name.Name.{Name}
use Rattle.chpw_rules.specs.Names.{is_same_name, name_of}

-- the order of texts
abbrev pub text_cmp : Bor (List ℕ) → Bor (List ℕ) → Ordering
text_cmp s t = slice_cmp nat_cmp s.now t.now

-- of the texts that spell a name, the set has exactly those that spell one of these names
unfoldable pub Knows : BTreeSet (Bor (List ℕ)) → List Name → Type 0
Knows texts names = (text : Bor (List ℕ)) (name : Name) → name_of text.now ≡ Some name
    → contains text_cmp texts text ≡ list_any (is_same_name name) names
