-- Principal names (RFC 4120 section 6.2): two names are equal where their components are.
use Rattle.std.specs.Prelude.{ℕ, Bool, ◌&&◌, ◌==◌, List, length, Option, Some, None, if◌then◌else◌, bytes_eq}
use Rattle.std.specs.Cmp.Lexicographic.{pointwise, slice_cmp}
use Rattle.std.specs.declared.cmp.Ordering.{Ordering}
use Rattle.std.specs.Ordering.{nat_cmp}
use Rattle.std.specs.List.{list_all, slice_split}
use Rattle.chpw_rules.specs.declared.name.Name.{Name}
use Rattle.chpw_rules.specs.Limits.{is_in, component_counts, component_lengths}

abbrev pub is_same_name : Name → Name → Bool
is_same_name a b = pointwise bytes_eq a.parts b.parts

-- the order of names: that of their components, each compared as bytes, a prefix first
abbrev pub name_cmp : Name → Name → Ordering
name_cmp a b = slice_cmp (slice_cmp nat_cmp) a.parts b.parts

-- a component of an allowed length
abbrev pub is_component : List ℕ → Bool
is_component part = is_in component_lengths (length part)

-- an allowed number of components, each of an allowed length
abbrev pub is_name : Name → Bool
is_name name = is_in component_counts (length name.parts) && list_all is_component name.parts

-- the parts of a text between its bytes `/` (47)
abbrev pub parts_of : List ℕ → List (List ℕ)
parts_of text = slice_split (λ byte. byte == 47) text

abbrev pub name_from : List (List ℕ) → Name
name_from parts = record { parts = parts }

-- the name that a text spells, with `/` between its components
abbrev pub name_of : List ℕ → Option Name
name_of text =
    if is_name (name_from (parts_of text)) then Some (name_from (parts_of text)) else None
