-- Names and the texts that spell them.
use Rattle.std.proofs.Common.{◌≡◌, ◌∙◌, sym, ap, ℕ, Bool, true, false, List, Some, None, refl, if◌then◌else◌, cond, ◌||◌, [], ◌∷◌, ◌++◌}
use Rattle.std.specs.Bool.{Decides}
use Rattle.std.specs.Cmp.Lexicographic.{slice_cmp}
use Rattle.std.specs.Ordering.{is_eq, nat_cmp}
use Rattle.std.specs.List.{join_with_byte, list_any}
use Rattle.std.proofs.lemmas.List.Folds.{list_any-append}
use Rattle.std.proofs.lemmas.Map.Text.{is_eq-slice_cmp}
use Rattle.std.specs.Str.{bytes_eq}
use Rattle.std.proofs.lemmas.Option.{same_Some}
use Rattle.std.proofs.lemmas.List.Splits.{join_with_byte-slice_split}
use Rattle.std.proofs.lemmas.Slice.Eq.{bytes_eq-Decides, slice_eq-Decides}
use Rattle.chpw_rules.specs.declared.name.Name.{Name}
use Rattle.chpw_rules.specs.Names.{is_name, is_same_name, name_of, name_from, parts_of}

taken : (test : Bool) (a b : Name) → (if test then Some a else None) ≡ Some b → a ≡ b
taken true a b h = same_Some a b h
taken false a b h = cc

-- the name that a text spells has the text's parts
pub name_of_parts : (text : List ℕ) (name : Name) → name_of text ≡ Some name → name_from (parts_of text) ≡ name
name_of_parts text name h = taken (is_name (name_from (parts_of text))) _ _ h

-- whose components, joined, give the text back
pub joined : (text : List ℕ) (name : Name) → name_of text ≡ Some name → join_with_byte 47 name.parts ≡ text
joined text name h = rw (← name_of_parts text name h) (join_with_byte-slice_split 47 text)

pub is_same_name-Decides : (a b : Name) → Decides (is_same_name a b) (a.parts ≡ b.parts)
is_same_name-Decides a b = slice_eq-Decides bytes_eq-Decides a.parts b.parts (is_same_name a b) refl
