-- A value put into a table's map, and the members that are seen.
use Rattle.std.proofs.Common.{◌≡◌, List, [], ◌∷◌, String, Global, Ordering, Less, Equal, Greater, string_bytes, refl, ◌∙◌}
use Rattle.std.specs.BTreeMap.{insert_entry}
use Rattle.std.specs.Ordering.{match_ordering}
use Rattle.std.specs.String.{string_cmp}
use Rattle.toml.specs.declared.value.Value.{Value}
use Rattle.toml.specs.View.{view, members_view}
use Rattle.chpw_config_text.specs.Entries.{with_member}

abbrev Entry : Type 0
Entry = String Global × Value

seen_at : (o : Ordering) (a b c : List Entry) → members_view (match_ordering o a b c) ≡ match_ordering o (members_view a) (members_view b) (members_view c)
seen_at Less a b c = refl
seen_at Equal a b c = refl
seen_at Greater a b c = refl

pub members_put : (es : List Entry) (key : String Global) (value : Value)
    → members_view (insert_entry string_cmp es key value) ≡ with_member (string_bytes key) (view value) (members_view es)
members_put [] key value = refl
members_put (e ∷ es) key value = seen_at (string_cmp key e.0) _ _ _ ∙ rw (members_put es key value)
