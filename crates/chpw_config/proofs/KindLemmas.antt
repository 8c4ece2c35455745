-- Values of a TOML table beside the data that they stand for.
use Rattle.std.proofs.Common.{◌≡◌, List, [], ◌∷◌, length, suc, refl, ap}
use Rattle.toml.specs.View.{items_view}
use Rattle.toml.specs.declared.value.Value.{Value}
use Rattle.chpw_config.specs.Kinds.{item_count}

-- a list has as many items as values
pub item_count_of_view : (values : List Value) → item_count (items_view values) ≡ length values
item_count_of_view [] = refl
item_count_of_view (_ ∷ values) = ap suc (item_count_of_view values)
