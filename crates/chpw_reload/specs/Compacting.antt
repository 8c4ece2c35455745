-- When a compact journal may be made for a table that is held, over what a configuration opens with.
use Rattle.std.specs.Prelude.{◌≡◌, ◌≤◌}
use Rattle.chpw_table.specs.State.{State, kept_count, new_count}

-- they have one realm and keep as many keys, and the opening's count isn't greater
pub record GoesWith (base held : State) : Type 0 where
  pub realm : base.fixed.realm ≡ held.fixed.realm
  pub kept : kept_count base ≡ kept_count held
  pub count : new_count base ≤ new_count held
