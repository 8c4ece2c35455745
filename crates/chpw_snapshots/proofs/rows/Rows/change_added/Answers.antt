use Rattle.std.proofs.Common.{refl, sym, subst}
use Rattle.chpw_changelog.specs.Changes.{short_name}
use Rattle.chpw_snapshots.specs.Rows.{place_in}
use Rattle.chpw_snapshots.proofs.AddedLemmas.{HasOrder, order_after}
use Rattle.chpw_snapshots.proofs.rows.Rows.change_added.Goals as goal

pub invariant_of-self : goal.invariant_of-self
invariant_of-self c = (
  c.self.invariant.0,
  c.self.invariant.1,
  c.self.invariant.2,
  subst HasOrder (sym c.change_added.ensures.value) (order_after c.self.inside.kept c.args.change
      (short_name c.args.name) c.self.inside.added.items (place_in c.self.inside.added.items (short_name c.args.name)) refl c.self.invariant.3),
  c.change_added.ensures.room,
)
