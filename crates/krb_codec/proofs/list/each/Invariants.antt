use Rattle.std.proofs.Common.{◌≡◌, ℕ, ◌≤◌, length, map}
use Rattle.krb_codec.specs.Shapes.{many}
use Rattle.krb_codec.specs.Reading.{reads, reads_each}
use Rattle.krb_codec.proofs.ListLemmas.{with_front}
use Rattle.krb_codec.proofs.list.each.Given as goal

abbrev pub invariant-items : goal.invariant-items
invariant-items g l = (budget : ℕ) × (length l.region.left ≤ budget)
    × (with_front (map g.T.Element.value l.items.items) (reads_each (reads g.T.Element.shape) budget l.region)
    ≡ reads (many g.T.Element.shape) l.fn.region)

abbrev pub decreases-items : goal.decreases-items
decreases-items g l = length l.region.left
