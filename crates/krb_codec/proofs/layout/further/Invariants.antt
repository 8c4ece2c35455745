use Rattle.std.proofs.Common.{◌≡◌, ℕ, ◌≤◌, length}
use Rattle.krb_codec.specs.Shapes.{further}
use Rattle.krb_codec.specs.Reading.{reads, reads_further}
use Rattle.krb_codec.proofs.layout.further.Given as goal

abbrev pub invariant-elements : goal.invariant-elements
invariant-elements l = (budget : ℕ) × (length l.region.left ≤ budget) × (reads_further l.low l.high budget l.region ≡ reads (further l.low l.high) l.fn.region)

abbrev pub decreases-elements : goal.decreases-elements
decreases-elements l = length l.region.left
