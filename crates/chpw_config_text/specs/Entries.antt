-- For proofs alone: a member put into its place among others.
use Rattle.std.specs.Prelude.{ℕ, List}
use Rattle.std.specs.Cmp.Lexicographic.{slice_cmp}
use Rattle.std.specs.Ordering.{match_ordering, nat_cmp}
use Rattle.toml.specs.Data.{Data, Members, no_members, member}

abbrev pub with_member : List ℕ → Data → Members → Members
with_member key value no_members = member key value no_members
with_member key value (member other here members) =
    match_ordering (slice_cmp nat_cmp key other)
    (member key value (member other here members))
    (member other value members)
    (member other here (with_member key value members))
