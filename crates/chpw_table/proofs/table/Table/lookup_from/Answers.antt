use Rattle.std.proofs.Common.{ℕ, ◌≤◌, List, subst, sym, rules}
use Rattle.std.specs.Prelude.{All}
use Rattle.std.proofs.lemmas.List.Elements.{All-map}
use Rattle.chpw_record.specs.declared.key.KeyRow.{KeyRow}
use Rattle.chpw_table.proofs.PositiveLemmas.{in_range_at_least}
use Rattle.chpw_table.proofs.table.Table.lookup_from.Goals as goal

pub returns-clause-positive : goal.returns-clause-positive
returns-clause-positive c held = (
  in_range_at_least c.self.inside.count (search rules),
  subst (λ (ns : List ℕ). All (λ n. 1 ≤ n) ns) (sym c.counts_of.ensures.value) (All-map (λ n. 1 ≤ n) (λ (k : KeyRow). k.count) c.args.keys.now held),
)
