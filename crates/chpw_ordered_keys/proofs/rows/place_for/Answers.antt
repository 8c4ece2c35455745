use Rattle.std.proofs.Common.{◌≡◌, ℕ, Option, Some, None, sym, ◌∙◌, rules}
use Rattle.std.proofs.lemmas.Fn.{always_returns_same}
use Rattle.chpw_ordered_keys.proofs.RowLemmas.{found, in_order}
use Rattle.chpw_ordered_keys.proofs.rows.place_for.Goals as goal

none_is_some : (i : ℕ) → None ≡ Some i → ⊥
none_is_some i h = cc

pub unreachable-requires : goal.unreachable-requires
unreachable-requires g c =
    let by = c.in-Ok.ensures.position (λ row. g.K.Ord.cmp (g.T.HasKey.key_of row) c.args.key.now)
    (always_returns_same _ _ _ (λ a r f called. (search rules, search rules))) in
    none_is_some _ (sym c.requires.absent ∙ found g.K.Ord.cmp g.met.K.Ord.total g.T.HasKey.key_of
    c.args.key.now c.args.rows.now c.in-Ok.field-0 c.requires.sorted c.in-Ok.ensures.bound by)

pub returns-clause-order : goal.returns-clause-order
returns-clause-order g c =
    let by = c.in-Err.ensures.position (λ row. g.K.Ord.cmp (g.T.HasKey.key_of row) c.args.key.now)
    (always_returns_same _ _ _ (λ a r f called. (search rules, search rules))) in
    in_order g.K.Ord.cmp g.met.K.Ord.total g.T.HasKey.key_of c.args.key.now c.args.rows.now c.in-Err.place c.requires.sorted (search rules) by
