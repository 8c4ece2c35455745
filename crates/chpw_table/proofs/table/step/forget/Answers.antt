use Rattle.std.proofs.Common.{◌≡◌, true, false, sym, ◌∙◌, arith, rules}
use Rattle.chpw_table.specs.Holding.{young_ids, is_first_old}
use Rattle.chpw_table.proofs.HeldIdLemmas.{dropped, rest_young}
use Rattle.chpw_table.proofs.table.step.forget.Goals as goal

pub loop-used-preserved-in-loop-used : goal.loop-used-preserved-in-loop-used
loop-used-preserved-in-loop-used c =
    let inv = c.loop-used.invariant in
    let old : is_first_old c.args.clock c.loop-used.used ≡ true = search rules in
    let so_far : young_ids c.args.clock c.loop-used.used ≡ young_ids c.args.clock c.args.used.now = search rules in
    let d = dropped c.args.clock c.loop-used.used c.pop_first.new.self c.pop_first.result c.pop_first.ensures.value c.pop_first.ensures.none old inv.1 in
    let now : young_ids c.args.clock c.pop_first.new.self ≡ young_ids c.args.clock c.args.used.now = d.young ∙ so_far in
    (search rules, d.sorted, omega (arith, d.fewer, inv.2))

pub returns : goal.returns
returns c =
    let first : is_first_old c.args.clock c.loop-used.used ≡ false = search rules in
    let so_far : young_ids c.args.clock c.loop-used.used ≡ young_ids c.args.clock c.args.used.now = search rules in
    let young = rest_young c.args.clock c.loop-used.used c.loop-used.invariant.1 first in
    record { value = sym young ∙ so_far; young = young }
