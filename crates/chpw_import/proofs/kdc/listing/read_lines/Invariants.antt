use Rattle.std.proofs.Common.{◌≡◌, true, drop, map}
use Rattle.chpw_rules.specs.Fitting.{are_distinct}
use Rattle.chpw_rules.specs.Names.{is_same_name}
use Rattle.chpw_import.specs.KdcLists.{heard_from, names_in, start}
use Rattle.chpw_import.specs.KdcSeen.{KnowsNames, state_of}
use Rattle.chpw_import.proofs.kdc.listing.read_lines.Given as goal

-- the lines to come decide
abbrev pub invariant-loop-line : goal.invariant-loop-line
invariant-loop-line l = record {
  heard : heard_from start (map (λ line. line.now) l.fn.lines)
      ≡ heard_from (state_of l.hearing) (map (λ line. line.now) (drop l.line-index l.lines));
  knows : KnowsNames l.hearing.seen (names_in l.hearing.listed.items);
  distinct : are_distinct is_same_name (names_in l.hearing.listed.items) ≡ true;
}
