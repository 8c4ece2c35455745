use Rattle.std.proofs.Common.{◌≡◌, true, take, map}
use Rattle.std.specs.List.{list_all}
use Rattle.toml.specs.View.{view}
use Rattle.chpw_config_text.proofs.rows.list.Given as goal

-- the rows so far are written, and could be
abbrev pub invariant-loop-row : goal.invariant-loop-row
invariant-loop-row g l = record {
  written : map view l.tables.items ≡ map g.T.Row.form (take l.row-index l.rows);
  writable : list_all g.T.Row.is_writable (take l.row-index l.rows) ≡ true;
  typed : list_all g.T.Row.is_typed (take l.row-index l.rows) ≡ true;
}
