use Rattle.std.proofs.Common.{sym, ◌∙◌}
use Rattle.chpw_snapshots.proofs.RowLemmas.{find_placed, find_unplaced}
use Rattle.chpw_snapshots.proofs.rows.Rows.added_row.Goals as goal

pub returns-in-None : goal.returns-in-None
returns-in-None c = record { value = sym (find_unplaced _ c.args.self.now.added (sym c.in-None.ensures.value)) }

pub returns-in-Some : goal.returns-in-Some
returns-in-Some c = record { value = c.added_at.ensures.value ∙ sym (find_placed _ c.args.self.now.added c.in-Some.place (sym c.in-Some.ensures.value)) }
