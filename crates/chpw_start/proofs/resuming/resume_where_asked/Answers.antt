use Rattle.std.proofs.Common.{sym, subst, List, ℕ}
use Rattle.chpw_start.specs.Resuming.{IsFound}
use Rattle.chpw_start.specs.declared.resuming.Found.{Found}
use Rattle.chpw_start.proofs.resuming.resume_where_asked.Goals as goal
use Rattle.chpw_start.proofs.resuming.resume_where_asked.Goals.{then-is_cut, else-is_cut}

pub take_over-requires : goal.take_over-requires
take_over-requires g c =
    let held = c.args.table.state.fixed.realm in
    let start = c.args.start.seconds in record {
      found = elim c.if-is_cut.branch [
        | then-is_cut w ↦ subst (λ (found : Found). IsFound held start found) (sym w.found-is) (w.as_cut-found.ensures.found held start)
        | else-is_cut w ↦
            subst (λ (found : Found). IsFound held start found) (sym w.found-is)
            (subst (λ (realm : List ℕ). IsFound realm start c.in_ok-found.found) c.realm.ensures.value c.in_ok-found.ensures.found)
      ];
    }
