use Rattle.std.proofs.Common.{ℕ, subst}
use Rattle.chpw_book.specs.Starting.{workers_of}
use Rattle.chpw_workers.specs.Desks.{AreInOrder}
use Rattle.chpw_workers.proofs.DeskLemmas.{new_in_order}
use Rattle.chpw_desks.proofs.openings.start_desk.Goals as goal

pub invariant_of-result : goal.invariant_of-result
invariant_of-result g c =
    let passes = c.in-Ok.passes.items in
    record {
      in_order = subst (λ (n : ℕ). AreInOrder n passes) c.requires.name.workers_are
          (new_in_order (workers_of c.args.opening.unnamed) passes c.in-Ok.ensures.passes);
    }
