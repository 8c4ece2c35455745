use Rattle.std.proofs.Common.{OnOk, is_some, ◌≡◌, List, ◌∙◌, ◌++◌, ℕ, ap, drop, length, subst, sym, take, arith}
use lib.Seq.{take-append_seam}
use Rattle.std.proofs.lemmas.Grind.{common_steps}
use Rattle.std.proofs.lemmas.List.FromFn.{length-map-range_with_len}
use Rattle.std.proofs.lemmas.Result.{on_ok_weaker}
use Rattle.rand_chacha.specs.ChaCha.{key_of}
use Rattle.chpw_changelog.specs.Pens.{opening_table}
use Rattle.chpw_book.specs.Passes.{new_pass}
use Rattle.chpw_book.specs.Starting.{table_of, workers_of}
use Rattle.chpw_desks.specs.ServiceRuns.{new_passes}
use Rattle.chpw_service.specs.WholeRuns.{IsServedByNewWorkers}
use Rattle.chpw_logging.specs.declared.logging.LogLines.{LogLines}
use Rattle.chpw_changelog.specs.Pens.{opening_state}
use Rattle.chpw_book.specs.Passes.{PassView}
use Rattle.chpw_workers.specs.Desks.{AreInOrder}
use Rattle.chpw_desks.specs.ServiceRuns.{gives_moment}
use Rattle.chpw_service.proofs.RaisedLemmas.{raised_in_order}
use Rattle.chpw_service.proofs.WholeRunLemmas.{served_from}
use Rattle.chpw_service.proofs.serving.serve_opened.Goals as goal

-- a raise leaves as many passes as there were, one for each worker
pub serve_from-requires-clause-passes : goal.serve_from-requires-clause-passes
serve_from-requires-clause-passes g c κs within =
    let count : length c.in-Ok.field-0.passes.items ≡ workers_of c.args.opening.unnamed =
    ap length c.in-Ok.ensures.passes ∙ length-map-range_with_len new_pass 0 (workers_of c.args.opening.unnamed) in
    grind (arith, common_steps)

pub returns-in-Ok-raise_and_listen-clause-served : goal.returns-in-Ok-raise_and_listen-clause-served
returns-in-Ok-raise_and_listen-clause-served g c =
    let start = c.args.start in
    let context = c.in-Ok-raise_and_listen.context in
    let ready = c.in-Ok-raise_and_listen.ensures in
    let passes = c.raise_and_listen.new.passes in
    let rest = drop (length passes) c.in-Ok.field-0.passes.items in
    let long : c.in-Ok.field-0.passes.len ≡ length passes = grind (arith, common_steps) in
    let kept : take c.in-Ok.field-0.passes.len (passes ++ rest) ≡ passes =
    subst (λ (n : ℕ). take n (passes ++ rest) ≡ passes) (sym long) (take-append_seam passes rest) in
    let came = subst (λ ps. OnOk c.serve_from.result (IsServedByNewWorkers g.row.R.Denot (LogLines g.row.R.Denot) (is_some context.kdc.socket)
    context.options.now (key_of start.seed) context.workers (opening_table g.D.LogName.root) ps c.args.rules)) kept c.serve_from.ensures.served in
    on_ok_weaker c.serve_from.result
    (λ served. served_from start.options.now (key_of start.seed) c.args.rules (is_some context.kdc.socket) context.options.now context.workers
    (table_of c.args.opening.unnamed) (opening_table g.D.LogName.root) passes _ c.args.clock.now _ ready.raised.0
    (ap is_some ready.kdc.0) ready.options ready.workers c.in-Ok.ensures.opening
    (c.deref_mut.ensures.value ∙ (c.in-Ok.ensures.passes ∙ ap new_passes c.requires.workers)) ready.raised.1 served)
    came

-- a raise leaves the passes in their order
pub invariant_of-first : goal.invariant_of-first
invariant_of-first g c =
    let passes = c.raise_and_listen.new.passes in
    let rest = drop (length passes) c.in-Ok.field-0.passes.items in
    let long : c.in-Ok.field-0.passes.len ≡ length passes = grind (arith, common_steps) in
    let kept : take c.in-Ok.field-0.passes.len (passes ++ rest) ≡ passes =
    subst (λ (n : ℕ). take n (passes ++ rest) ≡ passes) (sym long) (take-append_seam passes rest) in
    let ready = c.in-Ok-raise_and_listen.ensures in
    let before = subst (λ (ps : List PassView). AreInOrder g.D.DeskName.workers ps) (sym c.deref_mut.ensures.value) c.in-Ok.field-0.in_order in
    let after = raised_in_order gives_moment (opening_state g.D.LogName.root) c.args.clock.now _ _ passes c.args.start.options.now.raise
    ready.raised.0 g.D.DeskName.workers ready.raised.1 before in
    record { in_order = subst (λ (ps : List PassView). AreInOrder g.D.DeskName.workers ps) (sym kept) after }
