use Rattle.std.proofs.Common.{◌≡◌, true, false, sym, ◌∙◌, ap}
use Rattle.chpw_table.specs.Updates.{is_taken, update_verdict}
use Rattle.chpw_changelog.specs.Pens.{opening_state}
use Rattle.chpw_book.proofs.RiseLemmas.{taken_next}
use Rattle.chpw_book.proofs.UpdateLemmas.{taken_whole}
use Rattle.chpw_book.proofs.updating.make_room.Goals as goal

pub prepare_update-requires-clause-free : goal.prepare_update-requires-clause-free
prepare_update-requires-clause-free g c =
    let t = c.args._table.now in
    let u = c.args.prepared.now.update in
    let taken : is_taken (update_verdict t.state u false) ≡ true =
    ap is_taken (sym c.requires.ready.row) ∙ (sym c.would_take.ensures.value ∙ c.if-would_take.true) in
    c.requires.kept.3.free (taken_whole t.state u false taken)

pub prepare_update-requires-clause-next : goal.prepare_update-requires-clause-next
prepare_update-requires-clause-next g c =
    let t = c.args._table.now in
    let u = c.args.prepared.now.update in
    let k = c.requires.kept in
    let taken : is_taken (update_verdict t.state u false) ≡ true =
    ap is_taken (sym c.requires.ready.row) ∙ (sym c.would_take.ensures.value ∙ c.if-would_take.true) in
    rw c.update-then-would_take.ensures.value
    (taken_next (opening_state g.D.LogName.root) t.state k.0 c.args.snapshots.now.list u k.1 k.2 k.3.list taken c.requires.ready.fits)
