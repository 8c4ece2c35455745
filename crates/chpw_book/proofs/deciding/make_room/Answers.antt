use Rattle.chpw_table.proofs.AgreementLemmas.{agrees_itself}
use Rattle.chpw_changelog.specs.Pens.{opening_state}
use Rattle.chpw_book.proofs.RiseLemmas.{row_next}
use Rattle.chpw_book.proofs.PublishLemmas.{whole_at}
use Rattle.chpw_book.proofs.deciding.make_room.Goals as goal

pub prepare-requires-clause-free : goal.prepare-requires-clause-free
prepare-requires-clause-free g c =
    let t = c.args.table.now in
    c.requires.kept.3.free (whole_at t.state _ _ _ _ (c.in-Some.ensures.some t c.requires.ready t.state (agrees_itself t.state)))

pub prepare-requires-clause-next : goal.prepare-requires-clause-next
prepare-requires-clause-next g c =
    let t = c.args.table.now in
    let k = c.requires.kept in
    row_next (opening_state g.D.LogName.root) t.state k.0 c.args.snapshots.now.list _ _ _ _ _ k.1 k.2 k.3.list
    (c.in-Some.ensures.some t c.requires.ready t.state (agrees_itself t.state)) c.count.ensures.value
