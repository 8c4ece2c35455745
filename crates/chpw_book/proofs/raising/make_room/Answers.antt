use Rattle.std.proofs.Common.{◌≡◌, true, sym, ◌∙◌}
use Rattle.chpw_table.specs.Raising.{would_raise}
use Rattle.chpw_changelog.specs.Pens.{opening_state}
use Rattle.chpw_book.proofs.RiseLemmas.{count_next}
use Rattle.chpw_book.proofs.RaiseLemmas.{would_be}
use Rattle.chpw_book.proofs.raising.make_room.Goals as goal

pub prepare_count-requires-clause-free : goal.prepare_count-requires-clause-free
prepare_count-requires-clause-free g c =
    let would : would_raise c.args.table.now c.args.count ≡ true = sym c.would_raise.ensures.value ∙ c.if-would_raise.true in
    c.requires.kept.3.free (would_be c.args.table.now c.args.count would).1

pub prepare_count-requires-clause-next : goal.prepare_count-requires-clause-next
prepare_count-requires-clause-next g c =
    let k = c.requires.kept in
    let would : would_raise c.args.table.now c.args.count ≡ true = sym c.would_raise.ensures.value ∙ c.if-would_raise.true in
    count_next (opening_state g.D.LogName.root) c.args.table.now.state
    k.0 c.args.snapshots.now.list c.args.count k.1 k.2 k.3.list (would_be c.args.table.now c.args.count would).0
