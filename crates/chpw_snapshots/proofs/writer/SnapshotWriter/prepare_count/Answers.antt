use Rattle.chpw_snapshots.proofs.writer.SnapshotWriter.prepare_count.Goals as goal

pub wait-requires-clause-shown : goal.wait-requires-clause-shown
wait-requires-clause-shown g c = (tt, c.requires.next)
