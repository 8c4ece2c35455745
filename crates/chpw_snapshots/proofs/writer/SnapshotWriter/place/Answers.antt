use Rattle.chpw_snapshots.proofs.MoveLemmas.{admits, forks, merges}
use Rattle.chpw_snapshots.proofs.writer.SnapshotWriter.place.Goals as goal

pub reader-requires : goal.reader-requires
reader-requires g c x views h = admits x views h

pub tell-requires : goal.tell-requires
tell-requires g c x = forks _ _ x

pub learn-requires-clause-rule : goal.learn-requires-clause-rule
learn-requires-clause-rule g c x = merges _ _ _ _ x
