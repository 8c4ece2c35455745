use Rattle.std.proofs.Common.{length}
use Rattle.chpw_journal.proofs.compact.+put_keys.Given as goal

abbrev pub decreases-put_keys : goal.decreases-put_keys
decreases-put_keys l = length l.keys.now
