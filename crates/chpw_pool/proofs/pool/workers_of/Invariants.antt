use Rattle.std.proofs.Common.{◌≡◌, vec_len}
use Rattle.rand_chacha.specs.ChaCha.{key_of}
use Rattle.chpw_pool.specs.PoolWorkers.{AreWorkersFrom}
use Rattle.chpw_pool.proofs.pool.workers_of.Given as goal

-- the workers so far are those of the passes before this one
abbrev pub invariant-loop-pass : goal.invariant-loop-pass
invariant-loop-pass g l = (vec_len l.workers ≡ l.pass-index) × AreWorkersFrom (key_of l.seed) 0 l.passes l.workers.items
