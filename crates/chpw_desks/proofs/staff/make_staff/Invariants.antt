use Rattle.std.proofs.Common.{◌≡◌, vec_len}
use Rattle.rand_chacha.specs.ChaCha.{key_of}
use Rattle.chpw_desks.specs.Staff.{AreStaff}
use Rattle.chpw_desks.proofs.staff.make_staff.Given as goal

abbrev pub invariant-loop-number : goal.invariant-loop-number
invariant-loop-number g l = (vec_len l.staff ≡ l.number) × AreStaff (key_of l.seed) 0 l.staff.items
