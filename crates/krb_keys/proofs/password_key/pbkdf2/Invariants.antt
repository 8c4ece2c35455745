use Rattle.std.proofs.Common.{◌≡◌, ◌*◌, take}
use Rattle.krb_keys.specs.Pbkdf2.{blocks}
use Rattle.krb_keys.proofs.password_key.pbkdf2.Given as goal

abbrev pub invariant-loop-i : goal.invariant-loop-i
invariant-loop-i l = take (20 * l.i) l.out ≡ take l.count (blocks l.password l.salt l.n l.i)
