use Rattle.std.proofs.Common.{sym, subst, rules}
use Rattle.chpw_table.proofs.DigestLemmas.{found-none, found-both, AreBoth}
use Rattle.chpw_table.proofs.derived.DerivedKeys.keys_under.Goals as goal

pub bytes_of_both-requires : goal.bytes_of_both-requires
bytes_of_both-requires c = record { both = subst AreBoth (sym c.in-Some.ensures.value) (found-both c.args.count c.args.self.now (search rules)) }

pub returns-in-None-clause-none : goal.returns-in-None-clause-none
returns-in-None-clause-none c = found-none c.args.count c.args.self.now (sym c.in-None.ensures.value)
