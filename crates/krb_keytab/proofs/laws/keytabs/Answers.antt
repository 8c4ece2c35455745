use Rattle.krb_keytab.proofs.FileLemmas.{whole_is_read, ended_is_read, cut_is_told}
use Rattle.krb_keytab.proofs.SoundFileLemmas.{read_is_written}
use Rattle.krb_keytab.proofs.laws.keytabs.Goals as goal

pub returns-clause-whole : goal.returns-clause-whole
returns-clause-whole c = whole_is_read

pub returns-clause-ended : goal.returns-clause-ended
returns-clause-ended c = ended_is_read

pub returns-clause-cut : goal.returns-clause-cut
returns-clause-cut c = cut_is_told

pub returns-clause-written : goal.returns-clause-written
returns-clause-written c = read_is_written
