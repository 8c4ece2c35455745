use Rattle.std.proofs.Common.{◌≤◌, ◌-◌, length}
use Rattle.krb_keytab.specs.Keytabs.{from_place}
use Rattle.krb_keytab.specs.Answers.{views}
use Rattle.krb_keytab.proofs.RecordLemmas.{IsBegun}
use Rattle.krb_keytab.proofs.file.read_records.Given as goal

abbrev pub invariant-loop-entries : goal.invariant-loop-entries
invariant-loop-entries l = record {
  within : length l.rest ≤ length l.file;
  begun : IsBegun (views l.entries.items) (length l.file - length l.rest) l.rest
      (from_place (length l.file) (length l.file - length l.records) l.records);
}

abbrev pub decreases-loop-entries : goal.decreases-loop-entries
decreases-loop-entries l = length l.rest
