use Rattle.std.proofs.Common.{◌≡◌, ◌≤◌, ◌-◌, ◌++◌, take, length}
use Rattle.std.specs.List.{flat_map}
use Rattle.chpw_record.specs.Records.{records_text}
use Rattle.chpw_journal.specs.Compact.{name_records, names_of, AreWholeRecords}
use Rattle.chpw_journal.proofs.compact.put_present.Given as goal

abbrev pub invariant-loop-name : goal.invariant-loop-name
invariant-loop-name l = record {
  text_is : l.text.items ≡ l.initial.text.items ++ records_text (flat_map (name_records l.opening.state l.held.state) (take l.place
      (names_of l.opening.state)));
  within : l.place ≤ length (names_of l.opening.state);
  whole : AreWholeRecords (flat_map (name_records l.opening.state l.held.state) (take l.place (names_of l.opening.state)));
}

abbrev pub decreases-loop-name : goal.decreases-loop-name
decreases-loop-name l = length (names_of l.opening.state) - l.place
