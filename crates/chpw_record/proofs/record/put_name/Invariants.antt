use Rattle.std.proofs.Common.{◌≡◌, ◌++◌, ◌∷◌, take, length}
use Rattle.std.specs.List.{flat_map}
use Rattle.chpw_record.specs.Records.{part_bytes}
use Rattle.chpw_record.proofs.record.put_name.Given as goal

abbrev pub invariant-loop-part : goal.invariant-loop-part
invariant-loop-part l = l.bytes.items ≡ l.fn.bytes.items ++ length l.parts ∷ flat_map part_bytes (take l.part-index l.parts)
