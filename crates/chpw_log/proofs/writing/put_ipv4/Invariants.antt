use Rattle.std.proofs.Common.{◌≡◌, ◌++◌, length, map}
use Rattle.std.specs.List.{join_with_byte}
use Rattle.std.specs.Fmt.{decimal}
use Rattle.chpw_printing.specs.Quoting.{are_graphic}
use Rattle.chpw_log.specs.Lines.{dotted}
use Rattle.chpw_log.proofs.writing.put_ipv4.Given as goal

abbrev pub invariant-loop-numbers : goal.invariant-loop-numbers
invariant-loop-numbers l = record {
  value : l.text.items ++ join_with_byte 46 (map decimal l.numbers) ≡ l.fn.text.items ++ dotted l.fn.address;
  graphic : are_graphic (dotted l.fn.address) ≡ are_graphic (join_with_byte 46 (map decimal l.numbers));
}

abbrev pub decreases-loop-numbers : goal.decreases-loop-numbers
decreases-loop-numbers l = length l.numbers
