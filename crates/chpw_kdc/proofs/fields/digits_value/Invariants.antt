use Rattle.std.proofs.Common.{◌≡◌, ◌≤◌, length}
use Rattle.std.specs.Char.{is_ascii_digit}
use Rattle.std.specs.List.{list_all}
use Rattle.chpw_kdc.specs.Lines.{value_from}
use Rattle.chpw_kdc.proofs.fields.digits_value.Given as goal

-- what the rest adds makes up the whole
abbrev pub invariant-loop-rest : goal.invariant-loop-rest
invariant-loop-rest l = record {
  digits : list_all is_ascii_digit l.rest ≡ list_all is_ascii_digit l.digits;
  number : value_from l.value l.rest ≡ value_from 0 l.digits;
  bound : l.value ≤ 4294967295;
}

abbrev pub decreases-loop-rest : goal.decreases-loop-rest
decreases-loop-rest l = length l.rest
