use Rattle.std.proofs.Common.{◌≡◌, ◌+◌, ◌^◌, ◌-◌, length, min}
use Rattle.std.specs.List.{list_all}
use Rattle.chpw_kdc.specs.Lines.{name_length, is_filled}
use Rattle.chpw_kdc.proofs.fields.is_sayable.Given as goal

-- what the rest adds makes up the whole
abbrev pub invariant-loop-others : goal.invariant-loop-others
invariant-loop-others l = record {
  filled : list_all is_filled l.others ≡ list_all is_filled l.parts;
  number : min (l.length + name_length l.others) (2 ^ 64 - 1) ≡ min (name_length l.parts) (2 ^ 64 - 1);
}

abbrev pub decreases-loop-others : goal.decreases-loop-others
decreases-loop-others l = length l.others
