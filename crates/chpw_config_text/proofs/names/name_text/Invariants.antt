use Rattle.std.proofs.Common.{◌≡◌, true, take, string_bytes}
use Rattle.std.specs.List.{join_with_byte, list_all}
use Rattle.chpw_config_text.specs.Writable.{is_writable_part}
use Rattle.chpw_config_text.proofs.names.name_text.Given as goal

-- the parts so far are written, and could be
abbrev pub invariant-loop-place : goal.invariant-loop-place
invariant-loop-place l = record {
  joined : string_bytes l.text ≡ join_with_byte 47 (take l.place l.fn.name.parts);
  writable : list_all is_writable_part (take l.place l.fn.name.parts) ≡ true;
}
