use Rattle.std.proofs.Common.{◌≡◌, ◌-◌, ◌^◌, min, take}
use Rattle.chpw_connections.specs.Answers.{bytes_of}
use Rattle.chpw_connections.specs.Fields.{answers_of}
use Rattle.chpw_connections.proofs.answer_cache.bytes_in.Given as goal

abbrev pub invariant-loop-answer : goal.invariant-loop-answer
invariant-loop-answer l = l.bytes ≡ min (2 ^ 64 - 1) (bytes_of (answers_of (take l.answer-index l.kept)))
