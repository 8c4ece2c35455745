use Rattle.std.proofs.Common.{arith, ap, length}
use Rattle.chpw_control.proofs.LineLemmas.{piece_more, piece_whole}
use Rattle.chpw_control.proofs.piece.piece_of.Goals as goal

pub returns-then-line-bytes : goal.returns-then-line-bytes
returns-then-line-bytes c =
    let line = c.line_in-line in
    record {
      value = (line.ensures.value, piece_whole c.args.bytes.now (omega (arith, ap length line.ensures.value)), omega arith);
    }

pub returns-else-line-bytes : goal.returns-else-line-bytes
returns-else-line-bytes c =
    let line = c.line_in-line in
    let more = piece_more c.args.bytes.now (omega (arith, ap length line.ensures.value)) in
    record { value = (more.0, more.1, omega (arith, ap length line.ensures.value, ap length more.1)) }
