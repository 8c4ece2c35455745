use Rattle.std.proofs.Common.{◌≡◌, ◌+◌, ◌≤◌, ◌<◌, ◌++◌, length, true, Some, Err, refl, arith, inr, rules}
use Rattle.chpw_control.specs.declared.fault.ControlFault.TheVariants.{LineTooLong}
use Rattle.chpw_control.specs.Commands.{command_of}
use Rattle.chpw_control.specs.Dialogs.{goes_on, line_in}
use Rattle.chpw_control.proofs.LineLemmas.{held_short, told_line, told_long, told_unless}
use Rattle.chpw_control.proofs.dialog.Dialog.hear.Goals as goal

pub piece_of-requires : goal.piece_of-requires
piece_of-requires c =
    let held : goes_on c.in_ok-heard.heard.items ≡ true = search rules in
    record { short = omega (arith, held_short c.in_ok-heard.heard.items held, c.len.ensures) }

pub returns-in-Line-clause-value : goal.returns-in-Line-clause-value
returns-in-Line-clause-value c =
    let heard = c.in_ok-heard.heard.items in
    let line = c.in-Line.line.now in
    let piece = c.in-Line.ensures.value in
    let held : goes_on heard ≡ true = search rules in
    let view : c.args.self.now ≡ Some heard = search rules in
    let few : length heard + length line ≤ 4200 = omega (arith, piece.2, c.len.ensures) in
    told_unless c.args.self.now heard c.args.bytes.now c.whole.result (command_of (heard ++ line)) view
    (told_line heard c.args.bytes.now line held piece.0 piece.1 few) c.whole.ensures.value

pub returns-in-TooLong-clause-value : goal.returns-in-TooLong-clause-value
returns-in-TooLong-clause-value c =
    let heard = c.in_ok-heard.heard.items in
    let held : goes_on heard ≡ true = search rules in
    let view : c.args.self.now ≡ Some heard = search rules in
    let many : 4200 < length heard + length (line_in c.args.bytes.now) = omega (arith, c.in-TooLong.ensures.value, c.len.ensures) in
    told_unless c.args.self.now heard c.args.bytes.now (Err LineTooLong) (Err LineTooLong) view (told_long heard c.args.bytes.now held many) (inr refl)
