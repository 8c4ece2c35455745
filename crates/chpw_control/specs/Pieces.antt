-- For proofs alone: what bytes are after a part of a line.
use Rattle.std.specs.Prelude.{◌≡◌, ℕ, ◌+◌, ◌≤◌, ◌<◌, List, length, true, false}
use Rattle.chpw_control.specs.declared.piece.Piece.{Piece}
use Rattle.chpw_control.specs.declared.piece.Piece.TheVariants.{Line, More, TooLong}
use Rattle.chpw_control.specs.Dialogs.{line_in, is_whole}

abbrev pub IsPiece : Piece → ℕ → List ℕ → Type 0
IsPiece (Line line) heard bytes =
    (line.now ≡ line_in bytes) × (is_whole bytes ≡ true) × (heard + length line.now ≤ 4200)
IsPiece More heard bytes = (is_whole bytes ≡ false) × (line_in bytes ≡ bytes) × (heard + length bytes ≤ 4200)
IsPiece TooLong heard bytes = 4200 < heard + length (line_in bytes)
