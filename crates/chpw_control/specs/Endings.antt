-- An answer that ended well is distinguished from one that was cut off, and from one with an error.
use Rattle.std.specs.Prelude.{◌≡◌, ℕ, ◌<◌, Bool, true, false, not, ◌&&◌, bytes_eq, List, [], ◌∷◌, ◌++◌, length, take}
use Rattle.std.specs.List.{list_all}
use Rattle.chpw_printing.specs.Quoting.{are_printed, words_text}
use Rattle.chpw_control.specs.Answers.{lines_text, ok_line, error_line, ended_ok}
use Rattle.chpw_control.specs.Dialogs.{is_whole}

-- a line of an answer, but the last: no newline is in it, and it isn't `ok`
abbrev pub is_line : List ℕ → Bool
is_line line = not (is_whole line) && not (bytes_eq line ok_line)

abbrev pub are_lines : List (List ℕ) → Bool
are_lines lines = list_all is_line lines

-- lines and `ok`
abbrev pub EndsWell : Type 0
EndsWell = (lines : List (List ℕ)) → ended_ok (lines_text (lines ++ ok_line ∷ [])) ≡ true

-- lines and `ok`, cut off anywhere
abbrev pub CutOff : Type 0
CutOff =
    (lines : List (List ℕ)) (n : ℕ) → are_lines lines ≡ true → n < length (lines_text (lines ++ ok_line ∷ []))
    → ended_ok (take n (lines_text (lines ++ ok_line ∷ []))) ≡ false

-- lines and an error, cut off or not
abbrev pub EndsBadly : Type 0
EndsBadly =
    (lines : List (List ℕ)) (words : List ℕ) (n : ℕ) → are_lines lines ≡ true → are_printed (words_text words) ≡ true
    → ended_ok (take n (lines_text (lines ++ error_line words ∷ []))) ≡ false
