-- The text of an answer: its lines, and a last one, `ok` or an error.
use Rattle.std.specs.Prelude.{ℕ, Bool, ◌||◌, nat_eq, bytes_eq, List, [], ◌∷◌, ◌++◌, codes}
use Rattle.std.specs.List.{ends_with}
use Rattle.chpw_printing.specs.Quoting.{words_text}

abbrev pub lines_text : List (List ℕ) → List ℕ
lines_text [] = []
lines_text (line ∷ lines) = line ++ 10 ∷ lines_text lines

abbrev pub ok_line : List ℕ
ok_line = codes "ok"

abbrev pub error_line : List ℕ → List ℕ
error_line words = codes "error: " ++ words_text words

-- the last line is `ok`: it is the whole text, or follows another line's newline
abbrev pub ended_ok : List ℕ → Bool
ended_ok text = bytes_eq text (codes "ok\n") || ends_with nat_eq text (codes "\nok\n")
