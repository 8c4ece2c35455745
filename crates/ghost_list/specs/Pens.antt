-- The list that the holders of one pen after another have written into the log.
use Rattle.std.specs.Prelude.{◌≡◌, ℕ, ◌==◌, List, [], ◌∷◌, ◌++◌, Option, None, Some, if◌then◌else◌, false}
use Rattle.ghost_list.specs.declared.line.Line.{Line}

-- the line of an entry
abbrev pub line_of : {E : Type 0} → E → ℕ → ℕ → Line E
line_of x by next = record { value = Some x; by = by; next = next }

-- what a step asks for that writes no line
abbrev pub no_line : {E : Type 0} → Line E
no_line = record { value = None; by = 0; next = 0 }

abbrev pub value_in : {E : Type 0} → Option E → List E
value_in None = []
value_in (Some x) = x ∷ []

-- the entries that this pen, and the pens that took over from it, have written
abbrev pub written_by : {E : Type 0} → ℕ → List (Line E) → List E
written_by pen [] = []
written_by pen (l ∷ ls) = if l.by == pen then value_in l.value ++ written_by l.next ls else written_by pen ls

-- the pen that goes on after them
abbrev pub pen_after : {E : Type 0} → ℕ → List (Line E) → ℕ
pen_after pen [] = pen
pen_after pen (l ∷ ls) = if l.by == pen then pen_after l.next ls else pen_after pen ls

-- no line is written with this pen
abbrev pub IsUnspent : {E : Type 0} → ℕ → List (Line E) → Type 0
IsUnspent pen [] = Unit {0}
IsUnspent pen (l ∷ ls) = ((l.by == pen) ≡ false) × IsUnspent pen ls
