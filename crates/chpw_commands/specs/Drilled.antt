-- The drill: what a script prints, and its first bad line.
use Rattle.std.specs.Prelude.{ℕ, ◌+◌, ◌==◌, List, [], ◌∷◌, ◌++◌, Option, Some, None, codes}
use Rattle.std.specs.Fmt.{decimal}
use Rattle.std.specs.Option.{option_map_or}
use Rattle.std.specs.List.{slice_split}
use Rattle.chpw_commands.specs.declared.drill.Drilled.{Drilled}
use Rattle.chpw_commands.specs.declared.drill.DrillFault.{DrillFault}
use Rattle.chpw_commands.specs.declared.drill.DrillFault.TheVariants as fault
use Rattle.chpw_commands.specs.Words.{◌>>=◌}
use Rattle.chpw_commands.specs.Lines.{line_of}
use Rattle.chpw_commands.specs.Stages.{Stage, start, realm_at, Turn, silent, turn_line}

-- lines are separated by newlines; what follows the last newline is one too
abbrev pub lines_of : List ℕ → List (List ℕ)
lines_of script = slice_split (λ b. b == 10) script

-- an empty line is skipped; none if the line is bad
abbrev pub turn : Stage → List ℕ → Option Turn
turn stage [] = Some (silent stage)
turn stage (b ∷ bs) = line_of (realm_at stage) (b ∷ bs) >>= turn_line stage

-- this is printed before the rest
abbrev pub behind : List ℕ → Drilled → Drilled
behind printed rest = record { output = printed ++ rest.output; bad = rest.bad }

-- from a stage on; n is the number of the first of these lines
abbrev pub drilled_from : Stage → ℕ → List (List ℕ) → Drilled
drilled_from stage n [] = record { output = []; bad = None }
drilled_from stage n (line ∷ lines) =
    option_map_or (λ (t : Turn). behind t.output (drilled_from t.stage (n + 1) lines))
    (turn stage line)
    (record { output = []; bad = Some n })

abbrev pub drilled : List ℕ → Drilled
drilled script = drilled_from start 1 (lines_of script)

-- why a command ended early
abbrev pub fault_text : DrillFault → List ℕ
fault_text (fault.Line n) = codes "line " ++ decimal n ++ codes ": bad"
fault_text fault.TooMany = codes "too many principals"
fault_text fault.Memory = codes "memory"
fault_text fault.Read = codes "cannot read"
fault_text fault.Write = codes "cannot write"
