-- What the lines of a log are appended to.
use Rattle.std.specs.Prelude.{ℕ, ◌==◌, List, ◌∷◌, Bool, true, false, not, ◌&&◌, Option, Some, None, if◌then◌else◌}
use Rattle.chpw_start.specs.declared.line_output.Kind.{Kind}
use Rattle.chpw_start.specs.declared.line_output.Kind.TheVariants.{Missing, File, Device, Other}
use Rattle.chpw_start.specs.declared.line_output.Output.{Output}
use Rattle.chpw_start.specs.declared.line_output.Output.TheVariants as output
use Rattle.chpw_start.specs.declared.readiness.Readiness.{Readiness}

-- a log can be here
abbrev pub is_taken : Kind → Bool
is_taken Missing = true
is_taken File = true
is_taken Device = true
is_taken Other = false

abbrev pub is_newline : Option ℕ → Bool
is_newline None = false
is_newline (Some byte) = byte == 10

-- a file of this many bytes, of which this is the last, ends within a line
abbrev pub is_begun : ℕ → Option ℕ → Bool
is_begun length last = not (length == 0) && not (is_newline last)

-- a line, after the end of an incomplete one
abbrev pub ended : Bool → List ℕ → List ℕ
ended torn line = if torn then 10 ∷ line else line

-- a line on standard error needn't be waited for, unless the log goes there too and took no line last time
abbrev pub is_told_at_once : Output → Option Readiness → Bool
is_told_at_once output.StandardError (Some r) = not r.is_stalled
is_told_at_once o r = true
