-- A moment as it is printed (RFC 3339 section 5.6): `YYYY-MM-DDTHH:MM:SS.FFFFFFZ`.
use Rattle.std.specs.Prelude.{◌≡◌, ℕ, pos, ◌+ℤ◌, ◌*ℤ◌, List}
use Rattle.chpw_table.specs.declared.times.Moment.{Moment}
use Rattle.chpw_printing.specs.Times as printed

abbrev pub moment_text : Moment → List ℕ
moment_text m = printed.time_text m.seconds m.micros

-- a text says this moment: its date and time of day spell these seconds (RFC 4120 section 5.2.3)
abbrev pub Tells : List ℕ → Moment → Type 0
Tells text m = printed.Tells text m.seconds m.micros

-- a moment in microseconds
abbrev pub IsInMicros : ℕ → Moment → Type 0
IsInMicros micros m = pos micros ≡ m.seconds *ℤ pos 1000000 +ℤ pos m.micros
