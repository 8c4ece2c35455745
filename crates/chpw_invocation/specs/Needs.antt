-- What words without a fault give: each option that a command requires is present, and each value is one that its rule
-- accepts.
use Rattle.std.specs.Prelude.{◌≡◌, ◌≢◌, true, List, Option, Some, None, find}
use Rattle.std.specs.List.{AllByRecursion}
use Rattle.std.specs.Str.{bytes_eq}
use Rattle.clap.specs.Facts.{parser_of_value}
use Rattle.clap.specs.Simple.{Shape, filled}
use Rattle.clap.specs.Values.{Accepts, read_as}
use Rattle.clap.specs.Walk.{Row, Rule, Text, first_of, one_of, reading_by}
use Rattle.chpw_invocation.specs.Program.{program}

-- what is matched of an option obeys its rule
pub record Suits (rule : Rule) (options : List Row) : Type 0 where
  pub there : rule.required ≡ true → first_of rule.id options ≢ None
  pub taken : (text : Text) → first_of rule.id options ≡ Some text
      → Accepts rule.ignore_case (parser_of_value rule.parser) text
      × (one_of rule.id options ≡ Some (read_as (reading_by rule) text))

-- each option of a command obeys its rule
abbrev pub Meets : Shape → List Row → Type 0
Meets command options = AllByRecursion (λ rule. Suits (filled rule) options) command.rules

abbrev pub MeetsOne : Option Shape → List Row → Type 0
MeetsOne None options = ⊥
MeetsOne (Some command) options = Meets command options

-- the command that is named is one of the program's, and its options obey its rules
abbrev pub IsSuited : Option (Text × List Row) → Type 0
IsSuited None = ⊥
IsSuited (Some p) = MeetsOne (find (λ command. bytes_eq p.0 command.name) program.subs) p.1
