-- The form of a command whose options are added in turn.
use Rattle.std.proofs.Common.{◌≡◌, ◌∙◌, ◌<◌, ◌+◌, ℕ, refl, sym, ap, false, List, [], ◌∷◌, ◌++◌, map, take, length, get_or, Result, Ok, Err, IfOk}
use Rattle.std.proofs.lemmas.List.{take_more, map-append}
use Rattle.clap.specs.Walk.{Rule, Text, rule_of}
use Rattle.clap.specs.Simple.{App, app_of, with_rule}
use Rattle.clap.specs.Built.{AddsArg}
use Rattle.clap.specs.declared.builder.arg.Arg.{Arg}
use Rattle.clap.specs.declared.builder.command.Command.{Command}
use Rattle.chpw_invocation.specs.declared.options.OptionLine.{OptionLine}
use Rattle.chpw_invocation.specs.Options.{rule_for}
use Rattle.chpw_invocation.specs.Program.{IsBuilt, IsLocal, alone, command}

-- a command with this name and these options
abbrev pub HasOptions : Text → List OptionLine → Command → Type 0
HasOptions name lines c = (app_of c ≡ alone (command name (map rule_for lines))) × IsLocal c

-- one more option
pub option_added : (name : Text) (lines : List OptionLine) (i : ℕ) (line : OptionLine) (old new : Command) (a : Arg) → i < length lines
    → HasOptions name (take i lines) old → AddsArg old a new → rule_of a ≡ rule_for (get_or lines i line) → a.global ≡ false
    → HasOptions name (take (i + 1) lines) new
option_added name lines i line old new a below (is, local) added rule own =
    let rules : map rule_for (take (i + 1) lines) ≡ map rule_for (take i lines) ++ rule_of a ∷ [] =
    ap (map rule_for) (take_more lines i line below) ∙ map-append rule_for (take i lines) (get_or lines i line ∷ [])
    ∙ ap (λ (r : Rule). map rule_for (take i lines) ++ r ∷ []) (sym rule) in (
      added.shape own ∙ ap (λ (o : App). with_rule o (rule_of a)) is ∙ ap (λ (rs : List Rule). alone (command name rs)) (sym rules),
      rw (added.globals, local, own) refl,
    )

pub apart : {E : Type 0} (a : App) (r : Result Command E) → IsBuilt a r → IfOk r (λ c. app_of c ≡ a) × IfOk r IsLocal
apart a (Ok c) is = is
apart a (Err e) is = (tt, tt)
