-- A parse of a command that wants one below it met one; an error of a refusal's kind is one of the program's own.
use Rattle.std.proofs.Common.{◌≡◌, ◌≢◌, ◌∙◌, sym, ap, true, false, true≢false, List, Option, Some, None, Result, Ok, Err, IfOk, option_map, is_some}
use Rattle.clap.specs.Words.{BuildsTo, IsParsed, app_of, found_of, has_subcommand, subcommand_rows_of}
use Rattle.clap.specs.declared.builder.command.Command.{Command}
use Rattle.clap.specs.declared.builder.command.Command.TheViews.{out-Command}
use Rattle.clap.specs.declared.parser.matches.ArgMatches.{ArgMatches}
use Rattle.clap.specs.declared.parser.matches.ArgMatches.TheViews.{out-ArgMatches}
use Rattle.clap.specs.Values.{kind_of}
use Rattle.clap.specs.Walk.{Row, Text}
use Rattle.clap.specs.declared.error.Error.{Error}
use Rattle.clap.specs.declared.error.kind.ErrorKind.{ErrorKind}
use Rattle.chpw_invocation.specs.Invocations.{IsOwnError, IsOwnRefusal}
use Rattle.chpw_invocation.specs.Program.{IsLocal}
use Rattle.chpw_invocation.specs.Refusals.{kind_for}
use Rattle.chpw_invocation.specs.declared.refusing.Refusal.{Refusal}

some_mapped : {A B : Type 0} (f : A → B) (o : Option A) → is_some o ≡ true → option_map f o ≢ None
some_mapped f None some = absurd (true≢false (sym some))
some_mapped f (Some x) some = λ none. true≢false (ap is_some none)

pub command_met : (old new : Command) (m : ArgMatches) → IsLocal old → BuildsTo old new
    → ((out-Command new).has_globals ≡ false → IsParsed new (found_of m) (has_subcommand m)) → (app_of old).top.subcommand_required ≡ true
    → subcommand_rows_of m ≢ None
command_met old new m local builds parsed wanted =
    let met : has_subcommand m ≡ true = (parsed (builds.globals ∙ local)).checked.subcommand (builds.needs_subcommand ∙ wanted) in
    some_mapped _ (out-ArgMatches m).subcommand met

pub own_kind : {E : Type 0} (asked : Option (Text × List Row)) (refusal : Refusal) (kind : ErrorKind) (r : Result Error E) → IsOwnRefusal asked refusal
    → kind ≡ kind_for refusal → IfOk r (λ e. kind_of e ≡ kind) → IfOk r (IsOwnError asked)
own_kind asked refusal kind (Ok e) own is kinds = (refusal, own, kinds ∙ is)
own_kind asked refusal kind (Err e) own is kinds = tt
