use Rattle.std.proofs.Common.{◌≡◌, ◌∙◌, [], ap, inl, inr, subst, sym, map, string_bytes, List, Option}
use Rattle.std.proofs.lemmas.Result.{err_from_is_err_and}
use Rattle.clap.specs.Words.{App, Row, Text, app_of, is_simple, subcommand_of, subcommand_rows_of}
use Rattle.clap.specs.Faults.{fault_of, is_simple_and_free}
use Rattle.clap.specs.Kinds.{HasKind}
use Rattle.chpw_invocation.specs.Program.{program}
use Rattle.chpw_invocation.specs.Invocations.{AsksFor, IsOwnError, IsRefusal}
use Rattle.chpw_invocation.specs.Needs.{IsSuited}
use Rattle.chpw_invocation.proofs.ProgramLemmas.{command_suits}
use Rattle.chpw_invocation.proofs.RefusalLemmas.{command_met}
use Rattle.chpw_invocation.proofs.matching.invocation_in.Goals as goal

pub returns-in-Some-clause-asked : goal.returns-in-Some-clause-asked
returns-in-Some-clause-asked c =
    let is : app_of c.args.program.now ≡ program = c.requires.whole in
    let matched = (c.in_ok-matches.ensures.ok.2 (ap is_simple is)).1 ∙ ap (λ (a : App). subcommand_of a (map string_bytes c.args.words.now)) is in
    subst (λ (o : Option (Text × List Row)). AsksFor o c.in-Some.invocation) matched c.in-Some.ensures.asked

pub returns-in-Some-clause-taken : goal.returns-in-Some-clause-taken
returns-in-Some-clause-taken c =
    let is : app_of c.args.program.now ≡ program = c.requires.whole in
    ap (λ (a : App). fault_of a (map string_bytes c.args.words.now)) (sym is) ∙ c.in_ok-matches.ensures.kinds (ap is_simple_and_free is)

pub returns-in_err-matches-clause-refused : goal.returns-in_err-matches-clause-refused
returns-in_err-matches-clause-refused c =
    let is : app_of c.args.program.now ≡ program = c.requires.whole in
    let kinds : HasKind (fault_of program (map string_bytes c.args.words.now)) c.in_err-matches.field-0.0 =
    subst (λ (a : App). HasKind (fault_of a (map string_bytes c.args.words.now)) c.in_err-matches.field-0.0) is
    (c.in_err-matches.ensures.kinds (ap is_simple_and_free is)) in
    let p = err_from_is_err_and c.from_residual.result c.from_residual.ensures.1 in
    rw p.1 (subst (IsRefusal (fault_of program (map string_bytes c.args.words.now))
    (subcommand_of program (map string_bytes c.args.words.now))) (sym p.2) (inl kinds))

pub returns-clause-refused : goal.returns-clause-refused
returns-clause-refused c =
    let is : app_of c.args.program.now ≡ program = c.requires.whole in
    let words = map string_bytes c.args.words.now in
    let none : fault_of program words ≡ [] =
    ap (λ (a : App). fault_of a words) (sym is) ∙ c.in_ok-matches.ensures.kinds (ap is_simple_and_free is) in
    let matched = (c.in_ok-matches.ensures.ok.2 (ap is_simple is)).1 ∙ ap (λ (a : App). subcommand_of a words) is in
    let met = command_met c.args.program.now _ c.in_ok-matches.matches c.requires.local
    c.in_ok-matches.ensures.ok.0 c.in_ok-matches.ensures.ok.1 (ap (λ (a : App). a.top.subcommand_required) is) in
    let suited : IsSuited (subcommand_of program words) = command_suits words none (λ e. met (matched ∙ e)) in
    let here : IsSuited (subcommand_rows_of c.in_ok-matches.matches) = subst IsSuited (sym matched) suited in
    inr (
      none,
      subst (λ (o : Option (Text × List Row)). IsOwnError o c.in_ok-own_error-in-None.field-0) matched
          (c.in_ok-own_error-in-None.ensures.own here (c.asked_of.ensures.none here c.in-None.is)),
    )
