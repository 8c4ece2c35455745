use Rattle.std.proofs.Common.{sym, ◌∙◌, ◌≡◌, subst, Some, List, ℕ}
use Rattle.chpw_commands.specs.Lines.{line_of}
use Rattle.chpw_commands.proofs.StageLemmas.{turned}
use Rattle.chpw_commands.proofs.drill.stage.take_turn.Goals as goal

pub returns : goal.returns
returns c =
    let read : Some c.in-Some.line ≡ line_of c.realm.result.now c.args.line.now = sym c.in-Some.is ∙ c.in_ok-line.ensures.value in
    record {
      value = turned c.args.stage c.args.line.now c.in-Some.line c.turn_line.result (sym c.is_empty.ensures ∙ c.if-is_empty.false)
          (subst (λ (r : List ℕ). Some c.in-Some.line ≡ line_of r c.args.line.now) c.realm.ensures.value read) c.turn_line.ensures.value;
    }
