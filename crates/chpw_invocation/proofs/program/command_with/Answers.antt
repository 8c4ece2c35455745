use Rattle.chpw_invocation.proofs.ShapeLemmas.{option_added}
use Rattle.chpw_invocation.proofs.program.command_with.Goals as goal

pub loop-option-preserved : goal.loop-option-preserved
loop-option-preserved c =
    option_added c.args.name.now c.args.options.now c.loop-option.option-index _ c.loop-option.command c.in_ok-command.command c.argument_of.result
    c.loop-option-test.true c.loop-option.invariant c.in_ok-command.ensures c.argument_of.ensures.rule c.argument_of.ensures.local
