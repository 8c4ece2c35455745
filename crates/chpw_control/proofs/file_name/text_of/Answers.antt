use Rattle.std.proofs.Common.{sym, ◌∙◌}
use Rattle.chpw_control.proofs.LineLemmas.{named, unnamed}
use Rattle.chpw_control.proofs.file_name.text_of.Goals as goal

pub returns-in-Ok-clause-legal : goal.returns-in-Ok-clause-legal
returns-in-Ok-clause-legal c =
    named c.args.name.now (sym c.is_empty.ensures ∙ c.if-is_empty.false) (sym c.contains.ensures.value ∙ c.if-contains.false) c.in-Ok.ensures.cases.1

pub returns-in-Err-clause-none : goal.returns-in-Err-clause-none
returns-in-Err-clause-none c = unnamed c.args.name.now c.in-Err.ensures.cases.0
