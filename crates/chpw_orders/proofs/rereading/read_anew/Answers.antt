use Rattle.std.proofs.Common.{ℕ, List, IfSome, subst}
use Rattle.std.specs.declared.fs.File.{File}
use Rattle.std.specs.declared.io.traits.Read.{remaining-default}
use Rattle.chpw_orders.specs.Rereading.{IsToldOf}
use Rattle.chpw_orders.proofs.rereading.read_anew.Goals as goal

-- what the journal says is told over the text that set the configuration
pub returns-in-Err-prepare-clause-fault : goal.returns-in-Err-prepare-clause-fault
returns-in-Err-prepare-clause-fault g c =
    let text = c.in-Ok-rules_of.rules.text.items in
    let told = subst (λ (bytes : List ℕ). IfSome c.told_at-told.result (λ words. IsToldOf bytes c.in-Err-prepare.fault words))
    c.deref-in-Err-prepare.ensures.value c.told_at-told.ensures.told in
    (c.in_ok-config.config, text, remaining-default File c.in-Ok-open_file.journal, c.in-Err-prepare.ensures.refused, c.in-Ok-rules_of.ensures.sets, told)
