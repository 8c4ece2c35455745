-- The parts, joined by `/`, give the text back.
use Rattle.std.proofs.Common.{◌≡◌, ◌∙◌}
use Rattle.std.proofs.lemmas.List.Splits.{join_with_byte-slice_split}
use Rattle.chpw_rules.specs.Names.{parts_of}
use Rattle.chpw_rules.proofs.name.Name.parse.Goals as goal
use Rattle.chpw_rules.proofs.name.Name.parse.Goals.{then-fits, else-fits}

pub returns-clause-whole : goal.returns-clause-whole
returns-clause-whole c =
    let copied = rw c.as_slice.ensures.value at c.in_ok-parts-2.ensures.value in
    let parts : c.of.result ≡ parts_of c.args.text.now
    = c.of.ensures.value ∙ copied ∙ c.in_ok-parts.ensures.value in
    elim c.if-fits.branch [
      | then-fits w ↦ rw (w.result-is, parts) (join_with_byte-slice_split 47 c.args.text.now)
      | else-fits w ↦ rw w.result-is tt
    ]
