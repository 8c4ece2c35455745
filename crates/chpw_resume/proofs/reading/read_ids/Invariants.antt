use Rattle.std.proofs.Common.{◌≡◌, map, take}
use Rattle.std.specs.List.{AllByRecursion}
use Rattle.chpw_resume.specs.ResumeText.{id_text, IdFits}
use Rattle.chpw_resume.proofs.reading.read_ids.Given as goal

abbrev pub invariant-loop-text : goal.invariant-loop-text
invariant-loop-text l = (take l.text-index l.texts ≡ map id_text l.ids.items) × AllByRecursion IdFits l.ids.items
