use Rattle.std.proofs.Common.{◌≡◌, ◌∷◌, take}
use Rattle.chpw_blocks.specs.Blocks.{joined}
use Rattle.chpw_resume.specs.ResumeText.{times_bytes}
use Rattle.chpw_resume.proofs.writing.id_of.Given as goal

abbrev pub invariant-loop-part : goal.invariant-loop-part
invariant-loop-part l = l.blocks.items ≡ joined (times_bytes l.id.ctime l.id.cusec ∷ l.id.crealm ∷ take l.part-index l.id.client.parts)
