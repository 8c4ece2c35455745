use Rattle.std.proofs.Common.{◌≡◌, ◌∷◌, ◌++◌, map, take}
use Rattle.chpw_blocks.specs.Blocks.{joined}
use Rattle.chpw_resume.specs.ResumeText.{header, id_text, state_text}
use Rattle.chpw_resume.proofs.writing.write_resume.Given as goal

abbrev pub invariant-loop-id : goal.invariant-loop-id
invariant-loop-id l =
    l.text.items ≡ header ++ joined (l.resume.realm ∷ state_text l.resume ∷ map id_text (take l.id-index l.resume.carried.ids))
