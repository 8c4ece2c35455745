-- What the format promises.
use Rattle.std.specs.Prelude.{◌≡◌}
use Rattle.chpw_resume.specs.declared.resume.Resume.{Resume}
use Rattle.chpw_resume.specs.ResumeText.{ResumeFits, blocks_of, resume_text}

-- texts alike have blocks alike
abbrev pub HasOneText : Type 0
HasOneText = (r q : Resume) → ResumeFits r → ResumeFits q → resume_text r ≡ resume_text q → blocks_of r ≡ blocks_of q
