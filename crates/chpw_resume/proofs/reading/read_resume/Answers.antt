use Rattle.chpw_resume.proofs.TextLemmas.{body_of_text, none_resumed}
use Rattle.chpw_resume.proofs.reading.read_resume.Goals as goal

pub returns-in_default : goal.returns-in_default
returns-in_default c = record { value = λ r f e. none_resumed r c.args.text.now c.in_default.ensures.value e }

pub returns-in-None : goal.returns-in-None
returns-in-None c =
    let none = rw c.in-None.is at c.in_ok-resume.ensures.value in
    record { value = λ r f e. none r f (body_of_text r c.args.text.now c.in-Some-summed.body.now c.in-Some-summed.ensures.value e) }
