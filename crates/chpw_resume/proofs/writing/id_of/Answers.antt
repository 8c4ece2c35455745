use Rattle.std.proofs.Common.{rules, ◌≡◌, ◌<◌, length, get_or, subst}
use Rattle.chpw_resume.specs.declared.resume.TheConstants.{LONGEST_RESUME}
use Rattle.chpw_resume.proofs.TextLemmas.{longer_part}
use Rattle.chpw_resume.proofs.writing.id_of.Goals as goal

pub returns-in_err-put-3-clause-long : goal.returns-in_err-put-3-clause-long
returns-in_err-put-3-clause-long c =
    let parts = c.as_slice-part-items.ensures.value in
    let part = c.part-item.result in
    let i = c.loop-part.part-index in
    λ h. longer_part LONGEST_RESUME c.args.id.now i part
    (subst (λ l. i < length l) parts c.loop-part-test.true) (subst (λ l. part ≡ get_or l i part) parts c.part-item.is) (search rules)
