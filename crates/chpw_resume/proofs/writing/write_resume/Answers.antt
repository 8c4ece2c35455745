use Rattle.std.proofs.Common.{rules, ◌≡◌, ◌<◌, ◌≤◌, length, get_or, subst}
use Rattle.chpw_resume.specs.declared.resume.TheConstants.{LONGEST_RESUME}
use Rattle.chpw_resume.specs.ResumeText.{state_text}
use Rattle.chpw_resume.proofs.TextLemmas.{id_more, text_whole, text_longer_id}
use Rattle.chpw_resume.proofs.writing.write_resume.Goals as goal

pub loop-id-preserved : goal.loop-id-preserved
loop-id-preserved c =
    let ids = c.as_slice-id-items.ensures.value in
    let id = c.id-item.result in
    let i = c.loop-id.id-index in
    id_more c.loop-id.text.items c.put_id.new.text.items c.args.resume.now.realm (state_text c.args.resume.now) c.args.resume.now.carried.ids i id
    (subst (λ l. i < length l) ids c.loop-id-test.true) (subst (λ l. id ≡ get_or l i id) ids c.id-item.is)
    c.loop-id.invariant c.in_ok-put_id.ensures.value

pub returns-clause-value : goal.returns-clause-value
returns-clause-value c =
    text_whole c.args.resume.now c.loop-id.text.items c.extend_from_slice.new.self.items c.digest-sum.result c.deref.result.now c.loop-id.id-index
    (subst (λ l. length l ≤ c.loop-id.id-index) c.as_slice-id-items.ensures.value c.loop-id-test.false)
    c.loop-id.invariant c.deref.ensures.value c.digest-sum.ensures c.in_ok-extend_from_slice.ensures.items

pub returns-in_err-put_id-clause-long : goal.returns-in_err-put_id-clause-long
returns-in_err-put_id-clause-long c =
    let ids = c.as_slice-id-items.ensures.value in
    let id = c.id-item.result in
    let i = c.loop-id.id-index in
    λ h. text_longer_id LONGEST_RESUME c.args.resume.now i id
    (subst (λ l. i < length l) ids c.loop-id-test.true) (subst (λ l. id ≡ get_or l i id) ids c.id-item.is) (search rules)
