use Rattle.std.proofs.Common.{◌≡◌, ◌≤◌, ℕ, List, length, sym, subst, rules}
use Rattle.std.proofs.lemmas.Result.{IfOk-weaker}
use Rattle.chpw_messages.proofs.ReplyLemmas.{ap_rep_fits, ap_rep_part_fits, ap_rep_short}
use Rattle.chpw_messages.proofs.private_reply.ap_rep.Goals as goal

pub make_ap_rep-requires-clause-part : goal.make_ap_rep-requires-clause-part
make_ap_rep-requires-clause-part c =
    rw c.ap_rep_part-part.ensures.value (ap_rep_part_fits c.args.seal.now c.args.words c.requires.times).0

pub make_ap_rep-requires-clause-message : goal.make_ap_rep-requires-clause-message
make_ap_rep-requires-clause-message c =
    let long : length c.front_confounder.result ≡ 16 = search rules in
    rw c.ap_rep_part-part.ensures.value (ap_rep_fits c.args.seal.now c.args.words c.front_confounder.result c.requires.times long)

pub returns-clause-text : goal.returns-clause-text
returns-clause-text c = rw (c.ap_rep_part-part.ensures.value, c.front_confounder.ensures.value) at c.make_ap_rep.ensures.text

pub returns-clause-short : goal.returns-clause-short
returns-clause-short c =
    let long : length c.front_confounder.result ≡ 16 = search rules in
    let short = ap_rep_short c.args.seal.now c.args.words c.front_confounder.result long in
    IfOk-weaker c.make_ap_rep.result _ (λ v. length v.items ≤ 500)
    (λ v h. subst (λ (t : List ℕ). length t ≤ 500) (sym (rw c.ap_rep_part-part.ensures.value at h)) short) c.make_ap_rep.ensures.text
