use Rattle.std.proofs.Common.{◌≡◌, ◌≤◌, ℕ, List, length, sym, subst, rules}
use Rattle.std.proofs.lemmas.Result.{IfOk-weaker}
use Rattle.chpw_table.specs.Replies.{Answer, by_private}
use Rattle.chpw_messages.proofs.ReplyLemmas.{priv_fits, priv_part_fits, priv_short}
use Rattle.chpw_messages.proofs.private_reply.krb_priv.Goals as goal

pub make_priv-requires-clause-part : goal.make_priv-requires-clause-part
make_priv-requires-clause-part c =
    let a : Answer = by_private c.args.code c.args.text.now in
    rw c.in_ok-part.ensures.value (priv_part_fits c.args.seal.now.address a c.args.words c.requires.text c.in_ok-part.ensures.address).0

pub make_priv-requires-clause-message : goal.make_priv-requires-clause-message
make_priv-requires-clause-message c =
    let a : Answer = by_private c.args.code c.args.text.now in
    let long : length c.back_confounder.result ≡ 16 = search rules in
    rw c.in_ok-part.ensures.value (priv_fits c.args.seal.now a c.args.words c.back_confounder.result c.requires.text c.in_ok-part.ensures.address long)

pub returns-clause-text : goal.returns-clause-text
returns-clause-text c = rw (c.in_ok-part.ensures.value, c.back_confounder.ensures.value) at c.make_priv.ensures.text

pub returns-clause-short : goal.returns-clause-short
returns-clause-short c =
    let a : Answer = by_private c.args.code c.args.text.now in
    let long : length c.back_confounder.result ≡ 16 = search rules in
    let short = priv_short c.args.seal.now a c.args.words c.back_confounder.result c.requires.text c.in_ok-part.ensures.address long in
    IfOk-weaker c.make_priv.result _ (λ v. length v.items ≤ 1000)
    (λ v h. subst (λ (t : List ℕ). length t ≤ 1000) (sym (rw c.in_ok-part.ensures.value at h)) short) c.make_priv.ensures.text
