use Rattle.std.proofs.Common.{List, sym, ap, ◌∙◌}
use Rattle.chpw_connections.specs.Answers.{Answer, reply_for}
use Rattle.chpw_connections.proofs.KeptLemmas.{reply_in_first, reply_in_second, so_some, so_none}
use Rattle.chpw_connections.proofs.answer_cache.AnswerCache.find.Goals as goal

pub returns-in-Some-clause-some : goal.returns-in-Some-clause-some
returns-in-Some-clause-some c =
    ap (λ (xs : List Answer). reply_for xs c.args.sender c.args.message.now c.args.now) (sym c.self.view_is)
    ∙ reply_in_first c.as_slices.result.0.now c.as_slices.result.1.now c.self.inside.kept.items c.args.sender c.args.message.now c.in-Some.reply.now c.args.now
    c.as_slices.ensures.items c.in-Some.ensures.some

pub returns-in-None-clause-some : goal.returns-in-None-clause-some
returns-in-None-clause-some c =
    so_some c.first_reply-in-None.result
    (ap (λ (xs : List Answer). reply_for xs c.args.sender c.args.message.now c.args.now) (sym c.self.view_is)
    ∙ reply_in_second c.as_slices.result.0.now c.as_slices.result.1.now c.self.inside.kept.items c.args.sender c.args.message.now c.args.now
    c.as_slices.ensures.items c.in-None.ensures.none)
    c.first_reply-in-None.ensures.some

pub returns-in-None-clause-none : goal.returns-in-None-clause-none
returns-in-None-clause-none c =
    so_none c.first_reply-in-None.result
    (ap (λ (xs : List Answer). reply_for xs c.args.sender c.args.message.now c.args.now) (sym c.self.view_is)
    ∙ reply_in_second c.as_slices.result.0.now c.as_slices.result.1.now c.self.inside.kept.items c.args.sender c.args.message.now c.args.now
    c.as_slices.ensures.items c.in-None.ensures.none)
    c.first_reply-in-None.ensures.none
