use Rattle.std.proofs.Common.{◌≡◌, ◌≤◌, List, ◌∷◌, length, ap, ◌∙◌, sym, subst, rules}
use Rattle.std.specs.List.{filter}
use Rattle.std.proofs.lemmas.Fn.{filter_same}
use Rattle.chpw_connections.specs.declared.kept.KeptAnswer.{KeptAnswer}
use Rattle.chpw_connections.specs.Answers.{Answer, is_recent, bytes_of, within, after_keep}
use Rattle.chpw_connections.specs.Fields.{answer_of, answers_of}
use Rattle.chpw_connections.proofs.KeptLemmas.{kept_is}
use Rattle.chpw_connections.proofs.WithinLemmas.{bytes-within, few_kept}
use Rattle.chpw_connections.proofs.answer_cache.AnswerCache.keep.Goals as goal

pub returns-clause-value : goal.returns-clause-value
returns-clause-value c =
    let k : KeptAnswer = record { sender = c.args.sender; message = c.args.message; reply = c.args.reply; moment = c.args.now } in
    let recent : c.retain.new.self.items ≡ filter (λ (x : KeptAnswer). is_recent c.args.now (answer_of x)) c.self.inside.kept.items =
    filter_same _ _ _ (λ x b f' k. search rules) _ _ c.retain.ensures.filtered in
    c.drop_oldest.ensures.value
    ∙ ap (λ (xs : List KeptAnswer). within 4194304 (answers_of xs))
    (c.push_front_reserved.ensures.items ∙ ap (λ (xs : List KeptAnswer). k ∷ xs) c.truncate.ensures.items)
    ∙ kept_is k c.retain.new.self.items c.self.inside.kept.items recent
    ∙ ap (λ (xs : List Answer). after_keep xs (answer_of k)) c.self.view_is

pub returns-clause-few : goal.returns-clause-few
returns-clause-few c = subst (λ (xs : List Answer). length xs ≤ 1024) (sym (returns-clause-value c)) (few_kept _ _)

pub returns-clause-bytes : goal.returns-clause-bytes
returns-clause-bytes c = subst (λ (xs : List Answer). bytes_of xs ≤ 4194304)
    (sym c.drop_oldest.ensures.value) (bytes-within 4194304 (answers_of c.push_front_reserved.new.self.items))
