use Rattle.std.proofs.Common.{◌≤◌, ℕ, List, length, rules, subst, sym}
use Rattle.std.proofs.lemmas.Result.{IfOk-weaker}
use Rattle.chpw_client.specs.Questions.{Question, question_of}
use Rattle.chpw_client.specs.Requests.{longest_krb_priv}
use Rattle.chpw_client.specs.declared.drawing.RequestWords.{RequestWords}
use Rattle.chpw_client.proofs.FittingLemmas.{HasSizes, priv_fits, priv_short, private_part_fits}
use Rattle.chpw_client.proofs.RequestLemmas.{same_priv}
use Rattle.chpw_client.proofs.messages.krb_priv.Goals as goal

pub make_priv-requires-clause-part : goal.make_priv-requires-clause-part
make_priv-requires-clause-part c =
    rw c.in_ok-part.ensures.value (private_part_fits (question_of c.args.asked.now) c.requires.askable)

pub make_priv-requires-clause-message : goal.make_priv-requires-clause-message
make_priv-requires-clause-message c =
    let w : RequestWords = c.args.words.now in
    let sizes : HasSizes w = search rules in
    rw (c.in_ok-part.ensures.value, c.drawn_key.ensures.value, c.word_bytes.ensures.value)
    (priv_fits (question_of c.args.asked.now) w c.requires.askable sizes)

pub returns-clause-short : goal.returns-clause-short
returns-clause-short c =
    let q : Question = question_of c.args.asked.now in
    let w : RequestWords = c.args.words.now in
    let sizes : HasSizes w = search rules in
    IfOk-weaker c.make_priv.result _ _ (λ v is. subst (λ (b : List ℕ). length b ≤ longest_krb_priv)
    (sym (same_priv q w c.in_ok-part.part c.drawn_key.result c.word_bytes.result _
    c.in_ok-part.ensures.value c.drawn_key.ensures.value c.word_bytes.ensures.value is))
    (priv_short q w c.requires.askable sizes)) c.make_priv.ensures.text
