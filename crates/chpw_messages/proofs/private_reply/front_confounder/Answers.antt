use Rattle.std.proofs.Common.{◌≡◌, length, sym, ◌∙◌, ap, take, rules}
use Rattle.krb_msgs.specs.Making.{word_bytes}
use Rattle.krb_msgs.proofs.WordLemmas.{after_place}
use Rattle.chpw_messages.proofs.private_reply.front_confounder.Goals as goal

pub returns : goal.returns
returns c =
    let nine : length c.args.words ≡ 9 = search rules in
    record { value = c.word_bytes.ensures.value ∙ ap word_bytes (sym (ap (take 4) (after_place c.args.words 0 9 nine))) }
