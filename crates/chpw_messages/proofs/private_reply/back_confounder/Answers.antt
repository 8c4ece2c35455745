use Rattle.std.proofs.Common.{◌≡◌, length, sym, ◌∙◌, ap, rules}
use Rattle.krb_msgs.specs.Making.{word_bytes}
use Rattle.krb_msgs.proofs.WordLemmas.{after_place}
use Rattle.chpw_messages.proofs.private_reply.back_confounder.Goals as goal

pub returns : goal.returns
returns c =
    let nine : length c.args.words ≡ 9 = search rules in
    record { value = c.word_bytes.ensures.value ∙ ap word_bytes (sym (after_place c.args.words 5 4 nine)) }
