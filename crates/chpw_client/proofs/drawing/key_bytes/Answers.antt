use Rattle.std.proofs.Common.{◌≡◌, ◌∙◌, ◌++◌, List, ℕ, ap, ap₂, length, rules, sym}
use Rattle.krb_msgs.specs.Making.{word_bytes}
use Rattle.krb_msgs.proofs.WordLemmas.{after_place}
use Rattle.chpw_client.proofs.drawing.key_bytes.Goals as goal

pub returns : goal.returns
returns c =
    let n : length c.args.words ≡ 8 = search rules in
    record {
      value = c.join_halves.ensures.value ∙ ap₂ (λ (xs ys : List ℕ). xs ++ ys) c.word_bytes.ensures.value c.word_bytes-2.ensures.value
          ∙ ap word_bytes (sym (after_place c.args.words 0 8 n));
    }
