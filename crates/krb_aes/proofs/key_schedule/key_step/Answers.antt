use Rattle.std.proofs.Common.{ℕ, ◌-◌, ◌/◌, ◌<◌, [], ◌∷◌, sym, ap, ◌∙◌, arith}
use Rattle.krb_aes.specs.Bytes.{xor_bytes}
use Rattle.krb_aes.specs.KeyExpansion.{rot_word, sub_word}
use Rattle.krb_aes.proofs.ScheduleLemmas.{RCON-at, key_step-first, key_step-middle, key_step-plain}
use Rattle.krb_aes.proofs.key_schedule.key_step.Goals as goal
use Rattle.krb_aes.proofs.key_schedule.key_step.Goals.{else-key_words-eq8-via-then-key_words-eq8+else-i-eq4, else-key_words-eq8-via-else-key_words-eq8}

pub returns-then-i-key_words-eq0 : goal.returns-then-i-key_words-eq0
returns-then-i-key_words-eq0 c =
    let k : ℕ = c.args.i / c.args.key_words - 1 in
    let low : k < 10 = grind arith in
    c.xor_into.ensures.value ∙ rw (c.sub_word-word.ensures, c.rot_word.ensures)
    (ap (λ (x : ℕ). xor_bytes (sub_word (rot_word c.args.last)) (x ∷ 0 ∷ 0 ∷ 0 ∷ [])) (RCON-at k low))
    ∙ sym (key_step-first c.args.key_words c.args.i c.args.last c.if-i-key_words-eq0.true)

pub returns-then-i-eq4 : goal.returns-then-i-eq4
returns-then-i-eq4 c =
    c.sub_word.ensures ∙ sym (key_step-middle c.args.key_words c.args.i c.args.last c.if-i-key_words-eq0.false c.if-key_words-eq8.true c.if-i-eq4.true)

pub returns-else-key_words-eq8 : goal.returns-else-key_words-eq8
returns-else-key_words-eq8 c =
    sym (key_step-plain c.args.key_words c.args.i c.args.last c.if-i-key_words-eq0.false
    (λ k m. elim c.else-key_words-eq8.branch [
      | else-key_words-eq8-via-then-key_words-eq8+else-i-eq4 w ↦ w.if-i-eq4.false m
      | else-key_words-eq8-via-else-key_words-eq8 w ↦ w.if-key_words-eq8.false k
    ]))
