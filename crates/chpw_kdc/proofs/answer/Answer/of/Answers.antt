use Rattle.std.proofs.Common.{sym, ◌∙◌}
use Rattle.chpw_kdc.proofs.TextLemmas.{read_longer}
use Rattle.chpw_kdc.proofs.answer.Answer.of.Goals as goal

pub returns-in-Some-first_word : goal.returns-in-Some-first_word
returns-in-Some-first_word c = record {
  value = read_longer c.args.line.now c.in-Some.text.now c.longer.result (c.in-Some-first_word.word.now, c.in-Some-first_word.rest.now)
      c.in-Some.ensures.value (sym c.eq.ensures ∙ c.if-eq.false) c.in-Some-first_word.ensures.value c.longer.ensures.value;
}
