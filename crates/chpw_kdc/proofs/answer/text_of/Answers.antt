use Rattle.chpw_kdc.proofs.TextLemmas.{text_gives}
use Rattle.chpw_kdc.proofs.answer.text_of.Goals as goal

pub returns : goal.returns
returns c = record {
  value = rw c.ok.ensures.value (text_gives _ c.args.bytes.now c.from_utf8.result c.from_utf8.ensures.cases);
}
