use Rattle.std.proofs.Common.{◌≡◌, map, sym, ◌∙◌, ap, subst}
use Rattle.std.specs.List.{AllByRecursion}
use Rattle.chpw_blocks.specs.Blocks.{IsShort}
use Rattle.chpw_resume.specs.ResumeText.{id_text, IdFits}
use Rattle.chpw_resume.proofs.TextLemmas.{fits_more, ids_more, none_at, short_at}
use Rattle.chpw_resume.proofs.reading.read_ids.Goals as goal

pub returns-in-None : goal.returns-in-None
returns-in-None c =
    let none = rw c.in-None.is at c.in_ok-id.ensures.value in
    record {
      value = λ ids f e. none_at c.args.texts.now c.loop-text.text-index c.text-item.result ids c.loop-text-test.true c.text-item.is
          (λ id g h. none id g (c.as_slice.ensures.value ∙ h)) f e;
    }

pub loop-text-preserved : goal.loop-text-preserved
loop-text-preserved c =
    let some = rw c.in-Some.is at c.in_ok-id.ensures.value in
    let text : c.text-item.result ≡ id_text c.in-Some.id = sym c.as_slice.ensures.value ∙ some.0 in
    let items = c.in_ok-push-in-Some.ensures.items in
    let short = short_at c.args.texts.now c.loop-text.text-index c.text-item.result c.requires.short c.loop-text-test.true c.text-item.is in (
      ids_more c.args.texts.now c.loop-text.text-index c.loop-text.ids.items c.in-Some.id c.text-item.result c.loop-text-test.true c.text-item.is
          c.loop-text.invariant.0 text
          ∙ ap (map id_text) (sym items),
      subst (AllByRecursion IdFits) (sym items)
          (fits_more c.loop-text.ids.items c.in-Some.id c.loop-text.invariant.1 (some.1, subst IsShort text short)),
    )
