use Rattle.std.proofs.Common.{◌≡◌, ◌++◌, Option, OnOk, codes, false, refl, subst, sym}
use Rattle.std.specs.Option.{option_map_or}
use Rattle.chpw_control.specs.declared.time.Time.{Time}
use Rattle.chpw_control.specs.Statuses.{text_of}
use Rattle.chpw_control.specs.Dialogs.{is_whole}
use Rattle.chpw_control.proofs.EndingLemmas.{always, put_so}
use Rattle.chpw_control.proofs.telling.put_until.Goals as goal

pub put_told-requires : goal.put_told-requires
put_told-requires c = record { time = c.requires.time c.in-Some.time c.in-Some.is }

pub returns-in-Some-clause-value : goal.returns-in-Some-clause-value
returns-in-Some-clause-value c =
    subst (λ (o : Option Time). OnOk c.put_told.result (c.put_told.new.text.items ≡ c.args.text.now.items ++ option_map_or text_of o (codes "-")))
    (sym c.in-Some.is) c.put_told.ensures.value

pub returns-in-Some-clause-plain : goal.returns-in-Some-clause-plain
returns-in-Some-clause-plain c =
    subst (λ (o : Option Time). OnOk c.put_told.result (is_whole (option_map_or text_of o (codes "-")) ≡ false)) (sym c.in-Some.is) c.put_told.ensures.plain

pub returns-in-None-clause-value : goal.returns-in-None-clause-value
returns-in-None-clause-value c =
    let new = c.extend_from_slice.new.self.items in
    subst (λ (o : Option Time). OnOk c.extend_from_slice.result (new ≡ c.args.text.now.items ++ option_map_or text_of o (codes "-"))) (sym c.in-None.is)
    (put_so c.extend_from_slice.result new c.args.text.now.items (codes "-") c.extend_from_slice.ensures.items)

pub returns-in-None-clause-plain : goal.returns-in-None-clause-plain
returns-in-None-clause-plain c =
    subst (λ (o : Option Time). OnOk c.extend_from_slice.result (is_whole (option_map_or text_of o (codes "-")) ≡ false)) (sym c.in-None.is)
    (always c.extend_from_slice.result refl)
