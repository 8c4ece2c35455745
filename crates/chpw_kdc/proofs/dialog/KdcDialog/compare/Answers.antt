use Rattle.std.proofs.Common.{◌≡◌, ◌∙◌, ap, Option}
use Rattle.chpw_record.specs.declared.key.KeyRow.{KeyRow}
use Rattle.chpw_kdc.specs.Mirrors.{judgement, key_of}
use Rattle.chpw_kdc.specs.Dialogs.{State}
use Rattle.chpw_kdc.specs.Answering.{after_judgement}
use Rattle.chpw_kdc.proofs.dialog.KdcDialog.compare.Goals as goal

pub returns-in_ok-put_right-in-Put-clause-step : goal.returns-in_ok-put_right-in-Put-clause-step
returns-in_ok-put_right-in-Put-clause-step g c =
    let judged : Option KeyRow → State =
    λ o. after_judgement c.args.name (judgement (g.O.IsOurs.ours c.args.ours.now) o c.args.name c.args.kvno c.args.keys.now) c.args.self.now in
    c.in_ok-put_right-in-Put.ensures.step
    ∙ ap (λ j. after_judgement c.args.name j c.args.self.now) c.in-Put.ensures.value
    ∙ ap judged c.get.ensures.value
    ∙ ap (λ (s : State). judged (key_of s.mirror c.args.name)) c.self.view_is
