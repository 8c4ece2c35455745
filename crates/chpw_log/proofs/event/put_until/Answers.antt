use Rattle.std.proofs.Common.{refl}
use Rattle.std.proofs.lemmas.Bool.{and_parts}
use Rattle.chpw_printing.proofs.QuotingLemmas.{graphic_printed}
use Rattle.chpw_log.specs.Events.{quiet_text}
use Rattle.chpw_log.specs.Moments.{moment_text}
use Rattle.chpw_log.proofs.LineLemmas.{always, both_printed}
use Rattle.chpw_log.proofs.event.put_until.Goals as goal

pub returns-clause-printed : goal.returns-clause-printed
returns-clause-printed c =
    let text = moment_text c.args.until in
    always c.extend_from_slice.result
    (both_printed text quiet_text (graphic_printed text (and_parts _ _ c.in_ok-put_moment.ensures.field).1) refl)
