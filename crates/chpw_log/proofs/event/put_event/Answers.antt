use Rattle.std.proofs.Common.{◌≡◌, ◌++◌, OnOk, codes, subst, sym}
use Rattle.chpw_log.specs.declared.event.ServiceEvent.{ServiceEvent}
use Rattle.chpw_log.specs.Events.{IsQuietTold, event_words}
use Rattle.chpw_log.proofs.LineLemmas.{put_so}
use Rattle.chpw_log.proofs.event.put_event.Goals as goal

pub put_start-requires : goal.put_start-requires
put_start-requires c = record { quiet = subst IsQuietTold c.in-Started.is c.requires.quiet }

pub returns-in-JournalFailed-clause-value : goal.returns-in-JournalFailed-clause-value
returns-in-JournalFailed-clause-value c =
    let old = c.args.text.now.items in
    let new = c.extend_from_slice.new.self.items in
    subst (λ (event : ServiceEvent). OnOk c.extend_from_slice.result (new ≡ old ++ event_words event)) (sym c.in-JournalFailed.is)
    (put_so c.extend_from_slice.result new old (codes "journal-failed") c.extend_from_slice.ensures.items)
