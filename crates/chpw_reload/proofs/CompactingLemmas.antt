-- When a compact journal may be made.
use Rattle.std.proofs.Common.{◌≡◌, ◌≤◌, max, List, sym, ◌∙◌, ap, arith}
use Rattle.chpw_rules.specs.declared.config.Config.{Config}
use Rattle.chpw_table.specs.State.{Fixed, State, kept_count, new_count, opening_of}
use Rattle.chpw_table.specs.Agreement.{Agrees}
use Rattle.chpw_record.specs.declared.record.Record.{Record}
use Rattle.chpw_journal.specs.JournalText.{restored}
use Rattle.chpw_journal.specs.Compact.{HoldsInRow}
use Rattle.chpw_journal.proofs.CoverLemmas.{restored_kept}
use Rattle.chpw_journal.proofs.RowLemmas.{openings_hold_in_row, restored_hold_in_row, agree_hold_in_row, runs_may_compact, count_grows}
use Rattle.chpw_report.specs.Held.{opening}
use Rattle.chpw_reload.specs.Next.{settings_of, next_config, next_state}
use Rattle.chpw_reload.specs.Reloads.{IsReload}
use Rattle.chpw_reload.specs.Laws.{ReloadsMayCompact, StartsMayCompact}
use Rattle.chpw_reload.proofs.ReloadLemmas.{next_kept}

-- a table keeps as many keys as the state that it agrees with
kept_alike : (t s : State) → Agrees t s → kept_count t ≡ kept_count s
kept_alike t s a = ap (λ (x : Fixed). max x.policy.depth 1) a.fixed

-- a reload opens with keys in a row
reload_in_row : (file : Config) (records : List Record) (left next : State) → IsReload file records left next → HoldsInRow next
reload_in_row file records left next h =
    agree_hold_in_row (next_state (settings_of file) h.closed h.renewed) next h.opens
    (λ name. openings_hold_in_row (next_config (settings_of file) h.closed h.renewed) h.closed.fixed.quiet_until h.may.fits name)

pub reloads_may_compact : ReloadsMayCompact
reloads_may_compact file records left next start held runs quiet h f b a order whole =
    let was : new_count start ≡ new_count (opening file) = b.count in
    let more : new_count (opening file) ≤ new_count (restored (opening file) records) = count_grows (opening file) records in
    let renewed : h.renewed.count ≡ new_count (restored (opening file) records) = h.is_renewed.table.count in
    let now : new_count next ≡ max h.closed.count h.renewed.count = h.opens.count in
    runs_may_compact start next held runs f a (reload_in_row file records left next h)
    (kept_alike start (opening_of file quiet) b ∙ sym (next_kept file records left next h))
    (omega (arith, was, more, renewed, now)) order whole

pub starts_may_compact : StartsMayCompact
starts_may_compact file records start held s runs quiet later fits n put f b a order whole =
    let before : State = opening_of file quiet in
    let was : new_count start ≡ new_count before = b.count in
    let now : new_count s ≡ new_count (restored before records) = put.count in
    runs_may_compact start s held runs f a
    (agree_hold_in_row (restored before records) s put (restored_hold_in_row before records (openings_hold_in_row file quiet fits) n))
    (kept_alike start (opening_of file later) b ∙ (sym (restored_kept before records) ∙ sym (kept_alike s (restored before records) put)))
    (omega (arith, was, now, count_grows before records)) order whole
