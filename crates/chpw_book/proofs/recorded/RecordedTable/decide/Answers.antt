use Rattle.std.proofs.Common.{arith, true, ap, sym, refl, subst, ℕ, ◌∙◌, ◌≡◌, ◌+◌, ◌≤◌, ◌<◌, ◌++◌, ◌∷◌, [], length, slice_index, slice_set}
use mathlib.Core.List.{IsPrefix}
use Rattle.chpw_table.specs.declared.request.Opened.{Opened}
use Rattle.chpw_table.specs.declared.history.Event.TheVariants.{Ask}
use Rattle.chpw_table.specs.declared.history.Entry.{Entry}
use Rattle.chpw_table.specs.Outcomes.{Steps, Writes}
use Rattle.chpw_table.specs.declared.verdict.Verdict.TheVariants.{Done}
use Rattle.chpw_table.specs.State.{State, keys_held}
use Rattle.chpw_table.specs.Requests.{target_of}
use Rattle.chpw_table.specs.Verdicts.{is_done}
use Rattle.chpw_table.specs.Versions.{change_by}
use Rattle.chpw_table.specs.History.{outcome}
use Rattle.chpw_table.specs.Agreement.{Held, Agrees}
use Rattle.chpw_changelog.specs.Pens.{opening_state}
use Rattle.chpw_book.specs.Passes.{PassView}
use Rattle.chpw_book.specs.Receipts.{next_entry, receipt_of}
use Rattle.chpw_book.specs.Recorded.{RecordedView, IsLinearized}
use Rattle.chpw_book.specs.Publishing.{IsPublished, with_waiting}
use Rattle.chpw_book.specs.Wholeness.{NewestIsWhole}
use Rattle.chpw_decider.proofs.KeepingLemmas.{still_room}
use Rattle.chpw_book.proofs.GrowsLemmas.{kept_step}
use Rattle.chpw_book.proofs.PublishLemmas.{pending_next, written_done}
use Rattle.chpw_book.proofs.recorded.RecordedTable.decide.Goals as goal

pub make_room-requires-clause-kept : goal.make_room-requires-clause-kept
make_room-requires-clause-kept g c =
    let kept = c.self.invariant.0 in
    let same = c.prepare.ensures.unchanged in
    let opening : State = opening_state g.D.LogName.root in
    let b : RecordedView =
    record {
      table = c.self.inside.table;
      history = c.self.inside.history.entries.items;
      counts = c.self.inside.history.counts.items;
      changes = c.self.inside.history.changes;
      total = c.self.inside.history.totals.total;
      told = g.S.JournalSink.told c.self.inside.sink;
    } in
    let published : IsPublished opening b.history b.table.state.broken c.args.snapshots.now =
    subst (λ (x : RecordedView). IsPublished opening x.history x.table.state.broken c.args.snapshots.now)
    (sym c.self.view_is) c.requires.published in (
      b.history,
      kept.legal,
      subst (λ (t : Held). Agrees t.state (outcome opening b.history)) (sym same) kept.agrees,
      subst (λ (t : Held). IsPublished opening b.history t.state.broken c.args.snapshots.now) (sym same) published,
    )

pub add-requires-clause-few : goal.add-requires-clause-few
add-requires-clause-few g c =
    let room = c.self.invariant.0.room in
    let same = ap (λ (t : Held). t.events) c.prepare.ensures.unchanged in
    let next = c.finish-verdict.ensures.steps.events in
    let few : c.finish-verdict.new.self.events ≤ 1048576 = c.finish-verdict.ensures.steps.few in
    rw (c.in-Ok.ensures.same.0) (omega (arith, room, same, next, few))

pub add-requires-clause-worker : goal.add-requires-clause-worker
add-requires-clause-worker g c =
    let all = c.self.invariant.0.all in
    let mine = c.pass.invariant in
    let below = mine.2 in
    (omega (arith, all, below), mine.1)

pub add-requires-clause-counted : goal.add-requires-clause-counted
add-requires-clause-counted g c = rw c.in-Ok.ensures.same.0 c.self.invariant.0.counted

pub add-requires-clause-changes : goal.add-requires-clause-changes
add-requires-clause-changes g c = rw c.in-Ok.ensures.same.0 c.self.invariant.0.changes

pub add-requires-clause-copy : goal.add-requires-clause-copy
add-requires-clause-copy g c =
    let same = c.in-Ok.ensures.copy ∙ sym c.finish-verdict.ensures.steps.opened in
    ap (λ (o : Opened). Ask o c.finish-verdict.result.verdict) same

pub invariant_of-self-2 : goal.invariant_of-self-2
invariant_of-self-2 g c =
    let opening : State = opening_state g.D.LogName.root in
    let b : RecordedView =
    record {
      table = c.self.inside.table;
      history = c.self.inside.history.entries.items;
      counts = c.self.inside.history.counts.items;
      changes = c.self.inside.history.changes;
      total = c.self.inside.history.totals.total;
      told = g.S.JournalSink.told c.self.inside.sink;
    } in
    let kept : IsLinearized opening g.D.DeskName.workers g.D.DeskName.prior b = c.self.invariant.0 in
    let made = c.finish-verdict.result in
    let w = c.pass.inside.calls.worker in
    let below : w < length b.counts = let all = kept.all in let mine = c.pass.invariant.2 in omega (arith, all, mine) in
    let steps : Steps b.table c.finish-verdict.new.self c.args.now c.args.opened made =
    rw (← c.prepare.ensures.unchanged, ← c.in_ok-prepared.ensures.parts.0, ← c.in_ok-prepared.ensures.parts.1) c.finish-verdict.ensures.steps in
    let writes : Writes g.S.JournalSink.failed g.S.JournalSink.told
    b.table.state c.self.inside.sink c.finish-verdict.new.sink c.args.opened made =
    rw (← c.prepare.ensures.unchanged, ← c.in_ok-prepared.ensures.parts.1) c.finish-verdict.ensures.writes in
    let pushed : c.add.new.self.entries.items ≡ b.history ++ next_entry b.history w c.args.now made.io_failed (Ask c.args.opened made.verdict) ∷ [] =
    rw (← c.in-Ok.ensures.same.0, ← steps.opened) c.add.ensures.entry in
    let newest : is_done made.verdict ≡ true → NewestIsWhole (keys_held c.finish-verdict.new.self.state (target_of c.args.opened).name) =
    rw (← steps.opened) c.know_accepted_key.ensures.whole in (
      kept_step opening g.D.DeskName.workers g.D.DeskName.prior b w c.args.now c.args.opened made c.finish-verdict.new.self
          c.add.new.self.entries.items c.add.new.self.counts.items c.add.new.self.changes c.add.new.self.totals.total
          (g.S.JournalSink.told c.finish-verdict.new.sink) kept steps writes.tells newest
          below pushed c.add.ensures.counts c.add.ensures.changes c.add.ensures.total,
      c.self.invariant.1,
      still_room b.table.state.broken c.finish-verdict.new.self.state.broken made.io_failed _ _ c.self.invariant.2 steps.broken writes.io,
    )

pub returns-clause-recorded : goal.returns-clause-recorded
unfolding invariant_of-self-2
returns-clause-recorded g c =
    let opening : State = opening_state g.D.LogName.root in
    let b : RecordedView =
    record {
      table = c.self.inside.table;
      history = c.self.inside.history.entries.items;
      counts = c.self.inside.history.counts.items;
      changes = c.self.inside.history.changes;
      total = c.self.inside.history.totals.total;
      told = g.S.JournalSink.told c.self.inside.sink;
    } in
    let made = c.finish-verdict.result in
    let t : Held = c.finish-verdict.new.self in
    let w = c.pass.inside.calls.worker in
    let e : Entry = next_entry b.history w c.args.now made.io_failed (Ask c.args.opened made.verdict) in
    let same = c.prepare.ensures.unchanged in
    let steps : Steps b.table t c.args.now c.args.opened made =
    rw (← same, ← c.in_ok-prepared.ensures.parts.0, ← c.in_ok-prepared.ensures.parts.1) c.finish-verdict.ensures.steps in
    let pushed : c.add.new.self.entries.items ≡ b.history ++ e ∷ [] = rw (← c.in-Ok.ensures.same.0, ← steps.opened) c.add.ensures.entry in
    let mine : c.add.new.calls.receipts.items ≡ c.pass.inside.calls.receipts.items ++ receipt_of b.history e ∷ [] =
    rw (← c.in-Ok.ensures.same.0, ← c.in-Ok.ensures.same.1, ← steps.opened) c.add.ensures.receipt in
    let later : IsLinearized opening g.D.DeskName.workers g.D.DeskName.prior _ = (invariant_of-self-2 g c).0 in
    let few : length c.add.new.self.entries.items < 2147483648 =
    let room = later.room in let most : t.events ≤ 1048576 = steps.few in omega (arith, room, most) in
    let kept : IsLinearized opening g.D.DeskName.workers g.D.DeskName.prior b = c.self.invariant.0 in
    let below : w < length b.counts = let all = kept.all in let own = c.pass.invariant.2 in omega (arith, all, own) in
    let number : slice_index b.counts w + 1 ≡ e.number = ap (λ (n : ℕ). n + 1) (kept.counted.counts_are w below) in
    let prepared = c.in_ok-prepared.prepared in
    let waits : c.make_room.new.snapshots ≡ with_waiting (is_done prepared.row) (change_by b.table.state (Ask c.args.opened Done)) c.args.snapshots.now =
    rw (← same, ← c.in_ok-prepared.ensures.parts.1) c.in-Ok.ensures.ok in
    let published : IsPublished opening b.history b.table.state.broken c.args.snapshots.now =
    subst (λ (x : RecordedView). IsPublished opening x.history x.table.state.broken c.args.snapshots.now)
    (sym c.self.view_is) c.requires.published in
    let pass_is = c.pass.view_is ∙ c.prepare.ensures.same in
    let saw : IsPrefix c.pass.inside.place.seen c.args.snapshots.now.list =
    subst (λ (p : PassView). IsPrefix p.place.seen c.args.snapshots.now.list)
    (sym pass_is) c.in_ok-prepared.ensures.saw in
    rw (← c.self.view_is, ← pass_is) (record {
      entry = e;
      enters = record { entry_is = refl; receipts = mine; share = c.add.ensures.share; same = (c.add.ensures.worker.0, refl) };
      grows = record {
        history = pushed;
        counts = c.add.ensures.counts ∙ ap (λ (n : ℕ). slice_set b.counts w n) number;
        room = steps.room;
        events = steps.events;
        limit = steps.max_entries;
      };
      place = refl;
      saw = saw;
      pending = pending_next b.table.state b.table.state.broken t.state.broken made.io_failed (is_done prepared.row) (Ask c.args.opened made.verdict)
          (change_by b.table.state (Ask c.args.opened Done)) c.args.snapshots.now c.make_room.new.snapshots published.free
          (written_done prepared.row made.verdict made.io_failed c.finish-verdict.ensures.row) steps.broken refl waits;
      linearized = (kept, later);
      few = few;
    })
