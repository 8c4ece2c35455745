use Rattle.std.proofs.Common.{arith, ap, sym, refl, subst, ℕ, ◌∙◌, ◌≡◌, ◌+◌, ◌≤◌, ◌<◌, ◌++◌, ◌∷◌, [], length, slice_index, slice_set}
use mathlib.Core.List.{IsPrefix}
use Rattle.chpw_table.specs.declared.change.AcceptedChange.TheVariants.{Count}
use Rattle.chpw_table.specs.declared.history.Event.TheVariants.{Raise}
use Rattle.chpw_table.specs.declared.history.Entry.{Entry}
use Rattle.chpw_table.specs.State.{State}
use Rattle.chpw_table.specs.History.{outcome}
use Rattle.chpw_table.specs.Raising.{would_raise}
use Rattle.chpw_table.specs.Agreement.{Held}
use Rattle.chpw_table.proofs.AgreementLemmas.{agrees_itself}
use Rattle.chpw_changelog.specs.Pens.{opening_state}
use Rattle.chpw_book.specs.Passes.{PassView}
use Rattle.chpw_book.specs.Receipts.{next_entry, receipt_of}
use Rattle.chpw_book.specs.Recorded.{RecordedView, IsLinearized}
use Rattle.chpw_book.specs.Publishing.{IsPublished, with_waiting}
use Rattle.chpw_decider.proofs.KeepingLemmas.{still_room}
use Rattle.chpw_book.proofs.CallLemmas.{err_of}
use Rattle.chpw_book.proofs.GrowsLemmas.{kept_event}
use Rattle.chpw_book.proofs.RaiseLemmas.{raise_pending}
use Rattle.chpw_book.proofs.recorded.RecordedTable.raise.Goals as goal

pub make_room-requires : goal.make_room-requires
make_room-requires g c =
    let kept = c.self.invariant.0 in
    let opening : State = opening_state g.D.LogName.root in
    let b : RecordedView =
    record {
      table = c.self.inside.table;
      history = c.self.inside.history.entries.items;
      counts = c.self.inside.history.counts.items;
      changes = c.self.inside.history.changes;
      total = c.self.inside.history.totals.total;
      told = g.S.JournalSink.told c.self.inside.sink;
    } in
    let published : IsPublished opening b.history b.table.state.broken c.args.snapshots.now =
    subst (λ (x : RecordedView). IsPublished opening x.history x.table.state.broken c.args.snapshots.now)
    (sym c.self.view_is) c.requires.published in
    record {
      room = c.in_ok-has_room.ensures.room;
      kept = (b.history, kept.legal, kept.agrees, published);
    }

-- there was room
pub unreachable-requires : goal.unreachable-requires
unreachable-requires g c =
    let room : c.self.inside.table.events < c.self.inside.table.max_entries = c.in_ok-has_room.ensures.room in
    let full = err_of c.raise.result _ c.in_default.not-Ok c.raise.ensures.full in
    omega (arith, room, full)

pub add-requires-clause-few : goal.add-requires-clause-few
add-requires-clause-few g c =
    let room = c.self.invariant.0.room in
    let next = c.in-Ok.ensures.counts.0 in
    let few : c.raise.new.self.events ≤ 1048576 = c.in-Ok.ensures.few in
    rw (c.make_room.ensures.same.0) (omega (arith, room, next, few))

pub add-requires-clause-worker : goal.add-requires-clause-worker
add-requires-clause-worker g c =
    let all = c.self.invariant.0.all in
    let mine = c.pass.invariant in
    let below = mine.2 in
    (omega (arith, all, below), mine.1)

pub add-requires-clause-counted : goal.add-requires-clause-counted
add-requires-clause-counted g c = rw c.make_room.ensures.same.0 c.self.invariant.0.counted

pub add-requires-clause-changes : goal.add-requires-clause-changes
add-requires-clause-changes g c = rw c.make_room.ensures.same.0 c.self.invariant.0.changes

pub invariant_of-self-2 : goal.invariant_of-self-2
invariant_of-self-2 g c =
    let opening : State = opening_state g.D.LogName.root in
    let b : RecordedView =
    record {
      table = c.self.inside.table;
      history = c.self.inside.history.entries.items;
      counts = c.self.inside.history.counts.items;
      changes = c.self.inside.history.changes;
      total = c.self.inside.history.totals.total;
      told = g.S.JournalSink.told c.self.inside.sink;
    } in
    let kept : IsLinearized opening g.D.DeskName.workers g.D.DeskName.prior b = c.self.invariant.0 in
    let s : State = outcome opening b.history in
    let made = c.in-Ok.raise in
    let w = c.pass.inside.calls.worker in
    let below : w < length b.counts = let all = kept.all in let mine = c.pass.invariant.2 in omega (arith, all, mine) in
    let pushed : c.add.new.self.entries.items
    ≡ b.history ++ next_entry b.history w c.args.now made.io_failed (Raise c.args.count made.verdict) ∷ [] =
    rw (← c.make_room.ensures.same.0) c.add.ensures.entry in (
      kept_event opening g.D.DeskName.workers g.D.DeskName.prior b w c.args.now made.io_failed (Raise c.args.count made.verdict)
          c.raise.new.self c.add.new.self.entries.items c.add.new.self.counts.items
          c.add.new.self.changes c.add.new.self.totals.total (g.S.JournalSink.told c.raise.new.sink) kept
          (c.in-Ok.ensures.legal s kept.agrees) (c.in-Ok.ensures.step s kept.agrees)
          (λ h. c.requires.count) c.in-Ok.ensures.told c.in-Ok.ensures.counts.0 below
          pushed c.add.ensures.counts c.add.ensures.changes c.add.ensures.total,
      c.self.invariant.1,
      still_room b.table.state.broken c.raise.new.self.state.broken made.io_failed _ _ c.self.invariant.2 c.in-Ok.ensures.broken c.in-Ok.ensures.io,
    )

pub returns-clause-recorded : goal.returns-clause-recorded
unfolding invariant_of-self-2
returns-clause-recorded g c =
    let opening : State = opening_state g.D.LogName.root in
    let b : RecordedView =
    record {
      table = c.self.inside.table;
      history = c.self.inside.history.entries.items;
      counts = c.self.inside.history.counts.items;
      changes = c.self.inside.history.changes;
      total = c.self.inside.history.totals.total;
      told = g.S.JournalSink.told c.self.inside.sink;
    } in
    let made = c.in-Ok.raise in
    let t : Held = c.raise.new.self in
    let w = c.pass.inside.calls.worker in
    let e : Entry = next_entry b.history w c.args.now made.io_failed (Raise c.args.count made.verdict) in
    let pushed : c.add.new.self.entries.items ≡ b.history ++ e ∷ [] = rw (← c.make_room.ensures.same.0) c.add.ensures.entry in
    let mine : c.add.new.calls.receipts.items ≡ c.pass.inside.calls.receipts.items ++ receipt_of b.history e ∷ [] =
    rw (← c.make_room.ensures.same.0, ← c.make_room.ensures.same.1) c.add.ensures.receipt in
    let later : IsLinearized opening g.D.DeskName.workers g.D.DeskName.prior _ = (invariant_of-self-2 g c).0 in
    let few : length c.add.new.self.entries.items < 2147483648 =
    let room = later.room in let most : t.events ≤ 1048576 = c.in-Ok.ensures.few in omega (arith, room, most) in
    let kept : IsLinearized opening g.D.DeskName.workers g.D.DeskName.prior b = c.self.invariant.0 in
    let below : w < length b.counts = let all = kept.all in let own = c.pass.invariant.2 in omega (arith, all, own) in
    let number : slice_index b.counts w + 1 ≡ e.number = ap (λ (n : ℕ). n + 1) (kept.counted.counts_are w below) in
    let waits : c.make_room.new.snapshots
    ≡ with_waiting (would_raise b.table c.args.count) (Count c.args.count) c.args.snapshots.now =
    c.in_ok-make_room.ensures.ok in
    let published : IsPublished opening b.history b.table.state.broken c.args.snapshots.now =
    subst (λ (x : RecordedView). IsPublished opening x.history x.table.state.broken c.args.snapshots.now)
    (sym c.self.view_is) c.requires.published in
    let pass_is = c.pass.view_is ∙ c.has_room.ensures.same in
    let saw : IsPrefix c.pass.inside.place.seen c.args.snapshots.now.list =
    subst (λ (p : PassView). IsPrefix p.place.seen c.args.snapshots.now.list)
    (sym pass_is) c.in_ok-has_room.ensures.saw in
    rw (← c.self.view_is, ← pass_is) (record {
      entry = e;
      enters = record { entry_is = refl; receipts = mine; share = c.add.ensures.share; same = (c.add.ensures.worker.0, refl) };
      grows = record {
        history = pushed;
        counts = c.add.ensures.counts ∙ ap (λ (n : ℕ). slice_set b.counts w n) number;
        room = c.in-Ok.ensures.room;
        events = c.in-Ok.ensures.counts.0;
        limit = c.in-Ok.ensures.counts.2;
      };
      place = refl;
      saw = saw;
      pending = raise_pending b.table c.args.count made.verdict
          made.io_failed t.state.broken c.args.snapshots.now c.make_room.new.snapshots c.in-Ok.ensures.room published.free
          (c.in-Ok.ensures.legal b.table.state (agrees_itself b.table.state)).verdict_is c.in-Ok.ensures.broken waits;
      linearized = (kept, later);
      few = few;
    })
