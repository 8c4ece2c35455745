use Rattle.std.proofs.Common.{rules}
use Rattle.chpw_table.proofs.UpdatingLemmas.{entered_update, update_for_all, updated_for_all, told_update_for_all}
use Rattle.chpw_table.proofs.table.Table.finish_update.Goals as goal

pub returns-clause-steps : goal.returns-clause-steps
returns-clause-steps g c =
    let t = c.args.self.now in
    let p = c.args.prepared in
    let e = c.enter_update.ensures.entered in
    let legal = entered_update t c.enter_update.new.self p.moment p.update p.row _ _ e c.requires.ready.row in
    record {
      legal = λ s a. update_for_all t.state s p.update _ _ legal a;
      agrees = λ s a. updated_for_all t.state c.enter_update.new.self.state s _ p.moment p.update _ legal e.agrees a;
      room = c.requires.ready.room;
      events = e.events;
      seen = e.seen;
      max_entries = e.max_entries;
      few = search rules;
      broken = e.broken;
    }

pub returns-clause-writes : goal.returns-clause-writes
returns-clause-writes g c = record {
  io = c.enter_update.ensures.io;
  tells = λ s a. told_update_for_all c.args.self.now.state s c.args.prepared.update _ _ _ c.enter_update.ensures.told a;
}
