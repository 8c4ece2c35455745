use Rattle.std.proofs.Common.{arith}
use Rattle.chpw_book.proofs.GrowsLemmas.{few_entries}
use Rattle.chpw_book.proofs.history.History.add.Goals as goal

pub count_call-requires-clause-room : goal.count_call-requires-clause-room
count_call-requires-clause-room g c =
    let w = c.args.calls.now.worker in
    let counted = c.requires.counted.counts_are w c.requires.worker.0 in
    let most = few_entries w c.args.self.now.entries.items in
    let few = c.requires.few in
    omega (arith, counted, most, few)
