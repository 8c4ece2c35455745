-- Records put back, joined: one more at the end, and what goes on from the first ones.
use Rattle.std.proofs.Common.{◌≡◌, List, [], ◌∷◌, ◌++◌, refl}
use Rattle.chpw_table.specs.State.{State}
use Rattle.chpw_record.specs.declared.record.Record.{Record}
use Rattle.chpw_record.specs.Records.{RecordFits}
use Rattle.chpw_journal.specs.JournalText.{AreNext, IsNextRecord, with_record, restored}

pub restored_joined : (s : State) (cs ds : List Record) → restored s (cs ++ ds) ≡ restored (restored s cs) ds
restored_joined s [] ds = refl
restored_joined s (c ∷ cs) ds = restored_joined (with_record c s) cs ds

pub next_joined : (s : State) (cs ds : List Record) → AreNext s cs → AreNext (restored s cs) ds → AreNext s (cs ++ ds)
next_joined s [] ds h g = g
next_joined s (c ∷ cs) ds h g = (h.0, h.1, next_joined (with_record c s) cs ds h.2 g)

pub next_more : (s : State) (cs : List Record) (c : Record) → AreNext s cs → RecordFits c → IsNextRecord (restored s cs) c → AreNext s (cs ++ c ∷ [])
next_more s cs c h f k = next_joined s cs (c ∷ []) h (f, k, tt)
