-- What a recorded table holds is held after its history.
use Rattle.std.proofs.Common.{◌≡◌, ℕ, List, Option}
use Rattle.chpw_rules.specs.declared.name.Name.{Name}
use Rattle.chpw_record.specs.declared.key.KeyRow.{KeyRow}
use Rattle.chpw_table.specs.declared.digest.Digest.{Digest}
use Rattle.chpw_table.specs.State.{State, keys_held}
use Rattle.chpw_book.specs.Recorded.{RecordedView, IsLinearized}
use Rattle.chpw_book.specs.Newest.{AreHeldAfter, IsMadeHeld, IsNewestHeld, made_by, newest_of}

held_after : (opening : State) (workers : ℕ) (prior : List ℕ) (b : RecordedView) (name : Name)
    → IsLinearized opening workers prior b → AreHeldAfter opening name (keys_held b.table.state name)
held_after opening workers prior b name l = record { before = b.history; legal = l.legal; held = l.agrees.principals name }

pub newest_held : (opening : State) (workers : ℕ) (prior : List ℕ) (b : RecordedView) (name : Name) (key : Option KeyRow)
    → IsLinearized opening workers prior b → key ≡ newest_of (keys_held b.table.state name) → IsNewestHeld (AreHeldAfter opening) name key
newest_held opening workers prior b name key l h = (keys_held b.table.state name, held_after opening workers prior b name l, h)

pub made_held : (opening : State) (workers : ℕ) (prior : List ℕ) (b : RecordedView) (name : Name) (digest : Digest) (key : Option KeyRow)
    → IsLinearized opening workers prior b → key ≡ made_by digest (keys_held b.table.state name)
    → IsMadeHeld (AreHeldAfter opening) name digest key
made_held opening workers prior b name digest key l h = (keys_held b.table.state name, held_after opening workers prior b name l, h)
