-- What a dialog is told of a table's names, one after the other.
use Rattle.std.proofs.Common.{List, [], ◌∷◌, ◌++◌, refl, subst}
use Rattle.chpw_rules.specs.declared.name.Name.{Name}
use Rattle.chpw_table.specs.State.{State as Table, keys_held}
use Rattle.chpw_book.specs.Newest.{newest_of}
use Rattle.chpw_kdc.specs.Dialogs.{State as Dialog}
use Rattle.chpw_reactor.specs.Tasks.{AreToldInTurn, IsNewestTold}

-- one name more
pub told_one_more : (table : Table) (names : List Name) (name : Name) (old next new : Dialog) → AreToldInTurn table names old next
    → IsNewestTold name (newest_of (keys_held table name)) next new → AreToldInTurn table (names ++ name ∷ []) old new
told_one_more table [] name old next new told one =
    let P : Dialog → Type 0 = λ d. IsNewestTold name (newest_of (keys_held table name)) d new in
    (new, subst P told one, refl)
told_one_more table (n ∷ names) name old next new told one =
    (told.0, told.1, told_one_more table names name told.0 next new told.2 one)
