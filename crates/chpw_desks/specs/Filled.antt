-- Whether the first history is full before any message is answered.
use Rattle.std.specs.Prelude.{ℕ, List, [], ◌∷◌, Bool, false, nat_le, length}
use Rattle.chpw_book.specs.Passes.{PassView}

-- the first pass has as many receipts as a history may have entries, because of a raise
abbrev pub is_full_with : List PassView → ℕ → Bool
is_full_with [] most = false
is_full_with (p ∷ ps) most = nat_le most (length p.receipts)
