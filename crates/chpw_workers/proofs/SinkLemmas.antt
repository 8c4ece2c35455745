-- The journals of several desks, joined.
use Rattle.std.proofs.Common.{ℕ, List, [], ◌∷◌, ◌++◌, sym, ◌∙◌, ap, append_assoc, append-nil}
use Rattle.chpw_table.specs.Journal.{journal}
use Rattle.chpw_journal.specs.Runs.{journals}
use Rattle.chpw_workers.specs.Sinks.{JournalsAreJoined}

pub joined : JournalsAreJoined
joined prior told [] same = sym same ∙ sym (append-nil prior)
joined prior told (run ∷ runs) (next, adds, rest) =
    joined next told runs rest
    ∙ (ap (λ (bytes : List ℕ). bytes ++ journals runs) adds ∙ append_assoc prior (journal run.opening run.history) (journals runs))
