-- The summary of the messages of one kind that have no line of their own.
use Rattle.std.specs.Prelude.{ℕ, ◌+◌, List, [], ◌∷◌, ◌++◌, codes}
use Rattle.std.specs.List.{join_with_byte}
use Rattle.std.specs.Fmt.{decimal}
use Rattle.chpw_table.specs.declared.times.Moment.{Moment}
use Rattle.chpw_log.specs.declared.held_count.HeldCount.{HeldCount}
use Rattle.chpw_log.specs.declared.kind.HeldKind.{HeldKind}
use Rattle.chpw_log.specs.declared.kind.HeldKind.TheVariants.{Unopened, Skewed, Replayed}
use Rattle.chpw_log.specs.Moments.{moment_text}

-- which messages are counted
abbrev pub kind_words : HeldKind → List ℕ
kind_words Unopened = codes " more did not open: "
kind_words Skewed = codes " more had too great a clock skew: "
kind_words Replayed = codes " more were replayed: "

abbrev pub held_words : HeldKind → HeldCount → List ℕ
held_words kind h =
    decimal (h.loopback + h.other) ++ kind_words kind
    ++ decimal h.loopback ++ codes " from 127.0.0.0/8 or ::1, "
    ++ decimal h.other ++ codes " from elsewhere"

-- it has no worker, no peer and no reply
abbrev pub held_fields : Moment → HeldKind → HeldCount → List (List ℕ)
held_fields moment kind h =
    moment_text moment
    ∷ codes "worker" ∷ codes "-"
    ∷ codes "peer" ∷ codes "-"
    ∷ codes "client" ∷ codes "-"
    ∷ codes "target" ∷ codes "-"
    ∷ codes "code" ∷ codes "-"
    ∷ codes "error" ∷ codes "-"
    ∷ codes "kvno" ∷ codes "-"
    ∷ codes "text" ∷ held_words kind h ∷ []

abbrev pub held_line : Moment → HeldKind → HeldCount → List ℕ
held_line moment kind h = join_with_byte 32 (held_fields moment kind h) ++ codes "\n"
