use Rattle.std.proofs.Common.{◌≡◌, length, take}
use Rattle.chpw_serve.specs.InTurn.{InTurn}
use Rattle.chpw_serve.proofs.draws.next_words.Given as goal

-- so many words were drawn in their order
abbrev pub invariant-loop-i : goal.invariant-loop-i
invariant-loop-i g l = (length l.drawn ≡ g.row.N) × InTurn g.X.Words.gives l.fn.words (take l.i l.drawn) l.words
