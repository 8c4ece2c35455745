-- What a closure holds may go to another thread, or be shared by several, where each part of it may.
use denote.RattleType.{RattleType}
use mir.Syntax.{Sym, Ty}
use denote.Exit.{no}
use denote.Param.{param, arg}
use denote.Struct.Tuple.{TupleAt}
use Rattle.std.specs.Prelude.{ℕ, [], ◌∷◌}
use denote.Param.Send.{IsSend, IsSync, sendable}

pub six_sync : (n : ℕ) (δ : Ty) (ν : Sym) (A B C D E F : RattleType) → IsSync A → IsSync B → IsSync C → IsSync D
    → IsSync E → IsSync F → IsSync (param n (arg δ no (TupleAt ν (A ∷ B ∷ C ∷ D ∷ E ∷ F ∷ []))))
six_sync n δ ν A B C D E F a b c d e f = search sendable depth 30

pub six_send : (n : ℕ) (δ : Ty) (ν : Sym) (A B C D E F : RattleType) → IsSend A → IsSend B → IsSend C → IsSend D
    → IsSend E → IsSend F → IsSend (param n (arg δ no (TupleAt ν (A ∷ B ∷ C ∷ D ∷ E ∷ F ∷ []))))
six_send n δ ν A B C D E F a b c d e f = search sendable depth 30
