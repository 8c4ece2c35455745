-- What a worker's thread is given may go there.
use denote.RattleType.{RattleType}
use mir.Syntax.{Sym, Ty}
use denote.Exit.{no}
use denote.Param.{param, arg}
use denote.Ref.{NamedLft}
use denote.Struct.Tuple.{TupleAt}
use Rattle.std.specs.Prelude.{ℕ, [], ◌∷◌}
use denote.Param.Send.{IsSend, IsSync, sendable, param_send, param_sync, arg_send, arg_sync}
use Rattle.std.proofs.alloc.Global.TheSendSync as global
use Rattle.std.specs.declared.sync.ledger.Ledger
use Rattle.chpw_changelog.specs.declared.log_name.LogName
use Rattle.chpw_book.specs.declared.naming.DeskName
use Rattle.chpw_book.proofs.pass.Pass.TheSendSync as pass
use Rattle.chpw_workers.specs.contracts.context.Context as Context
use Rattle.chpw_workers.specs.contracts.shift.PlacedWorker as PlacedWorker

pub context_sync : (a : NamedLft) (M T : RattleType) → IsSync M → IsSync T → IsSync (Context.the_row a M T)
context_sync a M T m t = search (global.the_field_sync, sendable) depth 20

pub placed_send : (D I G C X : RattleType) (g : DeskName.Ghosts D.Denot) (g' : Ledger.Ghosts D.Denot) (g'' : LogName.Ghosts D.Denot)
    → IsSend D → IsSend I → IsSend G → IsSend C → IsSend X → IsSend (PlacedWorker.the_row D I G C X g g' g'')
placed_send D I G C X g g' g'' d i o c x = search (pass.the_send, sendable) depth 20

-- the runtime, what all share, the desk, and the worker at it
pub start_send : (δ : Ty) (ν : Sym) (A B C D : RattleType) → IsSend A
    → IsSend B → IsSend C → IsSend D → IsSend (param 2 (arg δ no (TupleAt ν (A ∷ B ∷ C ∷ D ∷ []))))
start_send δ ν A B C D a b c d = search sendable depth 20

-- a function's bound, of what its closure is given
pub passed_send : (i : ℕ) (δ : Ty) (R : RattleType) → IsSend (param i R) → IsSend (param i (arg δ no (param i R)))
passed_send i δ R s = param_send i (arg δ no (param i R)) (arg_send δ no (param i R) s)

pub passed_sync : (i : ℕ) (δ : Ty) (R : RattleType) → IsSync (param i R) → IsSync (param i (arg δ no (param i R)))
passed_sync i δ R s = param_sync i (arg δ no (param i R)) (arg_sync δ no (param i R) s)
