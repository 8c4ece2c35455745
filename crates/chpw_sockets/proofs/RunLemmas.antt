-- One step more.
use Rattle.std.proofs.Common.{◌≡◌, ◌∙◌, ℕ, Bool, true, Option, Some, None, refl, subst}
use Rattle.slab.specs.Slab.{Slab, get}
use Rattle.chpw_connection.specs.Todos.{todo_in}
use Rattle.chpw_connection.specs.declared.limits.ConnectionLimits.{ConnectionLimits}
use Rattle.chpw_connection.specs.declared.connection.Connection.{Connection}
use Rattle.chpw_connection.specs.declared.todo.Todo.{Todo}
use Rattle.chpw_connection.specs.declared.todo.Todo.TheVariants as todo
use Rattle.chpw_sockets.specs.Places.{RemainsAt, StaysAt, is_shut_behind}
use Rattle.chpw_transfers.specs.Steps.{StepsUntold, RunsTo, goes}
use Rattle.chpw_sockets.specs.declared.sockets.Transport.{Transport}
use Rattle.chpw_sockets.specs.declared.sockets.Transport.TheVariants as place

pub runs_on : (b c : ConnectionLimits) (now slot : ℕ) (old mid new : Slab Connection) → c ≡ b → RunsTo b now slot old mid
    → StepsUntold c now (todo_in (get mid slot)) mid new slot → RunsTo b now slot old new
runs_on b c now slot old mid new same runs step =
    goes runs (subst (λ (d : ConnectionLimits). StepsUntold d now (todo_in (get mid slot)) mid new slot) same step)

-- what is at its place
pub remains : {S : Type 0} → (at : Option (Option (Transport S))) → RemainsAt at at
remains None = refl
remains (Some None) = refl
remains (Some (Some (place.Stream s))) = λ shut. shut
remains (Some (Some (place.Datagram d))) = refl

shut_on : (due : Todo) (was : Bool) → was ≡ true → is_shut_behind due was ≡ true
shut_on (todo.Read count) was shut = shut
shut_on todo.Write was shut = shut
shut_on todo.Linger was shut = refl
shut_on todo.Close was shut = shut
shut_on todo.Wait was shut = shut

pub remains_on : {S : Type 0} → (due : Todo) (old mid new : Option (Option (Transport S))) → RemainsAt old mid → StaysAt due mid new → RemainsAt old new
remains_on {S = S} due None mid new is stays = subst (λ (at : Option (Option (Transport S))). StaysAt due at new) is stays
remains_on {S = S} due (Some None) mid new is stays = subst (λ (at : Option (Option (Transport S))). StaysAt due at new) is stays
remains_on due (Some (Some t)) None new is stays = absurd is
remains_on due (Some (Some t)) (Some None) new is stays = absurd is
remains_on due (Some (Some t)) (Some (Some u)) None is stays = absurd stays
remains_on due (Some (Some t)) (Some (Some u)) (Some None) is stays = absurd stays
remains_on due (Some (Some (place.Stream s))) (Some (Some (place.Stream t))) (Some (Some (place.Stream u))) is stays =
    λ shut. stays ∙ shut_on due t.is_shut (is shut)
remains_on due (Some (Some (place.Stream s))) (Some (Some (place.Stream t))) (Some (Some (place.Datagram u))) is stays = absurd stays
remains_on due (Some (Some (place.Stream s))) (Some (Some (place.Datagram t))) (Some (Some u)) is stays = absurd is
remains_on due (Some (Some (place.Datagram s))) (Some (Some (place.Stream t))) (Some (Some u)) is stays = absurd is
remains_on due (Some (Some (place.Datagram s))) (Some (Some (place.Datagram t))) (Some (Some (place.Stream u))) is stays = absurd stays
remains_on due (Some (Some (place.Datagram s))) (Some (Some (place.Datagram t))) (Some (Some (place.Datagram u))) is stays = stays ∙ is
