-- A step that does nothing, and one at a stream that tells nothing.
use Rattle.std.proofs.Common.{◌≡◌, ◌≢◌, ℕ, List, refl, subst, Option, Some, None, ◌⊎◌, inr}
use Rattle.std.specs.Io.KnownBytes.{Keeps}
use Rattle.slab.specs.Slab.{Slab}
use Rattle.chpw_connection.specs.declared.limits.ConnectionLimits.{ConnectionLimits}
use Rattle.chpw_connection.specs.declared.connection.Connection.{Connection}
use Rattle.chpw_connection.specs.declared.todo.Todo.{Todo}
use Rattle.chpw_connection.specs.declared.todo.Todo.TheVariants as todo
use Rattle.chpw_transfers.specs.Steps.{Told, Steps, StepsUntold, LetsGo, TakesNone}

keeps : (known : Option (List ℕ)) → Keeps known known
keeps None = tt
keeps (Some bytes) = refl

-- nothing was done, and the stream tells what it told
pub still : (b : ConnectionLimits) (now : ℕ) (due : Todo) (told : Told) (s : Slab Connection) (slot : ℕ) → due ≢ todo.Close
    → Steps b now due told told s s slot
still b now (todo.Read n) told s slot goes = inr (record { kept = keeps told.left; happens = inr (inr refl) })
still b now todo.Write told s slot goes = inr (record { kept = keeps told.given; happens = inr refl })
still b now todo.Linger told s slot goes = inr (record { kept = keeps told.left; happens = inr (inr refl) })
still b now todo.Close told s slot goes = absurd (goes refl)
still b now todo.Wait told s slot goes = (refl, refl)

pub untold_step : (b : ConnectionLimits) (now : ℕ) (due : Todo) (before after : Told) (old new : Slab Connection) (slot : ℕ)
    → Steps b now due before after old new slot → StepsUntold b now due old new slot
untold_step b now due before after old new slot step = (before, (after, step))

-- what is drained behind the end of its writing side, of which as much was left before
pub drained : (old new : Slab Connection) (slot : ℕ) (before there after : Option (List ℕ)) → there ≡ before
    → LetsGo old new there after ⊎ TakesNone old new slot there after → LetsGo old new before after ⊎ TakesNone old new slot before after
drained old new slot before there after same is =
    subst (λ (known : Option (List ℕ)). LetsGo old new known after ⊎ TakesNone old new slot known after) same is
