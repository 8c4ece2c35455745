-- Serving, turn after turn.
use Rattle.std.proofs.Common.{◌≡◌, ℕ, ◌+◌, ◌≤◌, ◌<◌, List, [], ◌∷◌, ◌++◌, Bool, length, inr, refl, sym, ◌∙◌, ap, arith, length-append}
use Rattle.std.specs.declared.net.ip_addr.IpAddr.{IpAddr}
use Rattle.chpw_frame.specs.Stream.{too_long}
use Rattle.chpw_frame.specs.Receiving.{TakesPiece}
use Rattle.chpw_table.specs.declared.times.Moment.{Moment}
use Rattle.chpw_serve.specs.declared.gate.Spot.{Spot}
use Rattle.chpw_serve.specs.Hearing.{Heard}
use Rattle.chpw_serve.specs.declared.serving.Ended.{Ended}
use Rattle.chpw_serve.specs.declared.serving.Ended.TheVariants as end
use Rattle.chpw_serve.specs.InTurn.{InTurn}
use Rattle.chpw_serve.specs.Serving.{StreamState, Turn, Serves, EndsBy, IsServed, IsRefused}
use Rattle.chpw_serve.proofs.DrawLemmas.{drawn_on}

module _ {C X D G : Type 0} (answers : List ℕ → List ℕ → Moment → D → D → G → G → List ℕ → Bool → Type 0)
    (adds : List ℕ → Moment → D → D → G → G → Type 0)
    (refusal : Moment → List ℕ) (moments : C → Moment → C → Type 0) (random : X → ℕ → X → Type 0)
    (passes : G → Spot → G → Type 0) (hears : G → Heard → G → Type 0) (peer : IpAddr) where
  -- so many turns were served
  pub record SoFar (start now : StreamState C X D G) (n : ℕ) : Type 0 where
    pub turns : List Turn
    pub served : InTurn (Serves answers adds refusal moments random passes hears peer) start turns now
    pub count : length turns ≡ n
    pub few : n ≤ 65536

  pub so_far_start : (start : StreamState C X D G) → SoFar start start 0
  so_far_start start = record { turns = []; served = refl; count = refl; few = omega arith }

  pub so_far_on : (start now next : StreamState C X D G) (n : ℕ) → SoFar start now n
      → n < 65536 → ((t : Turn) × Serves answers adds refusal moments random passes hears peer now t next)
      → SoFar start next (n + 1)
  so_far_on start now next n h less g = record {
    turns = h.turns ++ g.0 ∷ [];
    served = drawn_on (Serves answers adds refusal moments random passes hears peer) start h.turns now g.0 next h.served g.1;
    count = length-append h.turns (g.0 ∷ []) ∙ ap (λ (k : ℕ). k + 1) h.count;
    few = omega (arith, less);
  }

  pub so_far_ends : (start now final : StreamState C X D G) (n : ℕ) (e : Ended)
      → SoFar start now n → n < 65536 → EndsBy answers adds refusal moments random passes hears peer e now final
      → IsServed answers adds refusal moments random passes hears peer e start final
  so_far_ends start now final n end.Count h less g = absurd g
  so_far_ends start now final n e h less g = record { turns = h.turns; last = now; served = h.served; end_is = (omega (arith, h.count, less), g) }

  -- a message that is too long, refused
  pub too_long_ends : (now final : StreamState C X D G) (e : Ended) → TakesPiece too_long now.left final.left
      → IsRefused refusal moments random hears peer e now.around final.around → final.decider ≡ now.decider
      → EndsBy answers adds refusal moments random passes hears peer e now final
  too_long_ends now final end.TooLong h r same = (h, r, same)
  too_long_ends now final end.WriteFault h r same = inr (h, r, same)
  too_long_ends now final end.Memory h r same = inr (inr (h, r, same))
  too_long_ends now final e h r same = absurd r

  pub so_far_counted : (start now : StreamState C X D G) (n : ℕ) → SoFar start now n
      → 65536 ≤ n → IsServed answers adds refusal moments random passes hears peer end.Count start now
  so_far_counted start now n h many = record { turns = h.turns; last = now; served = h.served; end_is = (omega (arith, h.count, h.few, many), refl) }
