-- A script's run, line by line.
use Rattle.std.proofs.Common.{◌≡◌, ℕ, ◌+◌, ◌<◌, List, [], ◌∷◌, ◌++◌, length, get_or, drop, map}
use Rattle.std.proofs.Common.{Bor, Option, Some, None, refl, sym, ◌∙◌, ap, append_assoc, add-one}
use Rattle.std.proofs.Math.Seq.{drop-cons}
use Rattle.std.proofs.lemmas.List.{append-nil}
use Rattle.chpw_commands.specs.declared.drill.Drilled.{Drilled}
use Rattle.chpw_commands.specs.declared.drill.stage.Stage.{Stage as ProgramStage}
use Rattle.chpw_commands.specs.declared.drill.stage.Stage.TheVariants as program
use Rattle.chpw_commands.specs.declared.drill.stage.Turn.{Turn as ProgramTurn}
use Rattle.chpw_commands.specs.Stages.{Stage, start, Turn}
use Rattle.chpw_commands.specs.Drilled.{turn, drilled_from, behind}
use Rattle.chpw_commands.specs.Following.{Follows, IsTurn}

-- the run of a script stands before these lines, of which the first has the number n + 1
pub record Stands (d : Drilled) (stage : ProgramStage) (n : ℕ) (lines : List (List ℕ)) (output : List ℕ) : Type 0 where
  pub place : Stage
  pub follows : Follows stage place
  pub whole : d ≡ behind output (drilled_from place (n + 1) lines)

pub begins : (lines : List (List ℕ)) → Stands (drilled_from start 1 lines) program.Start 0 lines []
begins lines = record { place = start; follows = tt; whole = refl }

some_turn : (t : ProgramTurn) (o : Option Turn) → IsTurn (Some t) o → (u : Turn) × (o ≡ Some u) × Follows t.stage u.stage × (t.output ≡ u.output)
some_turn t None h = absurd h
some_turn t (Some u) h = (u, refl, h.0, h.1)

none_turn : (o : Option Turn) → IsTurn None o → o ≡ None
none_turn None h = refl
none_turn (Some u) h = absurd h

behind_behind : (xs ys : List ℕ) (d : Drilled) → behind xs (behind ys d) ≡ behind (xs ++ ys) d
behind_behind xs ys d = rw append_assoc refl

after_turn : (s : Stage) (n : ℕ) (line : List ℕ) (lines : List (List ℕ)) (u : Turn) → turn s line ≡ Some u →
    drilled_from s n (line ∷ lines) ≡ behind u.output (drilled_from u.stage (n + 1) lines)
after_turn s n line lines u e = rw e refl

module _ (d : Drilled) (stage : ProgramStage) (n i : ℕ) (none : Bor (List ℕ)) (lines : List (Bor (List ℕ)))
    (output : List ℕ) (some : i < length lines) (c : Stands d stage n (map (λ l. l.now) (drop i lines)) output) where
  abbrev pub line : List ℕ
  line = (get_or lines i none).now

  abbrev pub rest : List (List ℕ)
  rest = map (λ l. l.now) (drop (i + 1) lines)

  here : Stands d stage n (line ∷ rest) output
  here = rw (add-one i) (rw (drop-cons lines i none some) at c)

  pub goes_on : (t : ProgramTurn) → ((s : Stage) → Follows stage s → IsTurn (Some t) (turn s line)) → Stands d t.stage (n + 1) rest (output ++ t.output)
  goes_on t h =
      let u = some_turn t (turn here.place line) (h here.place here.follows) in
      record {
        place = u.0.stage;
        follows = u.2;
        whole = here.whole ∙ (ap (behind output) (after_turn here.place (n + 1) line rest u.0 u.1) ∙ (behind_behind output u.0.output _
            ∙ ap (λ (xs : List ℕ). behind (output ++ xs) (drilled_from u.0.stage (n + 1 + 1) rest)) (sym u.3)));
      }

  pub ends_bad : ((s : Stage) → Follows stage s → IsTurn None (turn s line)) → record { output = output; bad = Some (n + 1) } ≡ d
  ends_bad h =
      let this : drilled_from here.place (n + 1) (line ∷ rest) ≡ record { output = []; bad = Some (n + 1) } =
      rw (none_turn _ (h here.place here.follows)) refl in
      rw (here.whole, this, append-nil) refl

pub ends : (d : Drilled) (stage : ProgramStage) (n : ℕ) (output : List ℕ) → Stands d stage n [] output → record { output = output; bad = None } ≡ d
ends d stage n output c = rw (c.whole, append-nil) refl
