-- The turn of a line that was read.
use Rattle.std.proofs.Common.{◌≡◌, ℕ, List, [], ◌∷◌, length, nat_eq, false, Option, Some, Result, Ok, Err, refl, sym, ap, subst, IfOk}
use Rattle.chpw_rules.specs.declared.config.Config.{Config}
use Rattle.chpw_commands.specs.declared.drill.line.Line.{Line}
use Rattle.chpw_commands.specs.declared.drill.stage.Stage.{Stage as ProgramStage}
use Rattle.chpw_commands.specs.declared.drill.stage.Stage.TheVariants as program
use Rattle.chpw_commands.specs.declared.drill.stage.Turn.{Turn as ProgramTurn}
use Rattle.chpw_commands.specs.Words.{◌>>=◌}
use Rattle.chpw_commands.specs.Lines.{line_of}
use Rattle.chpw_commands.specs.Stages.{Stage, start, named, listed, running, realm_at, turn_line}
use Rattle.chpw_commands.specs.Drilled.{turn}
use Rattle.chpw_commands.specs.Following.{Follows, held_realm, IsTurn}

-- the program holds the script's realm
same_realm : (p : ProgramStage) (s : Stage) → Follows p s → held_realm p ≡ realm_at s
same_realm program.Start start h = refl
same_realm (program.Named realm) (named r) h = h
same_realm (program.Listed config) (listed c) h = ap (λ (x : Config). x.realm) h
same_realm (program.Running drill) (running m) h = h.realm
same_realm program.Start (named r) h = absurd h
same_realm program.Start (listed c) h = absurd h
same_realm program.Start (running m) h = absurd h
same_realm (program.Named realm) start h = absurd h
same_realm (program.Named realm) (listed c) h = absurd h
same_realm (program.Named realm) (running m) h = absurd h
same_realm (program.Listed config) start h = absurd h
same_realm (program.Listed config) (named r) h = absurd h
same_realm (program.Listed config) (running m) h = absurd h
same_realm (program.Running drill) start h = absurd h
same_realm (program.Running drill) (named r) h = absurd h
same_realm (program.Running drill) (listed c) h = absurd h

turn_of : (p : ProgramStage) (s : Stage) (text : List ℕ) (l : Line) → Follows p s → nat_eq (length text) 0 ≡ false
    → Some l ≡ line_of (held_realm p) text → turn_line s l ≡ turn s text
turn_of p s [] l f some e = cc
turn_of p s (b ∷ bs) l f some e =
    let read : Some l ≡ line_of (realm_at s) (b ∷ bs) = subst (λ (r : List ℕ). Some l ≡ line_of r (b ∷ bs)) (same_realm p s f) e in
    ap (λ (o : Option Line). o >>= turn_line s) read

pub turned : {E : Type 0} (p : ProgramStage) (text : List ℕ) (l : Line) (r : Result (Option ProgramTurn) E) → nat_eq (length text) 0 ≡ false
    → Some l ≡ line_of (held_realm p) text → IfOk r (λ found. (s : Stage) → Follows p s → IsTurn found (turn_line s l))
    → IfOk r (λ found. (s : Stage) → Follows p s → IsTurn found (turn s text))
turned p text l (Ok found) some e g = λ s f. subst (IsTurn found) (turn_of p s text l f some e) (g s f)
turned p text l (Err _) some e g = tt
