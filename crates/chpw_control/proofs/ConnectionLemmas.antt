-- What comes of a connection, whatever happens on it.
use Rattle.std.proofs.Common.{◌≡◌, ℕ, ◌≤◌, List, [], ◌∷◌, ◌++◌, map, length, Bool, true, false, not, cond, Option}
use Rattle.std.proofs.Common.{Some, None, Result, Ok, Err, refl, sym, ◌∙◌, ap, subst, append_assoc, arith}
use Rattle.std.specs.List.{concat}
use Rattle.std.specs.Option.{option_to_list}
use Rattle.std.proofs.lemmas.Bool.{leb-true}
use Rattle.std.proofs.lemmas.List.{append-nil}
use Rattle.chpw_control.specs.declared.fault.ControlFault.{ControlFault}
use Rattle.chpw_control.specs.declared.fault.ControlFault.TheVariants.{LineTooLong}
use Rattle.chpw_control.specs.Commands.{Command, command_of}
use Rattle.chpw_control.specs.Dialogs.{State, line_in, is_short, is_whole, goes_on, told_of}
use Rattle.chpw_control.specs.Connections.{Event, says, ends, expires, told_from, Once, Piecewise, OnlyItsLine}
use Rattle.chpw_control.proofs.LineLemmas.{line_split, settled, told_none}

abbrev Told : Type 0
Told = Result Command ControlFault

-- where all is told, nothing more is
pub closed : (events : List Event) → told_from None events ≡ []
closed [] = refl
closed (says bytes ∷ es) = closed es
closed (ends ∷ es) = closed es
closed (expires ∷ es) = closed es

-- bytes come: the line goes on, or all is told
by_bytes : (heard bytes : List ℕ) (es : List Event) (b : Bool) → goes_on (heard ++ bytes) ≡ b
    → told_from (Some heard) (says bytes ∷ es) ≡ cond b (told_from (Some (heard ++ bytes)) es) (option_to_list (told_of (heard ++ bytes)))
by_bytes heard bytes es true e =
    ap (λ (b : Bool). option_to_list (told_of (heard ++ bytes)) ++ told_from (cond b (Some (heard ++ bytes)) None) es) e
    ∙ ap (λ (o : Option Told). option_to_list o ++ told_from (Some (heard ++ bytes)) es) (told_none (heard ++ bytes) e)
by_bytes heard bytes es false e =
    ap (λ (b : Bool). option_to_list (told_of (heard ++ bytes)) ++ told_from (cond b (Some (heard ++ bytes)) None) es) e
    ∙ ap (λ (xs : List Told). option_to_list (told_of (heard ++ bytes)) ++ xs) (closed es)
    ∙ append-nil (option_to_list (told_of (heard ++ bytes)))

-- ---- once

few : (o : Option Told) → length (option_to_list o) ≤ 1
few None = omega arith
few (Some r) = omega arith

once_from : (state : State) (events : List Event) → length (told_from state events) ≤ 1
once_from None events = omega (arith, ap length (closed events))
once_from (Some heard) [] = omega arith
once_from (Some heard) (says bytes ∷ es) = by_test (goes_on (heard ++ bytes)) refl (once_from (Some (heard ++ bytes)) es)
  where
    by_test : (b : Bool) → goes_on (heard ++ bytes) ≡ b → length (told_from (Some (heard ++ bytes)) es) ≤ 1
        → length (told_from (Some heard) (says bytes ∷ es)) ≤ 1
    by_test true e further = subst (λ (xs : List Told). length xs ≤ 1) (sym (by_bytes heard bytes es true e)) further
    by_test false e further = subst (λ (xs : List Told). length xs ≤ 1) (sym (by_bytes heard bytes es false e)) (few (told_of (heard ++ bytes)))
once_from (Some heard) (ends ∷ es) = omega (arith, ap length (closed es))
once_from (Some heard) (expires ∷ es) = omega (arith, ap length (closed es))

pub once : Once
once events = once_from (Some []) events

-- ---- in pieces

pieces_from : (heard : List ℕ) (pieces : List (List ℕ)) → goes_on heard ≡ true
    → told_from (Some heard) (map says pieces) ≡ option_to_list (told_of (heard ++ concat pieces))
pieces_from heard [] h = sym (ap option_to_list (ap told_of (append-nil heard) ∙ told_none heard h))
pieces_from heard (bytes ∷ more) h =
    by_test (goes_on (heard ++ bytes)) refl (pieces_from (heard ++ bytes) more)
  where
    by_test : (b : Bool) → goes_on (heard ++ bytes) ≡ b
        → (goes_on (heard ++ bytes) ≡ true → told_from (Some (heard ++ bytes)) (map says more) ≡ option_to_list (told_of ((heard ++ bytes) ++ concat more)))
        → told_from (Some heard) (says bytes ∷ map says more) ≡ option_to_list (told_of (heard ++ (bytes ++ concat more)))
    by_test true e further =
        by_bytes heard bytes (map says more) true e ∙ further e
        ∙ ap (λ (xs : List ℕ). option_to_list (told_of xs)) (append_assoc heard bytes (concat more))
    by_test false e further =
        by_bytes heard bytes (map says more) false e
        ∙ ap option_to_list (sym (settled (heard ++ bytes) (concat more) e))
        ∙ ap (λ (xs : List ℕ). option_to_list (told_of xs)) (append_assoc heard bytes (concat more))

pub piecewise : Piecewise
piecewise pieces = pieces_from [] pieces refl

-- ---- a command's line

-- with what came before these events
record IsRest (heard : List ℕ) (events : List Event) (command : Command) : Type 0 where
  pieces : List (List ℕ)
  later : List Event
  line : List ℕ
  rest : List ℕ
  parts : events ≡ map says pieces ++ later
  said : heard ++ concat pieces ≡ line ++ 10 ∷ rest
  no_newline : is_whole line ≡ false
  few : length line ≤ 4200
  asks : command_of line ≡ Ok command

-- what is told as a command is the first line's
told_command : (bytes : List ℕ) (command : Command) → told_of bytes ≡ Some (Ok command)
    → (is_short bytes ≡ true) × (is_whole bytes ≡ true) × (command_of (line_in bytes) ≡ Ok command)
told_command bytes command h = by_tests (is_short bytes) (is_whole bytes) refl refl h
  where
    by_tests : (a b : Bool) → is_short bytes ≡ a → is_whole bytes ≡ b
        → cond (not a) (Some (Err LineTooLong)) (cond b (Some (command_of (line_in bytes))) None) ≡ Some (Ok command)
        → (is_short bytes ≡ true) × (is_whole bytes ≡ true) × (command_of (line_in bytes) ≡ Ok command)
    by_tests true true e f g = (e, f, cc)
    by_tests true false e f g = absurd (cc)
    by_tests false b e f g = absurd (cc)

single : (o : Option Told) (r : Told) → option_to_list o ≡ r ∷ [] → o ≡ Some r
single None r h = absurd (cc)
single (Some x) r h = ap (λ (y : Told). Some y) (let e : x ≡ r = cc in e)

line_from : (heard : List ℕ) (events : List Event) (command : Command) → told_from (Some heard) events ≡ Ok command ∷ []
    → IsRest heard events command
line_from heard [] command h = absurd (cc)
line_from heard (ends ∷ es) command h = absurd (cc)
line_from heard (expires ∷ es) command h = absurd (cc)
line_from heard (says bytes ∷ es) command h = by_test (goes_on (heard ++ bytes)) refl (line_from (heard ++ bytes) es command)
  where
    all : List ℕ
    all = heard ++ bytes

    by_test : (b : Bool) → goes_on all ≡ b → (told_from (Some all) es ≡ Ok command ∷ [] → IsRest all es command) → IsRest heard (says bytes ∷ es) command
    by_test true e further =
        let i = further (sym (by_bytes heard bytes es true e) ∙ h) in
        record {
          pieces = bytes ∷ i.pieces;
          later = i.later;
          line = i.line;
          rest = i.rest;
          parts = ap (λ (xs : List Event). says bytes ∷ xs) i.parts;
          said = sym (append_assoc heard bytes (concat i.pieces)) ∙ i.said;
          no_newline = i.no_newline;
          few = i.few;
          asks = i.asks;
        }
    by_test false e further =
        let told = told_command all command (single (told_of all) (Ok command) (sym (by_bytes heard bytes es false e) ∙ h)) in
        let split = line_split all told.1 in
        record {
          pieces = bytes ∷ [];
          later = es;
          line = line_in all;
          rest = split.0;
          parts = refl;
          said = ap (λ (xs : List ℕ). heard ++ xs) (append-nil bytes) ∙ split.1;
          no_newline = split.2;
          few = leb-true (length (line_in all)) 4200 told.0;
          asks = told.2;
        }

pub only_its_line : OnlyItsLine
only_its_line events command h =
    let i = line_from [] events command h in
    record {
      pieces = i.pieces;
      later = i.later;
      line = i.line;
      rest = i.rest;
      parts = i.parts;
      said = i.said ∙ sym (append_assoc i.line (10 ∷ []) i.rest);
      no_newline = i.no_newline;
      few = i.few;
      asks = i.asks;
    }
