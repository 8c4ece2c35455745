-- Where clap finds no fault in the program's words, the command that is named has what it requires.
use Rattle.std.proofs.Common.{◌≡◌, ◌≢◌, ◌∙◌, ◌&&◌, ℕ, Bool, cond, true, false, not, refl, sym, subst, List, []}
use Rattle.std.proofs.Common.{◌∷◌, ◌++◌, codes, Option, Some, None, is_some, option_map, true≢false, inl, inr}
use Rattle.std.specs.Prelude.{IfSome, fold}
use Rattle.std.specs.List.{AllByRecursion, find}
use Rattle.std.specs.Option.{option_map_or}
use Rattle.std.specs.Str.{bytes_eq}
use Rattle.std.proofs.lemmas.Slice.Eq.{bytes_eq-Decides}
use Rattle.std.proofs.lemmas.Bool.{cond_both, or_cases}
use Rattle.clap.specs.Lexer.{long_of, short_of}
use Rattle.clap.specs.Walk.{Held, Names, Outcome, Row, Rule, Step, Text, Waiting, Walk, after_flag, after_step}
use Rattle.clap.specs.Walk.{answers_to, arg_by_index, arg_by_long, bundle, done, idle, long_met, long_or_other}
use Rattle.clap.specs.Walk.{next, nothing_held, option, plain, plain_word, positional, refused, rows_after}
use Rattle.clap.specs.Walk.{short_or_plain, stop_after, subcommand, subcommand_met, subcommand_or_other}
use Rattle.clap.specs.Walk.{to_positional, trailing, value, waits, walk_from, walked, walked_from, word_met}
use Rattle.clap.specs.Simple.{Shape, argument_words, built, built_leaf, entered, filled, filled_from, help_rule}
use Rattle.clap.specs.Simple.{inherited, label_of, marked_built, names_of, rows_at, subcommand_of, with_leaf_noted}
use Rattle.clap.specs.Kinds.{or_else}
use Rattle.clap.specs.Faults.{entered_fault, fault_of, level_fault, other_fault, step_fault, turn_fault, walk_fault, word_fault}
use Rattle.clap.specs.declared.error.kind.ErrorKind.TheVariants.{DisplayHelp, InvalidSubcommand}
use Rattle.chpw_invocation.specs.Needs.{IsSuited, Meets, Suits}
use Rattle.chpw_invocation.specs.Program as program
use Rattle.chpw_invocation.proofs.LevelLemmas.{level_suits}
use Rattle.chpw_invocation.proofs.RowLemmas.{IsFound, no_fault}

-- ---- the words don't ask for help

abbrev IsNoHelp : Text → Type 0
IsNoHelp name = bytes_eq name (codes "help") ≡ false

abbrev NeedsNoHelp : Step → Type 0
NeedsNoHelp (subcommand name) = IsNoHelp name
NeedsNoHelp _ = Unit {0}

plain_step : (c : List Rule) (waiting : Waiting) (word : Text) (h : Held) → NeedsNoHelp (plain_word c waiting word h).1
plain_step c idle word h = tt
plain_step c positional word h = tt
plain_step c (option id) word h = tt

flag_step : (c : List Rule) (waiting : Waiting) (word : Text) (h : Held) (o : Outcome) → NeedsNoHelp (after_flag c waiting word h o).1
flag_step c waiting word h done = tt
flag_step c waiting word h (waits id) = tt
flag_step c waiting word h plain = plain_step c waiting word h
flag_step c waiting word h refused = plain_step c waiting word h

module _ (s : Shape) (names : Names) (enabled : s.disable_help_subcommand ≡ false) where
  word_step : (is_trailing : Bool) (waiting : Waiting) (position : ℕ) (word : Text) (h : Held)
      → word_fault s names is_trailing waiting word h ≡ [] → NeedsNoHelp (word_met s.rules names is_trailing waiting position word h).1
  word_step true waiting position word h e = tt
  word_step false waiting position word h e = met (subcommand_met names waiting word) e
    where
      short : (o : Option Text) → NeedsNoHelp (short_or_plain s.rules waiting word o h).1
      short None = plain_step s.rules waiting word h
      short (Some flags) = flag_step s.rules waiting word (bundle s.rules flags h).0 (bundle s.rules flags h).1

      long : (o : Option (Text × Option Text)) → NeedsNoHelp (long_or_other s.rules waiting word o h).1
      long None = short (short_of word)
      long (Some p) = flag_step s.rules waiting word (long_met s.rules (arg_by_long s.rules p.0) p.1 h).0 (long_met s.rules (arg_by_long s.rules p.0) p.1 h).1

      other : (b : Bool) → NeedsNoHelp (cond b (h, trailing position) (long_or_other s.rules waiting word (long_of word) h)).1
      other true = tt
      other false = long (long_of word)

      named : (b : Bool) → cond (b && not s.disable_help_subcommand) (DisplayHelp ∷ InvalidSubcommand ∷ []) [] ≡ [] → b ≡ false
      named true e = let bad = rw enabled at e in cc
      named false e = refl

      met : (o : Option Text) → other_fault s o word h ≡ [] → NeedsNoHelp (subcommand_or_other s.rules o waiting position word h).1
      met (Some name) e = named (bytes_eq name (codes "help")) e
      met None e = other (bytes_eq word (45 ∷ 45 ∷ []))

  turn_step : (w : Walk) (word : Text) → turn_fault s names w word ≡ [] → IfSome w.stopped (λ p. IsNoHelp p.0)
      → IfSome (walked s.rules names w word).stopped (λ p. IsNoHelp p.0)
  unfolding walked
  turn_step w word e h = go w.stopped e h
    where
      to : (o : Option Rule) (now : Held) → IfSome (to_positional s.rules o word w now).stopped (λ p. IsNoHelp p.0)
      to None now = h
      to (Some a) now = tt

      stepped : (now : Held) (step : Step) → NeedsNoHelp step → IfSome (after_step s.rules word w now step).stopped (λ p. IsNoHelp p.0)
      stepped now (next waiting) needs = h
      stepped now (trailing position) needs = h
      stepped now (subcommand name) needs = needs
      stepped now value needs = to (arg_by_index s.rules w.position) now

      go : (o : Option (Text × List Text))
          → cond (is_some o) [] (or_else (word_fault s names w.is_trailing w.waiting word w.held)
          (step_fault s w.position (word_met s.rules names w.is_trailing w.waiting w.position word w.held).0
          (word_met s.rules names w.is_trailing w.waiting w.position word w.held).1)) ≡ []
          → IfSome o (λ p. IsNoHelp p.0)
          → IfSome (walked_from s.rules names o w word).stopped (λ p. IsNoHelp p.0)
      go (Some p) e was = was
      go None e was =
          stepped (word_met s.rules names w.is_trailing w.waiting w.position word w.held).0
          (word_met s.rules names w.is_trailing w.waiting w.position word w.held).1
          (word_step w.is_trailing w.waiting w.position word w.held (no_fault _ _ e).0)

  pub walk_stops : (w : Walk) (words : List Text) → walk_fault s names w words ≡ [] → IfSome w.stopped (λ p. IsNoHelp p.0)
      → IfSome (fold (walked s.rules names) w words).stopped (λ p. IsNoHelp p.0)
  unfolding walk_fault
  walk_stops w [] e h = h
  walk_stops w (word ∷ rest) e h =
      let parts = no_fault _ _ e in
      walk_stops (walked s.rules names w word) rest parts.1 (turn_step w word parts.0 h)

-- ---- the commands below the program

-- what holds of the options of a built command holds of those that it was given: no place of a word matters
unbuilt : (rows : List Row) (options more : List Rule) (i : ℕ) → AllByRecursion (λ a. Suits a rows) (filled_from i (options ++ more))
    → AllByRecursion (λ a. Suits (filled a) rows) options
unbuilt rows [] more i all = tt
unbuilt rows (a ∷ rest) more i all = (record { there = all.0.there; taken = all.0.taken }, unbuilt rows rest more _ all.1)

abbrev leaf : Shape → Shape
leaf s = built_leaf (inherited (with_leaf_noted (marked_built program.program.top)) s)

abbrev rules_of : List Rule → List Rule
rules_of options = filled_from 1 (options ++ help_rule ∷ [])

pub leaf_meets : (name : Text) (options : List Rule) (words : List Text)
    → AllByRecursion (IsFound (rules_of options)) (rules_of options) → level_fault (leaf (program.command name options)) [] nothing_held words false [] ≡ []
    → Meets (program.command name options) (rows_after (rules_of options) [] words)
leaf_meets name options words found e =
    unbuilt (rows_after (rules_of options) [] words) options (help_rule ∷ []) 1 (level_suits (leaf (program.command name options)) words found e)

-- ---- the command that is named

find_passes : {X : Type 0} (P : X → Type 0) (test : X → Bool) (xs : List X) → AllByRecursion P xs → IfSome (find test xs) (λ x. P x × (test x ≡ true))
find_passes P test [] all = tt
find_passes P test (x ∷ xs) all =
    cond_both (test x) (Some x) (find test xs) (λ o. IfSome o (λ x. P x × (test x ≡ true)))
    (λ e. (all.0, e)) (λ e. find_passes P test xs all.1)

-- each name finds its option
drill_found : AllByRecursion (IsFound (rules_of program.drill.rules)) (rules_of program.drill.rules)
drill_found = ((refl, refl), tt)

check_found : AllByRecursion (IsFound (rules_of program.check.rules)) (rules_of program.check.rules)
check_found = ((refl, refl), ((refl, refl), tt))

table_found : AllByRecursion (IsFound (rules_of program.table.rules)) (rules_of program.table.rules)
table_found = ((refl, refl), ((refl, refl), ((refl, refl), ((refl, refl), tt))))

import_found : AllByRecursion (IsFound (rules_of program.import.rules)) (rules_of program.import.rules)
import_found = ((refl, refl), ((refl, refl), ((refl, refl), ((refl, refl), ((refl, refl), ((refl, refl), tt))))))

key_found : AllByRecursion (IsFound (rules_of program.key.rules)) (rules_of program.key.rules)
key_found = ((refl, refl), ((refl, refl), ((refl, refl), ((refl, refl), ((refl, refl), ((refl, refl), tt))))))

new_journal_found : AllByRecursion (IsFound (rules_of program.new_journal.rules)) (rules_of program.new_journal.rules)
new_journal_found = ((refl, refl), ((refl, refl), ((refl, refl), ((refl, refl), tt))))

serve_found : AllByRecursion (IsFound (rules_of program.serve.rules)) (rules_of program.serve.rules)
serve_found = (
  (refl, refl),
  (
    (refl, refl),
    (
      (refl, refl),
      (
        (refl, refl),
        (
          (refl, refl),
          (
            (refl, refl),
            (
              (refl, refl),
              (
                (refl, refl),
                (
                  (refl, refl),
                  (
                    (refl, refl),
                    (
                      (refl, refl),
                      (
                        (refl, refl),
                        (
                          (refl, refl),
                          (
                            (refl, refl),
                            (
                              (refl, refl),
                              (
                                (refl, refl),
                                (
                                  (refl, refl),
                                  (
                                    (refl, refl),
                                    (
                                      (refl, refl),
                                      ((refl, refl), ((refl, refl), ((refl, refl), ((refl, refl), ((refl, refl), tt))))),
                                    ),
                                  ),
                                ),
                              ),
                            ),
                          ),
                        ),
                      ),
                    ),
                  ),
                ),
              ),
            ),
          ),
        ),
      ),
    ),
  ),
)

control_found : AllByRecursion (IsFound (rules_of program.control.rules)) (rules_of program.control.rules)
control_found = ((refl, refl), ((refl, refl), ((refl, refl), ((refl, refl), tt))))

client_found : AllByRecursion (IsFound (rules_of program.client.rules)) (rules_of program.client.rules)
client_found = (
  (refl, refl),
  (
    (refl, refl),
    (
      (refl, refl),
      (
        (refl, refl),
        ((refl, refl), ((refl, refl), ((refl, refl), ((refl, refl), ((refl, refl), ((refl, refl), tt)))))),
      ),
    ),
  ),
)

-- a built command that a word names has what it requires, where its words have no fault
abbrev SuitsWhenNamed : Text → List Text → Shape → Type 0
SuitsWhenNamed name words s =
    answers_to name (label_of s) ≡ true → level_fault s [] nothing_held words false [] ≡ [] → IsSuited (Some (rows_at s words))

each_suits : (name : Text) (words : List Text) → IsNoHelp name → AllByRecursion (SuitsWhenNamed name words) (built program.program).subs
each_suits name words no_help = (
  λ is e. leaf_meets (codes "drill") program.drill.rules words drill_found e,
  (
    λ is e. leaf_meets (codes "check") program.check.rules words check_found e,
    (
      λ is e. leaf_meets (codes "table") program.table.rules words table_found e,
      (
        λ is e. leaf_meets (codes "import") program.import.rules words import_found e,
        (
          λ is e. leaf_meets (codes "key") program.key.rules words key_found e,
          (
            λ is e. leaf_meets (codes "new-journal") program.new_journal.rules words new_journal_found e,
            (
              λ is e. leaf_meets (codes "serve") program.serve.rules words serve_found e,
              (
                λ is e. leaf_meets (codes "control") program.control.rules words control_found e,
                (
                  λ is e. leaf_meets (codes "client") program.client.rules words client_found e,
                  (
                    λ is e. absurd (true≢false (sym (named is) ∙ no_help)),
                    tt,
                  ),
                ),
              ),
            ),
          ),
        ),
      ),
    ),
  ),
)
  where
    named : answers_to name (codes "help", []) ≡ true → bytes_eq name (codes "help") ≡ true
    named is = elim (or_cases (bytes_eq (codes "help") name) _ is) [
      | inl e ↦
          let same : codes "help" ≡ name = (bytes_eq-Decides (codes "help") name).0 e in
          subst (λ (n : Text). bytes_eq n (codes "help") ≡ true) same refl
      | inr e ↦ absurd (true≢false (sym e))
    ]

entered_suits : (stop : Option (Text × List Text)) → IfSome stop (λ p. IsNoHelp p.0) → entered_fault (built program.program) stop ≡ []
    → entered (built program.program) stop ≢ None → IsSuited (entered (built program.program) stop)
entered_suits None no_help e some = absurd (some refl)
entered_suits (Some p) no_help e some =
    go (find (λ s. answers_to p.0 (label_of s)) (built program.program).subs)
    (find_passes (SuitsWhenNamed p.0 p.1) (λ s. answers_to p.0 (label_of s)) (built program.program).subs (each_suits p.0 p.1 no_help)) e some
  where
    go : (o : Option Shape) → IfSome o (λ s. SuitsWhenNamed p.0 p.1 s × (answers_to p.0 (label_of s) ≡ true))
        → option_map_or (λ s. level_fault s [] nothing_held p.1 false []) o [] ≡ [] → option_map (λ s. rows_at s p.1) o ≢ None
        → IsSuited (option_map (λ s. rows_at s p.1) o)
    go None suits e some = absurd (some refl)
    go (Some s) suits e some = suits.0 suits.1 e

pub command_suits : (words : List Text) → fault_of program.program words ≡ [] → subcommand_of program.program words ≢ None
    → IsSuited (subcommand_of program.program words)
command_suits words e some =
    let app = built program.program in
    let parts = no_fault _ _ e in
    let stop = stop_after app.top.rules (names_of app) (argument_words program.program words) in
    entered_suits stop (walk_stops app.top (names_of app) refl (walk_from nothing_held) (argument_words program.program words) parts.0 tt)
    (no_fault _ _ parts.1).0 some
