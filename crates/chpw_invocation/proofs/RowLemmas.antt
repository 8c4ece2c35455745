-- The rows of a command in whose words clap finds no fault: each has a value that its rule takes.
use Rattle.std.proofs.Common.{◌≡◌, ◌&&◌, ◌||◌, ℕ, Bool, cond, true, false, not, zero, suc, refl, sym, ap, subst}
use Rattle.std.proofs.Common.{arith, List, [], ◌∷◌, ◌++◌, length, Option, Some, None, is_some, true≢false, inl, inr}
use Rattle.std.specs.Prelude.{IfSome, nat_lt, drop, encode_utf8, fold, slice_get}
use Rattle.std.specs.List.{AllByRecursion, find}
use Rattle.std.specs.Option.{option_map_or}
use Rattle.std.specs.Str.{bytes_eq, chars}
use Rattle.std.proofs.lemmas.Bool.{cond_both, ne_eqb, not-true, not_from_false, or_cases, or_right}
use Rattle.clap.specs.Facts.{parser_of_value, unwrap_or_range}
use Rattle.clap.specs.Lexer.{long_of, short_of}
use Rattle.clap.specs.Values.{is_request}
use Rattle.clap.specs.ValueTests.{accepts}
use Rattle.clap.specs.Kinds.{Kinds, or_else, range_kinds}
use Rattle.clap.specs.Walk.{Held, most_values, Names, Outcome, Row, Rule, Step, Text, Waiting, Walk, action_of}
use Rattle.clap.specs.Walk.{after_flag, after_step, arg_by_id, arg_by_index, arg_by_long, arg_by_short, at_row}
use Rattle.clap.specs.Walk.{attached_value, bundle, bundle_met, bundle_step, done, flag_met, idle, is_empty}
use Rattle.clap.specs.Walk.{is_pending, long_met, long_or_other, more_values, next, option, option_met, option_word}
use Rattle.clap.specs.Walk.{plain, plain_word, positional, reacted, reading_by, refused, settled, settled_rows}
use Rattle.clap.specs.Walk.{short_met, short_or_plain, subcommand, subcommand_met, subcommand_or_other}
use Rattle.clap.specs.Walk.{takes_several, takes_values, to_positional, trailing, used, used_as, used_by_id, value}
use Rattle.clap.specs.Walk.{values_or_missing, waits, walked, walked_from, with_values, without, word_met}
use Rattle.clap.specs.Simple.{Shape}
use Rattle.clap.specs.Faults.{action_fault, bundle_step_fault, flag_word_fault, flags_fault, long_fault, stray_fault}
use Rattle.clap.specs.Faults.{bundle_fault, option_fault, other_fault, positional_fault, react_fault, settle_fault}
use Rattle.clap.specs.Faults.{short_fault, step_fault, turn_fault, use_fault, values_fault, walk_fault, word_fault}
use Rattle.clap.specs.declared.builder.action.ArgAction.{ArgAction}
use Rattle.clap.specs.declared.builder.action.ArgAction.TheVariants as action
use Rattle.clap.specs.declared.error.kind.ErrorKind.{ErrorKind}
use Rattle.clap.specs.declared.error.kind.ErrorKind.TheVariants.{TooManyValues}
use Rattle.clap.specs.declared.parser.matches.ValueSource.{ValueSource}

-- ---- what is said of a row and of a rule

-- the row's first value is one that the rule takes, and is read as the rule says
pub record HasTaken (rule : Rule) (row : Row) : Type 0 where
  pub first : Text
  pub rest : List Text
  pub values : row.values ≡ first ∷ rest
  pub passes : accepts rule.ignore_case (parser_of_value rule.parser) first ≡ true
  pub reading : row.reading ≡ reading_by rule

abbrev pub IsGoodRow : List Rule → Row → Type 0
IsGoodRow c row = (rule : Rule) × (arg_by_id c row.id ≡ Some rule) × HasTaken rule row

abbrev pub AreGood : List Rule → List Row → Type 0
AreGood c rows = AllByRecursion (IsGoodRow c) rows

-- a use of the argument asks for a text, or comes with a value
abbrev pub gives_value : Rule → Bool
gives_value a = is_request (action_of a)
    || (nat_lt 0 (unwrap_or_range a.range).start_inclusive || not (is_empty a.missing))

-- the rule is the one that its name finds, and its uses have values
abbrev pub IsFound : List Rule → Rule → Type 0
IsFound c a = (arg_by_id c a.id ≡ Some a) × (gives_value a ≡ true)

-- ---- kinds

pub no_fault : (a b : Kinds) → or_else a b ≡ [] → (a ≡ []) × (b ≡ [])
no_fault [] b e = (refl, e)
no_fault (k ∷ ks) b e = cc

passed : (b : Bool) (k : ErrorKind) → cond b [] (k ∷ []) ≡ [] → b ≡ true
passed true k e = refl
passed false k e = cc

pub find_ok : (P : Rule → Type 0) (p : Rule → Bool) (xs : List Rule) → AllByRecursion P xs → IfSome (find p xs) P
find_ok P p [] all = tt
find_ok P p (x ∷ xs) all =
    cond_both (p x) (Some x) (find p xs) (λ o. IfSome o P) (λ e. all.0) (λ e. find_ok P p xs all.1)

-- ---- one use of an argument

module _ (c : List Rule) where
  append_good : (xs ys : List Row) → AreGood c xs → AreGood c ys → AreGood c (xs ++ ys)
  append_good [] ys h k = k
  append_good (x ∷ xs) ys h k = (h.0, append_good xs ys h.1 k)

  at_row_good : (id : Text) (change : Row → List Row) (missing rows : List Row) → ((r : Row) → IsGoodRow c r → AreGood c (change r))
      → AreGood c missing → AreGood c rows → AreGood c (at_row id change missing rows)
  at_row_good id change missing [] changed none good = none
  at_row_good id change missing (r ∷ rs) changed none good =
      cond_both (bytes_eq r.id id) (change r ++ rs) (r ∷ at_row id change missing rs) (AreGood c)
      (λ e. append_good (change r) rs (changed r good.0) good.1)
      (λ e. (good.0, at_row_good id change missing rs changed none good.1))

  without_good : (id : Text) (rows : List Row) → AreGood c rows → AreGood c (without id rows)
  without_good id rows good = at_row_good id (λ _. []) [] rows (λ r h. tt) tt good

  pub values_good : (a : Rule) (source : ValueSource) (values : List Text) (rows : List Row) → arg_by_id c a.id ≡ Some a → is_empty values ≡ false
      → values_fault a values ≡ [] → AreGood c rows → AreGood c (with_values a.id (reading_by a) source values rows)
  values_good a source [] rows is some e good = absurd (true≢false some)
  values_good a source (v ∷ vs) rows is some e good =
      at_row_good a.id (more_values source (v ∷ vs)) _ rows
      (λ r h. (
        (
          h.0,
          h.1,
          record {
            first = h.2.first;
            rest = h.2.rest ++ v ∷ vs;
            values = ap (λ xs. xs ++ v ∷ vs) h.2.values;
            passes = h.2.passes;
            reading = h.2.reading;
          },
        ),
        tt,
      )) (
        (
          a,
          is,
          record {
            first = v;
            rest = vs;
            values = refl;
            passes = passed _ _ (no_fault _ _ e).0;
            reading = refl;
          },
        ),
        tt,
      )
      good

  action_good : (x : ArgAction) (again : Bool) (a : Rule) (values : List Text) (rows : List Row) → arg_by_id c a.id ≡ Some a
      → (is_request x || not (is_empty values)) ≡ true → action_fault x again a values rows ≡ [] → AreGood c rows
      → AreGood c (used_as x a.id (reading_by a) values rows)
  action_good action.Set again a values rows is some e good = values_good a _ values _ is (not-true _ some) (no_fault _ _ e).1 (without_good a.id rows good)
  action_good action.SetTrue again a values rows is some e good = values_good a _ values _ is (not-true _ some) (no_fault _ _ e).1 (without_good a.id rows good)
  action_good action.SetFalse again a values rows is some e good =
      values_good a _ values _ is (not-true _ some) (no_fault _ _ e).1 (without_good a.id rows good)
  action_good action.Append again a values rows is some e good = values_good a _ values _ is (not-true _ some) e good
  action_good action.Count again a [] rows is some e good = absurd (true≢false (sym some))
  action_good action.Count again a (v ∷ vs) rows is some e good = values_good a _ (v ∷ vs) _ is (not-true _ some) e (without_good a.id rows good)
  action_good action.Help again a values rows is some e good = good
  action_good action.HelpShort again a values rows is some e good = good
  action_good action.HelpLong again a values rows is some e good = good
  action_good action.Version again a values rows is some e good = good

  given : (b : Bool) (a : Rule) (values : List Text) → (b || (nat_lt 0 (unwrap_or_range a.range).start_inclusive || not (is_empty a.missing))) ≡ true
      → range_kinds (unwrap_or_range a.range).start_inclusive (most_values a) (length values) ≡ []
      → (b || not (is_empty (values_or_missing a values))) ≡ true
  given b a (v ∷ vs) gives e = or_right b _ (not_from_false _ (ne_eqb _ _ (λ zero_is. omega arith)))
  given true a [] gives e = refl
  given false a [] gives e = elim (or_cases (nat_lt 0 (unwrap_or_range a.range).start_inclusive) (not (is_empty a.missing)) gives) [
    | inl least ↦ let bad = rw least at e in cc
    | inr some ↦ some
  ]

  pub use_good : (again : Bool) (a : Rule) (values : List Text) (rows : List Row) → IsFound c a → use_fault again a values rows ≡ [] → AreGood c rows
      → AreGood c (used a values rows)
  use_good again a values rows ok e good =
      let parts = no_fault _ _ e in
      action_good (action_of a) again a (values_or_missing a values) rows ok.0 (given (is_request (action_of a)) a values ok.1 parts.0) parts.1 good

-- ---- the walk

module _ (c : List Rule) (rules : AllByRecursion (IsFound c) c) (again : Bool) where
  pub settle_good : (h : Held) → settle_fault c again h ≡ [] → AreGood c h.rows → AreGood c (settled c h).rows
  settle_good h e good = pending h.pending e
    where
      found : (o : Option Rule) (values : List Text) → IfSome o (IsFound c) → option_map_or (λ a. use_fault again a values h.rows) o [] ≡ []
          → AreGood c (used_by_id o values h.rows)
      found None values ok e = good
      found (Some a) values ok e = use_good c again a values h.rows ok e good

      pending : (o : Option (Text × List Text)) → option_map_or (λ p. option_map_or (λ a. use_fault again a p.1 h.rows) (arg_by_id c p.0) []) o [] ≡ []
          → AreGood c (settled_rows c o h.rows)
      pending None e = good
      pending (Some p) e = found (arg_by_id c p.0) p.1 (find_ok (IsFound c) _ c rules) e

  react_good : (a : Rule) (values : List Text) (h : Held) → IsFound c a → react_fault c again a values h ≡ [] → AreGood c h.rows
      → AreGood c (reacted c a values h).rows
  react_good a values h ok e good =
      let parts = no_fault _ _ e in
      use_good c again a values (settled c h).rows ok parts.1 (settle_good h parts.0 good)

  option_good : (a : Rule) (v : Option Text) (h : Held) → IsFound c a → option_fault c again a v h ≡ [] → AreGood c h.rows
      → AreGood c (option_met c a v h).0.rows
  option_good a (Some v) h ok e good = react_good a (v ∷ []) h ok e good
  option_good a None h ok e good = settle_good h e good

  long_good : (found : Option Rule) (v : Option Text) (h : Held) → IfSome found (IsFound c) → long_fault c again found v h ≡ [] → AreGood c h.rows
      → AreGood c (long_met c found v h).0.rows
  long_good None v h ok e good = good
  long_good (Some a) v h ok e good = go (takes_values a) v e
    where
      go : (b : Bool) (v : Option Text)
          → cond b (option_fault c again a v h) (cond (is_some v) (TooManyValues ∷ []) (react_fault c again a [] h)) ≡ []
          → AreGood c (cond b (option_met c a v h) (flag_met c a v h)).0.rows
      go true v e = option_good a v h ok e good
      go false None e = react_good a [] h ok e good
      go false (Some v) e = good

  short_good : (found : Option Rule) (rest : Text) (h : Held) (fault : Held → Kinds) (then : Held → Held × Outcome) → IfSome found (IsFound c)
      → ((h : Held) → fault h ≡ [] → AreGood c h.rows → AreGood c (then h).0.rows)
      → short_fault c again found rest h fault ≡ [] → AreGood c h.rows → AreGood c (short_met c found rest h then).0.rows
  short_good None rest h fault then ok further e good = good
  short_good (Some a) rest h fault then ok further e good = go (takes_values a) e
    where
      go : (b : Bool) → cond b (option_fault c again a (attached_value rest) h) (or_else (react_fault c again a [] h) (fault (reacted c a [] h))) ≡ []
          → AreGood c (cond b (option_met c a (attached_value rest) h) (then (reacted c a [] h))).0.rows
      go true e = option_good a (attached_value rest) h ok e good
      go false e =
          let parts = no_fault _ _ e in
          further (reacted c a [] h) parts.1 (react_good a [] h ok parts.0 good)

  step_good : (o : Option ℕ) (flags : Text) (skip : ℕ) (so_far : Outcome) (h : Held) (fault : Text → ℕ → Held → Kinds)
      (then : Text → ℕ → Outcome → Held → Held × Outcome)
      → ((flags : Text) (skip : ℕ) (so_far : Outcome) (h : Held) → fault flags skip h ≡ [] → AreGood c h.rows → AreGood c (then flags skip so_far h).0.rows)
      → bundle_step_fault c again o flags skip h fault ≡ [] → AreGood c h.rows → AreGood c (bundle_step c o flags skip so_far h then).0.rows
  step_good None flags skip so_far h fault then further e good = good
  step_good (Some x) flags zero so_far h fault then further e good =
      let rest = drop (length (encode_utf8 x)) flags in
      short_good (arg_by_short c x) rest h (fault rest 0) (then rest 0 done) (find_ok (IsFound c) _ c rules) (further rest 0 done) e good
  step_good (Some x) flags (suc skip) so_far h fault then further e good = further _ skip so_far h e good

  bundle_good : (k : ℕ) (flags : Text) (skip : ℕ) (so_far : Outcome) (h : Held) → flags_fault c again k flags skip h ≡ [] → AreGood c h.rows
      → AreGood c (bundle_met c k flags skip so_far h).0.rows
  unfolding bundle_met flags_fault
  bundle_good zero flags skip so_far h e good = good
  bundle_good (suc k) flags skip so_far h e good =
      step_good (slice_get (chars flags) 0) flags skip so_far h (flags_fault c again k) (bundle_met c k) (bundle_good k) e good

  plain_rows : (waiting : Waiting) (word : Text) (h : Held) → h.rows ≡ (plain_word c waiting word h).0.rows
  plain_rows idle word h = refl
  plain_rows positional word h = refl
  plain_rows (option id) word h = go (arg_by_id c id)
    where
      go : (o : Option Rule) → h.rows ≡ (option_word o id word h).0.rows
      go None = refl
      go (Some a) = refl

  flag_rows : (waiting : Waiting) (word : Text) (h : Held) (o : Outcome) → h.rows ≡ (after_flag c waiting word h o).0.rows
  flag_rows waiting word h done = refl
  flag_rows waiting word h (waits id) = refl
  flag_rows waiting word h plain = plain_rows waiting word h
  flag_rows waiting word h refused = plain_rows waiting word h

  flag_good : (o : Option (Text × Option Text)) (waiting : Waiting) (word : Text) (h : Held) → flag_word_fault c again o word h ≡ [] → AreGood c h.rows
      → AreGood c (long_or_other c waiting word o h).0.rows
  flag_good (Some p) waiting word h e good =
      subst (AreGood c) (flag_rows waiting word (long_met c (arg_by_long c p.0) p.1 h).0 (long_met c (arg_by_long c p.0) p.1 h).1)
      (long_good (arg_by_long c p.0) p.1 h (find_ok (IsFound c) _ c rules) e good)
  flag_good None waiting word h e good = go (short_of word) e
    where
      go : (o : Option Text) → option_map_or (λ flags. bundle_fault c again flags h) o [] ≡ [] → AreGood c (short_or_plain c waiting word o h).0.rows
      go None e = subst (AreGood c) (plain_rows waiting word h) good
      go (Some flags) e =
          subst (AreGood c) (flag_rows waiting word (bundle c flags h).0 (bundle c flags h).1)
          (bundle_good (length flags) flags h.skip plain (record h { skip = 0 }) e good)

module _ (s : Shape) (rules : AllByRecursion (IsFound s.rules) s.rules) where
  word_good : (names : Names) (is_trailing : Bool) (waiting : Waiting) (position : ℕ) (word : Text) (h : Held)
      → word_fault s names is_trailing waiting word h ≡ [] → AreGood s.rules h.rows
      → AreGood s.rules (word_met s.rules names is_trailing waiting position word h).0.rows
  word_good names true waiting position word h e good = good
  word_good names false waiting position word h e good = met (subcommand_met names waiting word) e
    where
      other : (b : Bool) → cond b [] (flag_word_fault s.rules s.args_override_self (long_of word) word h) ≡ []
          → AreGood s.rules (cond b (h, trailing position) (long_or_other s.rules waiting word (long_of word) h)).0.rows
      other true e = good
      other false e = flag_good s.rules rules s.args_override_self (long_of word) waiting word h e good

      met : (o : Option Text) → other_fault s o word h ≡ [] → AreGood s.rules (subcommand_or_other s.rules o waiting position word h).0.rows
      met (Some name) e = good
      met None e = other (bytes_eq word (45 ∷ 45 ∷ [])) e

  turn_good : (names : Names) (w : Walk) (word : Text) → turn_fault s names w word ≡ [] → AreGood s.rules w.held.rows
      → AreGood s.rules (walked s.rules names w word).held.rows
  unfolding walked
  turn_good names w word e good = go w.stopped e
    where
      positional_good : (o : Option Rule) (h : Held) → option_map_or (λ a. positional_fault s.rules s.args_override_self a h) o (stray_fault s) ≡ []
          → AreGood s.rules h.rows → AreGood s.rules (to_positional s.rules o word w h).held.rows
      positional_good None h e good = good
      positional_good (Some a) h e good = pend (is_pending a h.pending && takes_several a) e
        where
          pend : (b : Bool) → cond b [] (settle_fault s.rules s.args_override_self h) ≡ [] → AreGood s.rules (cond b h (settled s.rules h)).rows
          pend true e = good
          pend false e = settle_good s.rules rules s.args_override_self h e good

      stepped : (h : Held) (step : Step) → step_fault s w.position h step ≡ [] → AreGood s.rules h.rows
          → AreGood s.rules (after_step s.rules word w h step).held.rows
      stepped h (next waiting) e good = good
      stepped h (trailing position) e good = good
      stepped h (subcommand name) e good = good
      stepped h value e good = positional_good (arg_by_index s.rules w.position) h e good

      go : (o : Option (Text × List Text))
          → cond (is_some o) [] (or_else (word_fault s names w.is_trailing w.waiting word w.held)
          (step_fault s w.position (word_met s.rules names w.is_trailing w.waiting w.position word w.held).0
          (word_met s.rules names w.is_trailing w.waiting w.position word w.held).1)) ≡ []
          → AreGood s.rules (walked_from s.rules names o w word).held.rows
      go (Some p) e = good
      go None e =
          let parts = no_fault _ _ e in
          stepped (word_met s.rules names w.is_trailing w.waiting w.position word w.held).0
          (word_met s.rules names w.is_trailing w.waiting w.position word w.held).1
          parts.1 (word_good names w.is_trailing w.waiting w.position word w.held parts.0 good)

  pub walk_good : (names : Names) (w : Walk) (words : List Text) → walk_fault s names w words ≡ [] → AreGood s.rules w.held.rows
      → AreGood s.rules (fold (walked s.rules names) w words).held.rows
  unfolding walk_fault
  walk_good names w [] e good = good
  walk_good names w (word ∷ rest) e good =
      let parts = no_fault _ _ e in
      walk_good names (walked s.rules names w word) rest parts.1 (turn_good names w word parts.0 good)
