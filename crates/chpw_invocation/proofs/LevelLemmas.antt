-- A command in whose words clap finds no fault has what it requires, each value as its rule takes it.
use Rattle.std.proofs.Common.{◌≡◌, ◌≢◌, ◌∙◌, ◌&&◌, ◌||◌, Bool, cond, true, false, not, refl, sym}
use Rattle.std.proofs.Common.{ap, subst, arith, List, [], ◌∷◌, Option, Some, None, true≢false}
use Rattle.std.specs.Prelude.{IfSome, fold, slice_get}
use Rattle.std.specs.List.{AllByRecursion, find, list_any}
use Rattle.std.specs.Option.{option_and_then, option_map_or}
use Rattle.std.specs.Str.{bytes_eq}
use Rattle.std.proofs.lemmas.Bool.{cond_both, ne_eqb, or_parts}
use Rattle.std.proofs.lemmas.Slice.Eq.{bytes_eq-Decides}
use Rattle.clap.specs.Facts.{explicit_source, parser_of_value}
use Rattle.clap.specs.Values.{Accepts, read_as}
use Rattle.clap.specs.Kinds.{check_kinds, or_else, request_kinds}
use Rattle.clap.specs.Takes.{is_given}
use Rattle.clap.specs.Walk.{Held, Row, Rule, Text, action_of, arg_by_id, default_rows, has_row, is_empty}
use Rattle.clap.specs.Walk.{nothing_held, reading_by, row_text, rows_after, settled, walk, walk_from, with_default}
use Rattle.clap.specs.Simple.{Shape}
use Rattle.clap.specs.Faults.{default_fault, defaults_fault, level_fault, values_fault}
use Rattle.clap.proofs.ValueTestLemmas.{accepts-Accepts}
use Rattle.chpw_invocation.specs.Needs.{Suits}
use Rattle.chpw_invocation.proofs.RowLemmas.{AreGood, IsFound, IsGoodRow, no_fault, settle_good, values_good, walk_good}

-- ---- defaults

default_good : (c : List Rule) (rows : List Row) (a : Rule) → IsFound c a → default_fault rows a ≡ [] → AreGood c rows
    → AreGood c (with_default rows a)
default_good c rows a ok e good = go (has_row a.id rows) a.defaults e
  where
    go : (b : Bool) (values : List Text) → cond (b || is_empty values) [] (or_else (request_kinds (action_of a)) (values_fault a values)) ≡ []
        → AreGood c (cond b rows (default_rows a.id (reading_by a) values rows))
    go true values e = good
    go false [] e = good
    go false (v ∷ vs) e =
        let some : is_empty (v ∷ vs) ≡ false = ne_eqb _ _ (λ zero_is. omega arith) in
        values_good c a _ (v ∷ vs) rows ok.0 some (no_fault (request_kinds (action_of a)) _ (rw some at e)).1 good

defaults_good : (c : List Rule) (xs : List Rule) (rows : List Row) → AllByRecursion (IsFound c) xs → defaults_fault rows xs ≡ [] → AreGood c rows
    → AreGood c (fold with_default rows xs)
unfolding defaults_fault
defaults_good c [] rows ok e good = good
defaults_good c (a ∷ rest) rows ok e good =
    let parts = no_fault _ _ e in
    defaults_good c rest (with_default rows a) ok.1 parts.1 (default_good c rows a ok.0 parts.0 good)

-- ---- what a rule asks

-- the first row of an id
found_good : (c : List Rule) (id : Text) (rows : List Row) → AreGood c rows
    → IfSome (find (λ r. bytes_eq r.id id) rows) (λ r. IsGoodRow c r × (r.id ≡ id))
found_good c id [] good = tt
found_good c id (r ∷ rs) good =
    cond_both (bytes_eq r.id id) (Some r) (find (λ r. bytes_eq r.id id) rs) (λ o. IfSome o (λ r. IsGoodRow c r × (r.id ≡ id)))
    (λ e. (good.0, (bytes_eq-Decides r.id id).0 e)) (λ e. found_good c id rs good.1)

suits_row : (c : List Rule) (a : Rule) (o : Option Row) → arg_by_id c a.id ≡ Some a → IfSome o (λ r. IsGoodRow c r × (r.id ≡ a.id))
    → (a.required && not (option_map_or (λ r. explicit_source r.source) o false)) ≡ false
    → (a.required ≡ true → option_and_then (λ r. slice_get r.values 0) o ≢ None)
    × ((text : Text) → option_and_then (λ r. slice_get r.values 0) o ≡ Some text
    → Accepts a.ignore_case (parser_of_value a.parser) text × (option_and_then row_text o ≡ Some (read_as (reading_by a) text)))
suits_row c a None is good given = (λ required. let bad : true ≡ false = rw required at given in absurd (true≢false bad), λ text e. cc)
suits_row c a (Some r) is good given =
    let taken = good.0.2 in
    let same : Some good.0.0 ≡ Some a = sym good.0.1 ∙ ap (arg_by_id c) good.1 ∙ is in
    let rule_is : good.0.0 ≡ a = cc in
    let first_is : slice_get r.values 0 ≡ Some taken.first = ap (λ (vs : List Text). slice_get vs 0) taken.values in (
      λ required none. let bad : Some taken.first ≡ None = sym first_is ∙ none in cc,
      λ text e.
          let one : Some taken.first ≡ Some text = sym first_is ∙ e in
          let text_is : taken.first ≡ text = cc in
          let how : r.reading ≡ reading_by a = taken.reading ∙ ap reading_by rule_is in (
            subst (λ (t : Text). Accepts a.ignore_case (parser_of_value a.parser) t) text_is
                (subst (λ (x : Rule). Accepts x.ignore_case (parser_of_value x.parser) taken.first) rule_is (accepts-Accepts _ _ taken.first taken.passes)),
            rw (e, how) refl,
          ),
    )

suits_rule : (c : List Rule) (rows : List Row) (a : Rule) → AreGood c rows → arg_by_id c a.id ≡ Some a
    → (a.required && not (is_given a.id rows)) ≡ false → Suits a rows
suits_rule c rows a good is given =
    let parts = suits_row c a (find (λ r. bytes_eq r.id a.id) rows) is (found_good c a.id rows good) given in
    record { there = parts.0; taken = parts.1 }

suits_rules : (c : List Rule) (rows : List Row) (xs : List Rule) → AreGood c rows → AllByRecursion (IsFound c) xs
    → list_any (λ a. a.required && not (is_given a.id rows)) xs ≡ false → AllByRecursion (λ a. Suits a rows) xs
suits_rules c rows [] good ok none = tt
suits_rules c rows (a ∷ rest) good ok none =
    let parts = or_parts (a.required && not (is_given a.id rows)) _ none in
    (suits_rule c rows a good ok.0.0 parts.0, suits_rules c rows rest good ok.1 parts.1)

-- ---- a whole command

none_missing : (b b2 negates missing : Bool) → check_kinds b b2 (not (negates && false) && missing) ≡ [] → missing ≡ false
none_missing true b2 negates missing e = cc
none_missing false true negates missing e = cc
none_missing false false true false e = refl
none_missing false false false false e = refl
none_missing false false true true e = cc
none_missing false false false true e = cc

pub level_suits : (s : Shape) (words : List Text) → AllByRecursion (IsFound s.rules) s.rules → level_fault s [] nothing_held words false [] ≡ []
    → AllByRecursion (λ a. Suits a (rows_after s.rules [] words)) s.rules
level_suits s words ok e =
    let walked = no_fault _ _ e in
    let ended = no_fault _ _ walked.1 in
    let filled = no_fault _ _ ended.1 in
    let end : Held = (walk s.rules [] nothing_held words).held in
    let good = walk_good s ok [] (walk_from nothing_held) words walked.0 tt in
    let settled_good = settle_good s.rules ok s.args_override_self end ended.0 good in
    let all = defaults_good s.rules s.rules (settled s.rules end).rows ok filled.0 settled_good in
    suits_rules s.rules (rows_after s.rules [] words) s.rules all ok (none_missing _ _ s.subcommand_negates_reqs _ filled.1)
