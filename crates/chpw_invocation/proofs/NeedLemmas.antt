-- What it comes to that an option is as its rule says.
use Rattle.std.proofs.Common.{◌≡◌, ◌≢◌, ◌∙◌, ℕ, Bool, true, false, refl, sym, ap, subst, List, codes, Option, Some, None, option_map, true≢false, inl, inr}
use Rattle.std.specs.Prelude.{Box, IfSome, find, slice_get}
use Rattle.std.specs.Box.{box_value}
use Rattle.std.specs.Option.{option_and_then}
use Rattle.std.specs.Str.{bytes_eq}
use Rattle.std.proofs.lemmas.Bool.{or_cases}
use Rattle.std.proofs.lemmas.Slice.Eq.{bytes_eq-Decides}
use Rattle.clap.specs.Matches.{subcommand_name_of}
use Rattle.clap.specs.Simple.{filled, subcommand_rows, subcommand_rows_of}
use Rattle.clap.specs.declared.parser.matches.ArgMatches.{ArgMatches}
use Rattle.clap.specs.declared.parser.matches.ArgMatches.TheViews.{out-ArgMatches, out-SubCommand}
use Rattle.clap.specs.declared.parser.matches.SubCommand.{SubCommand}
use Rattle.clap.specs.Walk.{Row, Text, first_of, one_of, row_text}
use Rattle.chpw_invocation.specs.Invocations.{AimsOld, AsksFor, HasTakenNumber, IsGiven, LacksKdc}
use Rattle.chpw_invocation.specs.Needs.{Suits}
use Rattle.chpw_invocation.specs.Options.{flag, may_be_numbered, numbered, required}
use Rattle.chpw_invocation.specs.declared.invocation.Invocation.{Invocation}

-- an option that has to be there is
pub required_there : (name : Text) (options : List Row) → Suits (filled (required name)) options → first_of name options ≢ None
required_there name options suits = suits.there refl

-- a number that may be left out, where it isn't
pub given_taken : (limit : ℕ) (name : Text) (options : List Row) → Suits (filled (may_be_numbered name limit)) options → first_of name options ≢ None
    → HasTakenNumber limit options name
given_taken limit name options suits some = go (first_of name options) refl
  where
    go : (o : Option Text) → first_of name options ≡ o → HasTakenNumber limit options name
    go None e = absurd (some e)
    go (Some text) e = (text, (suits.taken text e).1, (suits.taken text e).0)

pub number_there : (limit : ℕ) (name : Text) (options : List Row) → Suits (filled (numbered name limit)) options → HasTakenNumber limit options name
number_there limit name options suits = go (first_of name options) refl
  where
    go : (o : Option Text) → first_of name options ≡ o → HasTakenNumber limit options name
    go None e = absurd (suits.there refl e)
    go (Some text) e = (text, (suits.taken text e).1, (suits.taken text e).0)

-- ---- flags

no_value : (o : Option Row) → option_and_then (λ r. slice_get r.values 0) o ≡ None → option_and_then row_text o ≡ None
no_value None e = refl
no_value (Some r) e = rw e refl

-- a flag is given or it isn't
pub given_once : (name : Text) (options : List Row) (a b : Bool) → Suits (filled (flag name)) options → IsGiven options name a → IsGiven options name b → a ≡ b
given_once name options a b suits is was = go (first_of name options) refl
  where
    go : (o : Option Text) → first_of name options ≡ o → a ≡ b
    go None e =
        let none = no_value (find (λ r. bytes_eq r.id name) options) e in
        is.2 none ∙ sym (was.2 none)
    go (Some text) e =
        let taken = suits.taken text e in
        elim (or_cases (bytes_eq text (codes "true")) (bytes_eq text (codes "false")) taken.0) [
          | inl is_yes ↦
              let text_is : text ≡ codes "true" = (bytes_eq-Decides text (codes "true")).0 is_yes in
              let one : one_of name options ≡ Some (codes "true") = rw (← text_is) taken.1 in
              is.0 one ∙ sym (was.0 one)
          | inr is_no ↦
              let text_is : text ≡ codes "false" = (bytes_eq-Decides text (codes "false")).0 is_no in
              let one : one_of name options ≡ Some (codes "false") = rw (← text_is) taken.1 in
              is.1 one ∙ sym (was.1 one)
        ]

pub flag_given : (name : Text) (options : List Row) → Suits (filled (flag name)) options → IsGiven options name true
    → one_of name options ≡ Some (codes "true")
flag_given name options suits is = go (first_of name options) refl
  where
    go : (o : Option Text) → first_of name options ≡ o → one_of name options ≡ Some (codes "true")
    go None e = absurd (true≢false (is.2 (no_value (find (λ r. bytes_eq r.id name) options) e)))
    go (Some text) e =
        let taken = suits.taken text e in
        elim (or_cases (bytes_eq text (codes "true")) (bytes_eq text (codes "false")) taken.0) [
          | inl is_yes ↦
              let text_is : text ≡ codes "true" = (bytes_eq-Decides text (codes "true")).0 is_yes in
              rw (← text_is) taken.1
          | inr is_no ↦
              let text_is : text ≡ codes "false" = (bytes_eq-Decides text (codes "false")).0 is_no in
              let one : one_of name options ≡ Some (codes "false") = rw (← text_is) taken.1 in
              absurd (true≢false (is.1 one))
        ]

-- ---- the command that was matched

pub matched_as : (m : ArgMatches) (name : Text) (options : List Row) → Some name ≡ subcommand_name_of m
    → Some options ≡ option_map (λ p. p.1) (subcommand_rows_of m) → subcommand_rows_of m ≡ Some (name, options)
matched_as m name options named rows = go (out-ArgMatches m).subcommand named rows
  where
    go : {Z : Type 0} (o : Option (Box SubCommand Z)) → Some name ≡ option_map (λ b. (out-SubCommand (box_value b)).name.now) o
        → Some options ≡ option_map (λ p. p.1) (subcommand_rows o) → subcommand_rows o ≡ Some (name, options)
    go None named rows = cc
    go (Some b) named rows = cc

-- a request of the earlier protocol has the flag
pub not_aimed : (options : List Row) (given : Bool) → Suits (filled (flag (codes "old"))) options → IsGiven options (codes "old") given → given ≡ false
    → AimsOld options → ⊥
not_aimed options given suits is none aims = true≢false (given_once (codes "old") options true given suits aims.0 is ∙ none)

-- a service whose KDC has to be in reach has the flag
pub not_required : (options : List Row) (given : Bool) → Suits (filled (flag (codes "require-kdc"))) options
    → IsGiven options (codes "require-kdc") given → given ≡ false → LacksKdc options → ⊥
not_required options given suits is none lacks = true≢false (given_once (codes "require-kdc") options true given suits lacks.0 is ∙ none)

-- the same, of a command that is known by name
pub named_as : (m : ArgMatches) (name target : Text) (options : List Row) → Some name ≡ subcommand_name_of m
    → Some options ≡ option_map (λ p. p.1) (subcommand_rows_of m) → name ≡ target → subcommand_rows_of m ≡ Some (target, options)
named_as m name target options named rows is = matched_as m name options named rows ∙ ap (λ (n : Text). Some (n, options)) is

-- what a command that is known by name asks for
pub asked_by : (m : ArgMatches) (name target : Text) (options : List Row) (asked : Option Invocation) → Some name ≡ subcommand_name_of m
    → Some options ≡ option_map (λ p. p.1) (subcommand_rows_of m) → name ≡ target → IfSome asked (AsksFor (Some (target, options)))
    → IfSome asked (AsksFor (subcommand_rows_of m))
asked_by m name target options asked named rows is asks =
    subst (λ (o : Option (Text × List Row)). IfSome asked (AsksFor o)) (sym (named_as m name target options named rows is)) asks
