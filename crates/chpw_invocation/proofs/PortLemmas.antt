-- The number of an option is that of its text.
use Rattle.std.proofs.Common.{◌≡◌, ◌∙◌, ◌<◌, ◌≤◌, ◌^◌, refl, sym, arith, ℕ, List, Option, Some, None, Result, Ok, Err}
use Rattle.std.proofs.lemmas.Fmt.{parse-decimal}
use Rattle.std.specs.Fmt.{decimal}
use Rattle.std.specs.Prelude.{pos}
use Rattle.std.specs.Str.Parse.{ParsesUnsigned, digits_value, without_leading_plus}
use Rattle.clap.specs.Walk.{Text}
use Rattle.clap.specs.Lexer.{without_minus}
use Rattle.clap.specs.Matches.{ReadsOne}
use Rattle.clap.specs.Values.{IsSignedIn}
use Rattle.clap.proofs.CallerReads.{signed_reads}

pub number_read : {E : Type 0} (G : List ℕ → Result ℕ E → Type 0) (text : Option Text) (found : Option ℕ) (port : ℕ)
    → ((t : Text) (n : ℕ) → G t (Ok n) → n ≡ digits_value 10 (without_leading_plus t))
    → (text ≡ None → found ≡ None) → ((t : Text) → text ≡ Some t → ReadsOne G t found) → found ≡ Some port
    → (t : Text) × (text ≡ Some t) × (port ≡ digits_value 10 (without_leading_plus t))
number_read G None found port digits none value is =
    let bad : None ≡ Some port = sym (none refl) ∙ is in
    cc
number_read G (Some t) found port digits none value is =
    (t, refl, digits t port (rw is at (value t refl)))

-- a number that stands there as numbers are printed is read
pub number_found : {E : Type 0} (G : List ℕ → Result ℕ E → Type 0) (text : Option Text) (found : Option ℕ) (number : ℕ)
    → ((t : Text) (r : Result ℕ E) → G t r → ParsesUnsigned 32 10 t r) → number < 2 ^ 32
    → ((t : Text) → text ≡ Some t → ReadsOne G t found) → text ≡ Some (decimal number) → found ≡ Some number
number_found {E = E} G text None number parses small value is =
    let given = value (decimal number) is in
    let bad : ◌≡◌ {A = Result ℕ E} (Err given.0) (Ok number) =
    parse-decimal 32 number (decimal number) (Err given.0) small (omega (arith, small)) refl (parses (decimal number) (Err given.0) given.1) in
    cc
number_found {E = E} G text (Some v) number parses small value is =
    let same : ◌≡◌ {A = Result ℕ E} (Ok v) (Ok number) =
    parse-decimal 32 number (decimal number) (Ok v) small (omega (arith, small)) refl (parses (decimal number) (Ok v) (value (decimal number) is)) in
    cc

-- a text that a rule for numbers takes is read as a number within its limits
pub number_taken : {E : Type 0} (G : List ℕ → Result ℕ E → Type 0) (text : Text) (shown : Option Text) (found : Option ℕ) (limit : ℕ)
    → ((t : Text) (r : Result ℕ E) → G t r → ParsesUnsigned 32 10 t r) → limit < 2 ^ 32
    → ((t : Text) → shown ≡ Some t → ReadsOne G t found) → shown ≡ Some (without_minus text) → IsSignedIn (pos 1) (pos limit) text
    → (n : ℕ) × (found ≡ Some n) × (1 ≤ n) × (n ≤ limit)
number_taken {E = E} G text shown found limit parses small value is taken =
    signed_reads E G 32 1 limit text found (value (without_minus text) is) parses small taken
