-- Where a word is cut at its last byte of a kind.
use Rattle.std.proofs.Common.{◌≡◌, ◌≢◌, ℕ, suc, ◌+◌, ◌<◌, List, [], ◌∷◌, ◌++◌, length, get_or, take, drop, Option, Some, None, refl, sym, ◌∙◌, ap, arith, rules}
use Rattle.std.proofs.lemmas.Bool.Decides.{nat_tests}
use Rattle.std.proofs.lemmas.Grind.{common_steps}
use Rattle.std.proofs.lemmas.List.{take-append-drop}
use Rattle.std.proofs.lemmas.Str.Pattern.{NoCharPasses-char, drop_at_char}
use Rattle.std.specs.Prelude.{MatchOption}
use Rattle.std.specs.Option.{option_map}
use Rattle.std.specs.Borrow.{Bor}
use Rattle.std.specs.Str.Pattern.{RFindsChar, SplitsAroundMatch}
use Rattle.chpw_commands.specs.Words.{split_last}

abbrev pub IsAbsent : ℕ → List ℕ → Type 0
IsAbsent c bs = (i : ℕ) → i < length bs → get_or bs i 0 ≢ c

pub split_last_none : (c : ℕ) (bs : List ℕ) → IsAbsent c bs → split_last c bs ≡ None
split_last_none c [] h = refl
split_last_none c (b ∷ bs) h =
    let here : b ≢ c = h 0 (omega arith) in
    let rest : split_last c bs ≡ None = split_last_none c bs (λ i q. h (suc i) (omega arith)) in
    rw rest (grind (arith, nat_tests, common_steps))

pub split_last_at : (c : ℕ) (xs ys : List ℕ) → IsAbsent c ys → split_last c (xs ++ c ∷ ys) ≡ Some (xs, ys)
split_last_at c [] ys h =
    let rest : split_last c ys ≡ None = split_last_none c ys h in
    rw rest (grind (arith, nat_tests, common_steps))
split_last_at c (x ∷ xs) ys h = rw (split_last_at c xs ys h) refl

pub rsplit_gives : (c : ℕ) (bs : List ℕ) (r : Option (Bor (List ℕ) × Bor (List ℕ))) →
    MatchOption r (RFindsChar c bs None) (λ x. SplitsAroundMatch (RFindsChar c) bs x.0.now x.1.now) → c < 128 →
    option_map (λ p. (p.0.now, p.1.now)) r ≡ split_last c bs
rsplit_gives c bs None h small = sym (split_last_none c bs (λ i q. NoCharPasses-char c bs i h small q))
rsplit_gives c bs (Some x) h small =
    let cut : bs ≡ x.0.now ++ c ∷ x.1.now =
    sym (take-append-drop h.0 bs) ∙ rw (drop_at_char c bs h.0 h.1 h.2.1 small, h.3, h.4) refl in
    let absent : IsAbsent c x.1.now = rw h.4 (λ i q. NoCharPasses-char c (drop h.1 bs) i h.2.0 small q) in
    rw cut (sym (split_last_at c x.0.now x.1.now absent))
