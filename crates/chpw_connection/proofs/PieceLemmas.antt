-- Where a message is whole.
use Rattle.std.proofs.Common.{◌≡◌, ℕ, ◌+◌, ◌-◌, ◌<◌, ◌≤◌, ◌==◌, List, ◌++◌, length, take, drop, ◌∙◌, ap, sym, subst, inl, inr, arith, true, nat_lt}
use Rattle.std.proofs.Math.Logic.{⊎_elim}
use Rattle.std.proofs.lemmas.Bool.{cases_lt}
use Rattle.std.proofs.lemmas.Bool.Decides.{nat_tests}
use Rattle.std.proofs.lemmas.List.{take_all, length-take, length-drop, length-append, take-append-le}
use Rattle.std.specs.Int.{from_be_bytes, w32}
use Rattle.chpw_frame.specs.Stream.{message, too_long, next_piece, stated_length, longest}
use Rattle.chpw_connection.specs.Messages.{wanted_after, whole_after, IsPiece}

pub wanted_short : (b : List ℕ) → length b < 4 → wanted_after b ≡ 4 - length b
wanted_short b h = grind (arith, nat_tests)

pub wanted_long : (b : List ℕ) → 4 ≤ length b → longest < stated_length b → wanted_after b ≡ 0
wanted_long b h k = grind (arith, nat_tests)

pub wanted_whole : (b : List ℕ) → 4 ≤ length b → stated_length b ≤ longest → wanted_after b ≡ 4 + stated_length b - length b
wanted_whole b h k = grind (arith, nat_tests)

pub all_short : (b : List ℕ) → length b < 4 → whole_after b ≡ 4
all_short b h = grind (arith, nat_tests)

pub all_long : (b : List ℕ) → 4 ≤ length b → longest < stated_length b → whole_after b ≡ 4
all_long b h k = grind (arith, nat_tests)

pub all_whole : (b : List ℕ) → 4 ≤ length b → stated_length b ≤ longest → whole_after b ≡ 4 + stated_length b
all_whole b h k = grind (arith, nat_tests)

pub next_long : (b : List ℕ) → 4 ≤ length b → longest < stated_length b → next_piece b ≡ too_long
next_long b h k = grind (arith, nat_tests)

pub next_whole : (b : List ℕ) → 4 ≤ length b → stated_length b ≤ longest → 4 + stated_length b ≤ length b
    → next_piece b ≡ message (take (stated_length b) (drop 4 b))
next_whole b h k whole = grind (arith, nat_tests)

-- the stated length stands in the first four bytes
pub stated_front : (b more : List ℕ) → 4 ≤ length b → stated_length (b ++ more) ≡ stated_length b
stated_front b more h = ap (from_be_bytes w32) (take-append-le 4 b more h)

whole_piece : (all : List ℕ) → 4 ≤ length all → stated_length all ≤ longest → length all ≡ 4 + stated_length all → IsPiece all
whole_piece all four short len =
    let rest : length (drop 4 all) ≤ stated_length all = omega (arith, length-drop 4 all) in
    let le : 4 + stated_length all ≤ length all = omega arith in
    inl (next_whole all four short le ∙ ap message (take_all (stated_length all) (drop 4 all) rest))

-- just as many bytes as the message has are a piece
pub whole_is_piece : (all : List ℕ) → length all ≡ whole_after all → IsPiece all
whole_is_piece all whole =
    ⊎_elim
    (λ (few : length all < 4). absurd (omega (arith, all_short all few)))
    (λ (four : 4 ≤ length all).
    ⊎_elim
    (λ (long : longest < stated_length all). inr (next_long all four long, omega (arith, all_long all four long)))
    (λ (short : stated_length all ≤ longest). whole_piece all four short (omega (arith, all_whole all four short)))
    (cases_lt longest (stated_length all)))
    (cases_lt (length all) 4)

-- a message of which less than its length had come
whole_of_length : (b all : List ℕ) → length b < 4 → length all ≤ length b + wanted_after b → wanted_after all ≡ 0 → length all ≡ whole_after all
whole_of_length b all few len none =
    let most : length all ≤ 4 = omega (arith, wanted_short b few) in
    ⊎_elim
    (λ (less : length all < 4). absurd (omega (arith, wanted_short all less)))
    (λ (four : 4 ≤ length all).
    ⊎_elim
    (λ (long : longest < stated_length all). omega (arith, all_long all four long))
    (λ (short : stated_length all ≤ longest). omega (arith, wanted_whole all four short, all_whole all four short))
    (cases_lt longest (stated_length all)))
    (cases_lt (length all) 4)

-- and one of which its length had come
whole_of_body : (b all : List ℕ) → 4 ≤ length b → 0 < wanted_after b → length b ≤ length all → length all ≤ length b + wanted_after b
    → stated_length all ≡ stated_length b → wanted_after all ≡ 0 → length all ≡ whole_after all
whole_of_body b all four some grows len same none =
    ⊎_elim
    (λ (long : longest < stated_length b). absurd (omega (arith, wanted_long b four long)))
    (λ (short : stated_length b ≤ longest).
    let four' : 4 ≤ length all = omega arith in
    let short' : stated_length all ≤ longest = omega arith in
    omega (arith, wanted_whole b four short, wanted_whole all four' short', all_whole all four' short'))
    (cases_lt longest (stated_length b))

-- just what is wanted after a message that isn't whole makes it whole, or it isn't whole yet
made_whole : (b more : List ℕ) → 0 < wanted_after b → wanted_after (b ++ take (wanted_after b) more) ≡ 0
    → length (b ++ take (wanted_after b) more) ≡ whole_after (b ++ take (wanted_after b) more)
made_whole b more some none =
    let part = take (wanted_after b) more in
    let len : length (b ++ part) ≡ length b + length part = length-append b part in
    let few : length part ≤ wanted_after b = omega (arith, length-take (wanted_after b) more) in
    ⊎_elim
    (λ (short : length b < 4). whole_of_length b (b ++ part) short (omega arith) none)
    (λ (four : 4 ≤ length b). whole_of_body b (b ++ part) four some (omega arith) (omega arith) (stated_front b part four) none)
    (cases_lt (length b) 4)

-- and so a piece
pub piece_is_whole : (b more : List ℕ) → 0 < wanted_after b
    → wanted_after (b ++ take (wanted_after b) more) ≡ 0 → IsPiece (b ++ take (wanted_after b) more)
piece_is_whole b more some none = whole_is_piece (b ++ take (wanted_after b) more) (made_whole b more some none)

-- the bytes of a message that isn't whole, with those that are wanted after them
pub whole_by : (b more all : List ℕ) → nat_lt 0 (wanted_after b) ≡ true → all ≡ b ++ take (wanted_after b) more
    → (wanted_after all == 0) ≡ true → length all ≡ whole_after all
whole_by b more all some is none =
    let same : wanted_after (b ++ take (wanted_after b) more) ≡ wanted_after all = ap wanted_after (sym is) in
    subst (λ (l : List ℕ). length l ≡ whole_after l) (sym is)
    (made_whole b more (grind (arith, nat_tests)) (grind (arith, nat_tests)))
