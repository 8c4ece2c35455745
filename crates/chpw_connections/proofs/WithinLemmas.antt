-- The longest beginning that has no more than so many bytes.
use Rattle.std.proofs.Common.{◌≡◌, ℕ, ◌+◌, ◌-◌, ◌<◌, ◌≤◌, List, [], ◌∷◌, ◌++◌, length, take, Bool, true}
use Rattle.std.proofs.Common.{false, not, cond, nat_le, refl, sym, ◌∙◌, ap, subst, inl, inr, ◌⊎◌, arith}
use Rattle.std.specs.List.{filter}
use Rattle.std.proofs.lemmas.Bool.{cases_lt, le-leb, leb-true}
use Rattle.std.proofs.lemmas.List.Sums.{sum_by-cons}
use Rattle.std.proofs.lemmas.List.Filters.{sum_by-filter_both}
use Rattle.std.proofs.lemmas.List.{length-take}
use Rattle.chpw_connections.specs.Answers.{Answer, is_recent, size_of, bytes_of, within, after_keep}

-- ---- the first one, which fits or doesn't

pub bytes-cons : (a : Answer) (answers : List Answer) → bytes_of (a ∷ answers) ≡ size_of a + bytes_of answers
bytes-cons a answers = sum_by-cons size_of a answers

pub within-fits : (bytes : ℕ) (a : Answer) (answers : List Answer) → size_of a ≤ bytes
    → within bytes (a ∷ answers) ≡ a ∷ within (bytes - size_of a) answers
within-fits bytes a answers fits =
    ap (λ (b : Bool). cond b (a ∷ within (bytes - size_of a) answers) []) (le-leb (size_of a) bytes fits)

within-full : (bytes : ℕ) (a : Answer) (answers : List Answer) → bytes < size_of a → within bytes (a ∷ answers) ≡ []
within-full bytes a answers more =
    ap (λ (b : Bool). cond b (a ∷ within (bytes - size_of a) answers) []) (not_le (size_of a) bytes more)
  where
    not_le : (m n : ℕ) → n < m → nat_le m n ≡ false
    not_le m n h = by_test (nat_le m n) refl
      where
        by_test : (b : Bool) → nat_le m n ≡ b → nat_le m n ≡ false
        by_test true e = absurd (let less : m ≤ n = leb-true m n e in omega arith)
        by_test false e = e

-- ---- what it keeps

pub within_all : (bytes : ℕ) (answers : List Answer) → bytes_of answers ≤ bytes → within bytes answers ≡ answers
within_all bytes [] fits = refl
within_all bytes (a ∷ answers) fits =
    let parts = bytes-cons a answers in
    within-fits bytes a answers (omega (arith, parts, fits))
    ∙ ap (λ (xs : List Answer). a ∷ xs) (within_all (bytes - size_of a) answers (omega (arith, parts, fits)))

pub within-append : (bytes : ℕ) (front rest : List Answer) → bytes_of front ≤ bytes
    → within bytes (front ++ rest) ≡ front ++ within (bytes - bytes_of front) rest
within-append bytes [] rest fits = let all : bytes ≡ bytes - 0 = omega arith in ap (λ (n : ℕ). within n rest) all
within-append bytes (a ∷ front) rest fits =
    let parts = bytes-cons a front in
    let left : bytes - size_of a - bytes_of front ≡ bytes - bytes_of (a ∷ front) = omega (arith, parts, fits) in
    within-fits bytes a (front ++ rest) (omega (arith, parts, fits))
    ∙ ap (λ (xs : List Answer). a ∷ xs) (within-append (bytes - size_of a) front rest (omega (arith, parts, fits)))
    ∙ ap (λ (n : ℕ). a ∷ front ++ within n rest) left

-- the last one, where all of them are too many
pub within-push : (bytes : ℕ) (answers : List Answer) (a : Answer) → bytes < bytes_of (answers ++ a ∷ [])
    → within bytes (answers ++ a ∷ []) ≡ within bytes answers
within-push bytes [] a more = within-full bytes a [] (let alone = bytes-cons a [] in omega (arith, alone, more))
within-push bytes (x ∷ answers) a more = by_size (cases_lt bytes (size_of x)) (within-push (bytes - size_of x) answers a)
  where
    by_size : (bytes < size_of x) ⊎ (size_of x ≤ bytes)
        → (bytes - size_of x < bytes_of (answers ++ a ∷ []) → within (bytes - size_of x) (answers ++ a ∷ []) ≡ within (bytes - size_of x) answers)
        → within bytes (x ∷ answers ++ a ∷ []) ≡ within bytes (x ∷ answers)
    by_size (inl large) others = within-full bytes x (answers ++ a ∷ []) large ∙ sym (within-full bytes x answers large)
    by_size (inr fits) others =
        let parts = bytes-cons x (answers ++ a ∷ []) in
        within-fits bytes x (answers ++ a ∷ []) fits
        ∙ ap (λ (xs : List Answer). x ∷ xs) (others (omega (arith, parts, more, fits)))
        ∙ sym (within-fits bytes x answers fits)

pub bytes-within : (bytes : ℕ) (answers : List Answer) → bytes_of (within bytes answers) ≤ bytes
bytes-within bytes [] = omega arith
bytes-within bytes (a ∷ answers) = by_size (cases_lt bytes (size_of a)) (bytes-within (bytes - size_of a) answers)
  where
    by_size : (bytes < size_of a) ⊎ (size_of a ≤ bytes) → bytes_of (within (bytes - size_of a) answers) ≤ bytes - size_of a
        → bytes_of (within bytes (a ∷ answers)) ≤ bytes
    by_size (inl large) others = subst (λ (xs : List Answer). bytes_of xs ≤ bytes) (sym (within-full bytes a answers large)) (omega arith)
    by_size (inr fits) others =
        let parts = bytes-cons a (within (bytes - size_of a) answers) in
        subst (λ (xs : List Answer). bytes_of xs ≤ bytes) (sym (within-fits bytes a answers fits)) (omega (arith, parts, others, fits))

length-within : (bytes : ℕ) (answers : List Answer) → length (within bytes answers) ≤ length answers
length-within bytes [] = omega arith
length-within bytes (a ∷ answers) = by_test (nat_le (size_of a) bytes) (length-within (bytes - size_of a) answers)
  where
    by_test : (b : Bool) → length (within (bytes - size_of a) answers) ≤ length answers
        → length (cond b (a ∷ within (bytes - size_of a) answers) []) ≤ length (a ∷ answers)
    by_test true h = omega (arith, h)
    by_test false h = omega arith

-- ---- beside a new one

pub bytes-filter : (p : Answer → Bool) (answers : List Answer) → bytes_of (filter p answers) ≤ bytes_of answers
bytes-filter p answers = omega (arith, sum_by-filter_both p (λ a. not (p a)) (λ _. refl) size_of answers)

pub few_kept : (answers : List Answer) (a : Answer) → length (after_keep answers a) ≤ 1024
few_kept answers a =
    let all = a ∷ filter (is_recent a.moment) answers in
    omega (arith, length-within 4194304 (take 1024 all), length-take 1024 all)
