-- How an answer ends.
use Rattle.std.proofs.Common.{◌≡◌, ℕ, ◌+◌, ◌-◌, ◌<◌, List, [], ◌∷◌, ◌++◌, length, take, Bool, true, false}
use Rattle.std.proofs.Common.{◌&&◌, ◌||◌, not, cond, inl, inr, ◌⊎◌, suc, zero, codes, refl, sym, ◌∙◌, ap}
use Rattle.std.proofs.Common.{subst, append_assoc, arith, length-append, nat_eq, Option, Some, None, Result, Ok, Err, OnOk, is_ok}
use Rattle.std.specs.Prelude.{◌==◌}
use Rattle.std.specs.List.{ends_with, list_any}
use Rattle.std.specs.Str.{bytes_eq}
use Rattle.std.proofs.lemmas.Bool.{and_parts, and_from, or_cases, not-true, eqb-true}
use Rattle.std.proofs.lemmas.Bool.Decides.{Decides-eqb}
use Rattle.std.proofs.lemmas.Slice.Eq.{bytes_eq-Decides, ends_is}
use Rattle.std.proofs.lemmas.List.Folds.{list_all-append}
use Rattle.chpw_rules.specs.Limits.{range, is_in}
use Rattle.chpw_printing.specs.Quoting.{are_printed, is_field, words_text}
use Rattle.chpw_printing.proofs.QuotingLemmas.{graphic_printed}
use Rattle.chpw_control.specs.declared.status.KdcState.{KdcState}
use Rattle.chpw_control.specs.declared.status.KdcState.TheVariants.{Absent, Connected, Down}
use Rattle.chpw_control.specs.declared.status.NameState.{NameState}
use Rattle.chpw_control.specs.declared.status.NameState.TheVariants as name
use Rattle.chpw_control.specs.declared.time.Time.{Time}
use Rattle.chpw_control.specs.Statuses.{kdc_word, name_word, quiet_words, row}
use Rattle.chpw_control.specs.Answers.{lines_text, ok_line, error_line, ended_ok}
use Rattle.chpw_control.specs.Dialogs.{is_newline, is_whole}
use Rattle.chpw_control.specs.Endings.{is_line, are_lines, EndsWell, CutOff, EndsBadly}
use Rattle.chpw_control.proofs.AnswerLemmas.{lines_append}
use Rattle.chpw_control.proofs.LineLemmas.{whole_append}

-- with a newline thought before it, the text ends with a newline, `ok` and a newline
abbrev HasOk : List ℕ → Type 0
HasOk text = (front : List ℕ) × (10 ∷ text ≡ front ++ 10 ∷ codes "ok\n")

has_ok : (text : List ℕ) → ended_ok text ≡ true → HasOk text
has_ok text h = by_case (or_cases (bytes_eq text (codes "ok\n")) (ends_with nat_eq text (codes "\nok\n")) h)
  where
    by_case : (bytes_eq text (codes "ok\n") ≡ true) ⊎ (ends_with nat_eq text (codes "\nok\n") ≡ true) → HasOk text
    by_case (inl e) = ([], ap (λ (xs : List ℕ). 10 ∷ xs) ((bytes_eq-Decides text (codes "ok\n")).0 e))
    by_case (inr e) =
        let front = take (length text - 4) text in
        (10 ∷ front, ap (λ (xs : List ℕ). 10 ∷ xs) ((ends_is Decides-eqb text (codes "\nok\n") (ends_with nat_eq text (codes "\nok\n")) refl).0 e))

-- the first newline is the one that it is, or one comes behind it
first_newline : (line rest front back : List ℕ) → is_whole line ≡ false → line ++ 10 ∷ rest ≡ front ++ 10 ∷ back
    → ((front ≡ line) × (back ≡ rest)) ⊎ ((between : List ℕ) × (rest ≡ between ++ 10 ∷ back))
first_newline [] rest [] back h e = inl (refl, cc)
first_newline [] rest (x ∷ front) back h e = inr (front, cc)
first_newline (x ∷ line) rest [] back h e = absurd (let is : x ≡ 10 = cc in
    let f : is_whole (10 ∷ line) ≡ false = subst (λ (y : ℕ). is_whole (y ∷ line) ≡ false) is h in cc)
first_newline (x ∷ line) rest (y ∷ front) back h e = further (first_newline line rest front back (behind (is_newline x) h) cc)
  where
    behind : (b : Bool) → (b || is_whole line) ≡ false → is_whole line ≡ false
    behind true g = absurd (cc)
    behind false g = g

    same : x ≡ y
    same = cc

    further : ((front ≡ line) × (back ≡ rest)) ⊎ ((between : List ℕ) × (rest ≡ between ++ 10 ∷ back))
        → ((y ∷ front ≡ x ∷ line) × (back ≡ rest)) ⊎ ((between : List ℕ) × (rest ≡ between ++ 10 ∷ back))
    further (inl found) = inl (ap (λ (z : ℕ). z ∷ front) (sym same) ∙ ap (λ (zs : List ℕ). x ∷ zs) found.0, found.1)
    further (inr found) = inr found

not_empty : (between back : List ℕ) → [] ≡ between ++ 10 ∷ back → ⊥
not_empty [] back e = cc
not_empty (x ∷ between) back e = cc

-- one line has no `ok` behind it
one_line : (line : List ℕ) → is_whole line ≡ false → HasOk line → ⊥
one_line line h has = by_case (first_newline [] line has.0 (codes "ok\n") refl has.1)
  where
    with_newline : (front : List ℕ) → line ≡ front ++ codes "\nok\n" → ⊥
    with_newline front e =
        let all : is_whole (front ++ codes "\nok\n") ≡ false = subst (λ (xs : List ℕ). is_whole xs ≡ false) e h in
        or_true (is_whole front) (sym (whole_append front (codes "\nok\n")) ∙ all)
      where
        or_true : (b : Bool) → (b || true) ≡ false → ⊥
        or_true true g = cc
        or_true false g = cc

    by_case : ((has.0 ≡ []) × (codes "ok\n" ≡ line)) ⊎ ((between : List ℕ) × (line ≡ between ++ 10 ∷ codes "ok\n")) → ⊥
    by_case (inl found) =
        let f : is_whole (codes "ok\n") ≡ false = subst (λ (xs : List ℕ). is_whole xs ≡ false) (sym found.1) h in cc
    by_case (inr found) = with_newline found.0 found.1

-- a line, and what comes behind it
after_line : (line rest : List ℕ) → is_whole line ≡ false → HasOk (line ++ 10 ∷ rest) → ((line ≡ codes "ok") × (rest ≡ [])) ⊎ HasOk rest
after_line line rest h has = by_case (first_newline [] (line ++ 10 ∷ rest) has.0 (codes "ok\n") refl has.1)
  where
    by_first : ((line ≡ codes "ok") × (rest ≡ [])) ⊎ ((between : List ℕ) × ([] ≡ between ++ 10 ∷ rest)) → ((line ≡ codes "ok") × (rest ≡ [])) ⊎ HasOk rest
    by_first (inl found) = inl found
    by_first (inr found) = absurd (not_empty found.0 rest found.1)

    by_later : (between : List ℕ) → ((between ≡ line) × (codes "ok\n" ≡ rest)) ⊎ ((later : List ℕ) × (rest ≡ later ++ 10 ∷ codes "ok\n")) → HasOk rest
    by_later between (inl found) = ([], ap (λ (xs : List ℕ). 10 ∷ xs) (sym found.1))
    by_later between (inr found) = (10 ∷ found.0, ap (λ (xs : List ℕ). 10 ∷ xs) found.1)

    by_case : ((has.0 ≡ []) × (codes "ok\n" ≡ line ++ 10 ∷ rest)) ⊎ ((between : List ℕ) × (line ++ 10 ∷ rest ≡ between ++ 10 ∷ codes "ok\n"))
        → ((line ≡ codes "ok") × (rest ≡ [])) ⊎ HasOk rest
    by_case (inl found) = by_first (first_newline (codes "ok") [] line rest refl found.1)
    by_case (inr found) = inr (by_later found.0 (first_newline line rest found.0 (codes "ok\n") h found.1))

-- ---- a beginning of a line and what comes behind it

whole_take : (n : ℕ) (line : List ℕ) → is_whole line ≡ false → is_whole (take n line) ≡ false
whole_take zero line h = refl
whole_take (suc n) [] h = refl
whole_take (suc n) (x ∷ line) h = by_byte (is_newline x) h (whole_take n line)
  where
    by_byte : (b : Bool) → (b || is_whole line) ≡ false → (is_whole line ≡ false → is_whole (take n line) ≡ false) → (b || is_whole (take n line)) ≡ false
    by_byte true g more = absurd (cc)
    by_byte false g more = more g

take_line : (n : ℕ) (line rest : List ℕ)
    → (take n (line ++ 10 ∷ rest) ≡ take n line) ⊎ ((k : ℕ) × (n ≡ length line + suc k) × (take n (line ++ 10 ∷ rest) ≡ line ++ 10 ∷ take k rest))
take_line zero line rest = inl refl
take_line (suc n) [] rest = inr (n, omega arith, refl)
take_line (suc n) (x ∷ line) rest = further (take_line n line rest)
  where
    further : (take n (line ++ 10 ∷ rest) ≡ take n line) ⊎ ((k : ℕ) × (n ≡ length line + suc k) × (take n (line ++ 10 ∷ rest) ≡ line ++ 10 ∷ take k rest))
        → (x ∷ take n (line ++ 10 ∷ rest) ≡ x ∷ take n line)
        ⊎ ((k : ℕ) × (suc n ≡ suc (length line) + suc k) × (x ∷ take n (line ++ 10 ∷ rest) ≡ x ∷ (line ++ 10 ∷ take k rest)))
    further (inl e) = inl (ap (λ (xs : List ℕ). x ∷ xs) e)
    further (inr found) = inr (found.0, omega (arith, found.1), ap (λ (xs : List ℕ). x ∷ xs) found.2)

line_parts : (line : List ℕ) → is_line line ≡ true → (is_whole line ≡ false) × (line ≡ codes "ok" → ⊥)
line_parts line h =
    let parts = and_parts (not (is_whole line)) (not (bytes_eq line (codes "ok"))) h in (
      not-true (is_whole line) parts.0,
      λ e. let same = (bytes_eq-Decides line (codes "ok")).1 e in
          let other = not-true (bytes_eq line (codes "ok")) parts.1 in both same other,
    )
  where
    both : bytes_eq line (codes "ok") ≡ true → bytes_eq line (codes "ok") ≡ false → ⊥
    both e f = cc

-- of lines none of which is `ok` no beginning ends so
no_ok : (lines : List (List ℕ)) (n : ℕ) → are_lines lines ≡ true → HasOk (take n (lines_text lines)) → ⊥
no_ok [] n h has = one_line (take n []) (whole_take n [] refl) has
no_ok (line ∷ lines) n h has = by_case (take_line n line (lines_text lines)) (no_ok lines)
  where
    parts : (is_line line ≡ true) × (are_lines lines ≡ true)
    parts = and_parts (is_line line) (are_lines lines) h

    of_line : (is_whole line ≡ false) × (line ≡ codes "ok" → ⊥)
    of_line = line_parts line parts.0

    by_after : (k : ℕ) → ((m : ℕ) → are_lines lines ≡ true → HasOk (take m (lines_text lines)) → ⊥)
        → ((line ≡ codes "ok") × (take k (lines_text lines) ≡ [])) ⊎ HasOk (take k (lines_text lines)) → ⊥
    by_after k more (inl found) = of_line.1 found.0
    by_after k more (inr found) = more k parts.1 found

    by_case : (take n (line ++ 10 ∷ lines_text lines) ≡ take n line)
        ⊎ ((k : ℕ) × (n ≡ length line + suc k) × (take n (line ++ 10 ∷ lines_text lines) ≡ line ++ 10 ∷ take k (lines_text lines)))
        → ((m : ℕ) → are_lines lines ≡ true → HasOk (take m (lines_text lines)) → ⊥) → ⊥
    by_case (inl e) more = one_line (take n line) (whole_take n line of_line.0) (subst HasOk e has)
    by_case (inr found) more =
        by_after found.0 more (after_line line (take found.0 (lines_text lines)) of_line.0 (subst HasOk found.2 has))

-- lines and `ok`, cut off
no_whole_ok : (lines : List (List ℕ)) (n : ℕ) → are_lines lines ≡ true → n < length (lines_text (lines ++ ok_line ∷ []))
    → HasOk (take n (lines_text (lines ++ ok_line ∷ []))) → ⊥
no_whole_ok [] n h less has = by_case (take_line n ok_line [])
  where
    by_case : (take n (ok_line ++ 10 ∷ []) ≡ take n ok_line)
        ⊎ ((k : ℕ) × (n ≡ length ok_line + suc k) × (take n (ok_line ++ 10 ∷ []) ≡ ok_line ++ 10 ∷ take k [])) → ⊥
    by_case (inl e) = one_line (take n ok_line) (whole_take n ok_line refl) (subst HasOk e has)
    by_case (inr found) = absurd (let e : n ≡ 2 + suc found.0 = found.1 in let l : n < 3 = less in omega arith)
no_whole_ok (line ∷ lines) n h less has = by_case (take_line n line (lines_text (lines ++ ok_line ∷ []))) (no_whole_ok lines)
  where
    rest : List ℕ
    rest = lines_text (lines ++ ok_line ∷ [])

    parts : (is_line line ≡ true) × (are_lines lines ≡ true)
    parts = and_parts (is_line line) (are_lines lines) h

    of_line : (is_whole line ≡ false) × (line ≡ codes "ok" → ⊥)
    of_line = line_parts line parts.0

    by_after : (k : ℕ) → k < length rest → ((m : ℕ) → are_lines lines ≡ true → m < length rest → HasOk (take m rest) → ⊥)
        → ((line ≡ codes "ok") × (take k rest ≡ [])) ⊎ HasOk (take k rest) → ⊥
    by_after k l more (inl found) = of_line.1 found.0
    by_after k l more (inr found) = more k parts.1 l found

    by_case : (take n (line ++ 10 ∷ rest) ≡ take n line)
        ⊎ ((k : ℕ) × (n ≡ length line + suc k) × (take n (line ++ 10 ∷ rest) ≡ line ++ 10 ∷ take k rest))
        → ((m : ℕ) → are_lines lines ≡ true → m < length rest → HasOk (take m rest) → ⊥) → ⊥
    by_case (inl e) more = one_line (take n line) (whole_take n line of_line.0) (subst HasOk e has)
    by_case (inr found) more =
        let l : found.0 < length rest = omega (arith, found.1, less, length-append line (10 ∷ rest)) in
        by_after found.0 l more (after_line line (take found.0 rest) of_line.0 (subst HasOk found.2 has))

-- ---- the laws

not_ok : (text : List ℕ) → (HasOk text → ⊥) → ended_ok text ≡ false
not_ok text h = by_test (ended_ok text) refl
  where
    by_test : (b : Bool) → ended_ok text ≡ b → ended_ok text ≡ false
    by_test true e = absurd (h (has_ok text e))
    by_test false e = e

pub cut_off : CutOff
cut_off lines n h less = not_ok (take n (lines_text (lines ++ ok_line ∷ []))) (no_whole_ok lines n h less)

pub printed_line : (text : List ℕ) → are_printed text ≡ true → is_whole text ≡ false
printed_line [] h = refl
printed_line (x ∷ text) h =
    let parts = and_parts (is_in (range 0x20 0x7e) x) (are_printed text) h in
    by_byte (is_newline x) refl (printed_line text parts.1) parts.0
  where
    by_byte : (b : Bool) → is_newline x ≡ b → is_whole text ≡ false → is_in (range 0x20 0x7e) x ≡ true → is_whole (x ∷ text) ≡ false
    by_byte true e more in_it = absurd (let is : x ≡ 10 = eqb-true x 10 e in
        let f : is_in (range 0x20 0x7e) 10 ≡ true = subst (λ (y : ℕ). is_in (range 0x20 0x7e) y ≡ true) is in_it in cc)
    by_byte false e more in_it = ap (λ (b : Bool). b || is_whole text) e ∙ more

error_is_line : (words : List ℕ) → are_printed (words_text words) ≡ true → is_line (error_line words) ≡ true
error_is_line words h = ap (λ (b : Bool). not b && true) (printed_line (words_text words) h)

pub ends_badly : EndsBadly
ends_badly lines words n h printed =
    not_ok (take n (lines_text (lines ++ error_line words ∷ [])))
    (no_ok (lines ++ error_line words ∷ []) n
    (list_all-append is_line lines (error_line words ∷ []) ∙ and_from _ _ h (and_from _ _ (error_is_line words printed) refl)))

-- what ends with a newline, `ok` and a newline
ends_so : (front : List ℕ) → ends_with nat_eq (front ++ codes "\nok\n") (codes "\nok\n") ≡ true
ends_so front = (ends_is Decides-eqb (front ++ codes "\nok\n") (codes "\nok\n") (ends_with nat_eq (front ++ codes "\nok\n") (codes "\nok\n")) refl).1 front refl

or_so : (a b : Bool) → b ≡ true → (a || b) ≡ true
or_so true b h = refl
or_so false b h = h

-- lines that are some end with a newline
some_lines : (line : List ℕ) (lines : List (List ℕ)) → (front : List ℕ) × (lines_text (line ∷ lines) ≡ front ++ 10 ∷ [])
some_lines line [] = (line, refl)
some_lines line (next ∷ lines) =
    let more = some_lines next lines in
    (line ++ 10 ∷ more.0, ap (λ (xs : List ℕ). line ++ 10 ∷ xs) more.1 ∙ sym (append_assoc line (10 ∷ more.0) (10 ∷ [])))

pub ends_well : EndsWell
ends_well [] = refl
ends_well (line ∷ lines) =
    let all = some_lines line lines in
    let text = lines_text ((line ∷ lines) ++ ok_line ∷ []) in
    let is : text ≡ all.0 ++ codes "\nok\n" =
    lines_append (line ∷ lines) (ok_line ∷ []) ∙ ap (λ (xs : List ℕ). xs ++ codes "ok\n") all.1 ∙ append_assoc all.0 (10 ∷ []) (codes "ok\n") in
    subst (λ (xs : List ℕ). ended_ok xs ≡ true) (sym is)
    (or_so (bytes_eq (all.0 ++ codes "\nok\n") (codes "ok\n")) (ends_with nat_eq (all.0 ++ codes "\nok\n") (codes "\nok\n")) (ends_so all.0))

-- ---- the lines of a status

pub field_plain : (text : List ℕ) → is_field text ≡ true → is_whole text ≡ false
field_plain text h = printed_line text (graphic_printed text (and_parts _ _ h).1)

-- what has a space isn't `ok`
has_space : (name value : List ℕ) → list_any (λ (byte : ℕ). byte == 32) (name ++ 32 ∷ value) ≡ true
has_space [] value = refl
has_space (x ∷ name) value = or_so (x == 32) (list_any (λ (byte : ℕ). byte == 32) (name ++ 32 ∷ value)) (has_space name value)

no_ok_line : (name value : List ℕ) → bytes_eq (name ++ 32 ∷ value) (codes "ok") ≡ false
no_ok_line name value = by_test (bytes_eq (name ++ 32 ∷ value) (codes "ok")) refl
  where
    by_test : (b : Bool) → bytes_eq (name ++ 32 ∷ value) (codes "ok") ≡ b → bytes_eq (name ++ 32 ∷ value) (codes "ok") ≡ false
    by_test true e =
        let same = (bytes_eq-Decides (name ++ 32 ∷ value) (codes "ok")).0 e in
        absurd (let f : list_any (λ (byte : ℕ). byte == 32) (codes "ok") ≡ true = subst (λ (xs : List ℕ).
        list_any (λ (byte : ℕ). byte == 32) xs ≡ true) same (has_space name value) in cc)
    by_test false e = e

row_plain : (name value : List ℕ) → is_whole name ≡ false → is_whole value ≡ false → is_whole (name ++ 32 ∷ value) ≡ false
row_plain name value h k = whole_append name (32 ∷ value) ∙ ap (λ (b : Bool). b || is_whole value) h ∙ k

row_line : (name value : List ℕ) → is_whole name ≡ false → is_whole value ≡ false → is_line (row name value) ≡ true
row_line name value h k =
    let same : row name value ≡ name ++ 32 ∷ value = append_assoc name (32 ∷ []) value in
    subst (λ (xs : List ℕ). is_line xs ≡ true) (sym same)
    (and_from _ _ (ap not (row_plain name value h k)) (ap not (no_ok_line name value)))

pub and_line : (name value : List ℕ) (more : List (List ℕ)) → is_whole name ≡ false → is_whole value ≡ false → are_lines more ≡ true
    → are_lines (row name value ∷ more) ≡ true
and_line name value more h k rest = and_from _ _ (row_line name value h k) rest

pub and_lines : (lines more : List (List ℕ)) → are_lines lines ≡ true → are_lines more ≡ true → are_lines (lines ++ more) ≡ true
and_lines lines more h k = list_all-append is_line lines more ∙ and_from _ _ h k

pub name_plain : (state : NameState) → is_whole (name_word state) ≡ false
name_plain name.Absent = refl
name_plain name.Kept = refl
name_plain name.Gone = refl
name_plain name.Elsewhere = refl

pub quiet_plain : (until : Option Time) → is_whole (quiet_words until) ≡ false
quiet_plain None = refl
quiet_plain (Some until) = refl

pub kdc_plain : (kdc : KdcState) → is_whole (kdc_word kdc) ≡ false
kdc_plain Absent = refl
kdc_plain Connected = refl
kdc_plain Down = refl

-- ---- what could be put

pub always : {E : Type 0} {P : Type 0} (result : Result Unit E) → P → OnOk result P
always (Ok done) p = p
always (Err fault) p = tt

pub on_ok : {E : Type 0} {P Q : Type 0} (result : Result Unit E) → OnOk result P → (P → Q) → OnOk result Q
on_ok (Ok done) p f = f p
on_ok (Err fault) p f = tt

pub put_so : {E : Type 0} (result : Result Unit E) (new old words : List ℕ) → new ≡ cond (is_ok result) (old ++ words) old → OnOk result (new ≡ old ++ words)
put_so (Ok done) new old words h = h
put_so (Err fault) new old words h = tt
