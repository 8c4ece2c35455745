-- The line among the bytes that came, and the names of files.
use Rattle.std.proofs.Common.{◌≡◌, ℕ, ◌+◌, ◌<◌, ◌≤◌, List, [], ◌∷◌, ◌++◌, length, Bool, true}
use Rattle.std.proofs.Common.{false, ◌&&◌, ◌||◌, not, cond, nat_le, nat_lt, Some, None, Result}
use Rattle.std.proofs.Common.{Err, suc, inl, inr, length-append, refl, sym, ◌∙◌, ap, arith}
use Rattle.std.specs.Prelude.{◌==◌}
use Rattle.std.specs.List.{list_any}
use Rattle.std.specs.Str.{IsUtf8, is_utf8}
use Rattle.std.proofs.lemmas.Str.{IsUtf8-from_is_utf8, is_utf8-from_IsUtf8}
use Rattle.std.proofs.lemmas.List.Sums.{take_while-cons}
use Rattle.std.proofs.lemmas.Bool.{and_from, and_parts, le-leb, leb-true, leb-false, lt-leb, eqb-true, not-true}
use Rattle.chpw_control.specs.declared.fault.ControlFault.{ControlFault}
use Rattle.chpw_control.specs.declared.fault.ControlFault.TheVariants.{LineTooLong}
use Rattle.chpw_control.specs.Commands.{Command, command_of}
use Rattle.chpw_control.specs.FileNames.{is_file_name}
use Rattle.chpw_control.specs.Dialogs.{is_newline, line_in, is_short, is_whole, goes_on, told_of, State, told_by}
use Rattle.chpw_control.specs.Faults.{UnlessMemory, ToldUnlessMemory}

-- a line by its first byte
line_cons : (byte : ℕ) (bytes : List ℕ) → line_in (byte ∷ bytes) ≡ cond (not (is_newline byte)) (byte ∷ line_in bytes) []
line_cons byte bytes = take_while-cons (λ (x : ℕ). not (is_newline x)) byte bytes

-- behind a whole line nothing counts
pub line_front : (bytes more : List ℕ) → is_whole bytes ≡ true → line_in (bytes ++ more) ≡ line_in bytes
line_front [] more h = absurd (cc)
line_front (byte ∷ bytes) more h = by_byte (is_newline byte) refl (line_front bytes more)
  where
    by_byte : (b : Bool) → is_newline byte ≡ b → (is_whole bytes ≡ true → line_in (bytes ++ more) ≡ line_in bytes)
        → line_in (byte ∷ (bytes ++ more)) ≡ line_in (byte ∷ bytes)
    by_byte true e more_so =
        line_cons byte (bytes ++ more) ∙ ap (λ (b : Bool). cond (not b) (byte ∷ line_in (bytes ++ more)) []) e
        ∙ sym (line_cons byte bytes ∙ ap (λ (b : Bool). cond (not b) (byte ∷ line_in bytes) []) e)
    by_byte false e more_so =
        let rest : is_whole bytes ≡ true = sym (ap (λ (b : Bool). b || is_whole bytes) e) ∙ h in
        line_cons byte (bytes ++ more) ∙ ap (λ (b : Bool). cond (not b) (byte ∷ line_in (bytes ++ more)) []) e
        ∙ ap (λ (xs : List ℕ). byte ∷ xs) (more_so rest)
        ∙ sym (line_cons byte bytes ∙ ap (λ (b : Bool). cond (not b) (byte ∷ line_in bytes) []) e)

-- a line that isn't whole goes on
pub line_on : (bytes more : List ℕ) → is_whole bytes ≡ false → line_in (bytes ++ more) ≡ bytes ++ line_in more
line_on [] more h = refl
line_on (byte ∷ bytes) more h = by_byte (is_newline byte) refl (line_on bytes more)
  where
    by_byte : (b : Bool) → is_newline byte ≡ b
        → (is_whole bytes ≡ false → line_in (bytes ++ more) ≡ bytes ++ line_in more)
        → line_in (byte ∷ (bytes ++ more)) ≡ byte ∷ (bytes ++ line_in more)
    by_byte true e more_so = absurd (let f : true ≡ false = sym (ap (λ (b : Bool). b || is_whole bytes) e) ∙ h in cc)
    by_byte false e more_so =
        let rest : is_whole bytes ≡ false = sym (ap (λ (b : Bool). b || is_whole bytes) e) ∙ h in
        line_cons byte (bytes ++ more) ∙ ap (λ (b : Bool). cond (not b) (byte ∷ line_in (bytes ++ more)) []) e
        ∙ ap (λ (xs : List ℕ). byte ∷ xs) (more_so rest)

-- what isn't whole is all of the line
pub line_all : (bytes : List ℕ) → is_whole bytes ≡ false → line_in bytes ≡ bytes
line_all [] h = refl
line_all (byte ∷ bytes) h = by_byte (is_newline byte) refl (line_all bytes)
  where
    by_byte : (b : Bool) → is_newline byte ≡ b → (is_whole bytes ≡ false → line_in bytes ≡ bytes) → line_in (byte ∷ bytes) ≡ byte ∷ bytes
    by_byte true e more_so = absurd (let f : true ≡ false = sym (ap (λ (b : Bool). b || is_whole bytes) e) ∙ h in cc)
    by_byte false e more_so =
        let rest : is_whole bytes ≡ false = sym (ap (λ (b : Bool). b || is_whole bytes) e) ∙ h in
        line_cons byte bytes ∙ ap (λ (b : Bool). cond (not b) (byte ∷ line_in bytes) []) e
        ∙ ap (λ (xs : List ℕ). byte ∷ xs) (more_so rest)

-- a whole line is shorter than all that came
pub line_less : (bytes : List ℕ) → is_whole bytes ≡ true → length (line_in bytes) < length bytes
line_less [] h = absurd (cc)
line_less (byte ∷ bytes) h = by_byte (is_newline byte) refl (line_less bytes)
  where
    by_byte : (b : Bool) → is_newline byte ≡ b → (is_whole bytes ≡ true → length (line_in bytes) < length bytes)
        → length (line_in (byte ∷ bytes)) < length (byte ∷ bytes)
    by_byte true e more_so =
        let same = ap length (line_cons byte bytes ∙ ap (λ (b : Bool). cond (not b) (byte ∷ line_in bytes) []) e) in
        omega (arith, same)
    by_byte false e more_so =
        let rest : is_whole bytes ≡ true = sym (ap (λ (b : Bool). b || is_whole bytes) e) ∙ h in
        let same = ap length (line_cons byte bytes ∙ ap (λ (b : Bool). cond (not b) (byte ∷ line_in bytes) []) e) in
        omega (arith, same, more_so rest)

-- more with what isn't whole
pub whole_append : (bytes more : List ℕ) → is_whole (bytes ++ more) ≡ (is_whole bytes || is_whole more)
whole_append [] more = refl
whole_append (byte ∷ bytes) more = by_byte (is_newline byte) (whole_append bytes more)
  where
    by_byte : (b : Bool) → is_whole (bytes ++ more) ≡ (is_whole bytes || is_whole more)
        → (b || is_whole (bytes ++ more)) ≡ ((b || is_whole bytes) || is_whole more)
    by_byte true more_so = refl
    by_byte false more_so = more_so

-- ---- the names of files

-- what isn't UTF-8
pub no_utf8 : (name : List ℕ) → ¬ (IsUtf8 name) → is_utf8 name ≡ false
no_utf8 name h = by_test (is_utf8 name) refl
  where
    by_test : (b : Bool) → is_utf8 name ≡ b → b ≡ false
    by_test true e = absurd (h (IsUtf8-from_is_utf8 name e))
    by_test false e = refl

-- a name, and why there is none
pub named : (name : List ℕ) → (length name == 0) ≡ false → list_any (λ (b : ℕ). b == 0) name ≡ false → IsUtf8 name → is_file_name name ≡ true
named [] some plain text = absurd (cc)
named (x ∷ xs) some plain text =
    let long : nat_lt 0 (length (x ∷ xs)) ≡ true = le-leb 1 (suc (length xs)) (omega arith) in
    and_from _ _ (and_from _ _ long (is_utf8-from_IsUtf8 (x ∷ xs) text)) (ap not plain)

pub unnamed : (name : List ℕ) → ¬ (IsUtf8 name) → is_file_name name ≡ false
unnamed name h = by_tests (nat_lt 0 (length name)) (is_utf8 name) (no_utf8 name h)
  where
    by_tests : (a b : Bool) → b ≡ false → (a && b && not (list_any (λ (x : ℕ). x == 0) name)) ≡ false
    by_tests false b h = refl
    by_tests true true h = absurd (cc)
    by_tests true false h = refl

-- ---- what is told of a line that went on, and of what came behind it

-- a line that goes on is all that came
pub held_open : (heard : List ℕ) → goes_on heard ≡ true → is_whole heard ≡ false
held_open heard h = not-true (is_whole heard) (and_parts (is_short heard) (not (is_whole heard)) h).1

pub held_short : (heard : List ℕ) → goes_on heard ≡ true → length heard ≤ 4200
held_short heard h =
    let short = (and_parts (is_short heard) (not (is_whole heard)) h).0 in
    let some : length (line_in heard) ≤ 4200 = leb-true (length (line_in heard)) 4200 short in
    omega (arith, some, ap length (line_all heard (held_open heard h)))

short_so : (heard bytes : List ℕ) → goes_on heard ≡ true → length heard + length (line_in bytes) ≤ 4200 → is_short (heard ++ bytes) ≡ true
short_so heard bytes h few =
    let same = ap length (line_on heard bytes (held_open heard h)) in
    le-leb (length (line_in (heard ++ bytes))) 4200 (omega (arith, same, length-append heard (line_in bytes)))

whole_so : (heard bytes : List ℕ) → goes_on heard ≡ true → is_whole (heard ++ bytes) ≡ is_whole bytes
whole_so heard bytes h = whole_append heard bytes ∙ ap (λ (b : Bool). b || is_whole bytes) (held_open heard h)

pub told_line : (heard bytes line : List ℕ) → goes_on heard ≡ true → line ≡ line_in bytes → is_whole bytes ≡ true
    → length heard + length line ≤ 4200 → told_of (heard ++ bytes) ≡ Some (command_of (heard ++ line))
told_line heard bytes line h is whole few =
    let same : line_in (heard ++ bytes) ≡ heard ++ line = line_on heard bytes (held_open heard h) ∙ ap (λ (xs : List ℕ). heard ++ xs) (sym is) in
    let short : is_short (heard ++ bytes) ≡ true = short_so heard bytes h (omega (arith, few, ap length is)) in
    ap (λ (b : Bool). cond (not b) (Some (Err LineTooLong)) (cond (is_whole (heard ++ bytes)) (Some (command_of (line_in (heard ++ bytes)))) None)) short
    ∙ ap (λ (b : Bool). cond b (Some (command_of (line_in (heard ++ bytes)))) None) (whole_so heard bytes h ∙ whole)
    ∙ ap (λ (xs : List ℕ). Some (command_of xs)) same

pub goes_further : (heard bytes : List ℕ) → goes_on heard ≡ true → is_whole bytes ≡ false → length heard + length bytes ≤ 4200
    → goes_on (heard ++ bytes) ≡ true
goes_further heard bytes h unfinished few =
    and_from _ _ (short_so heard bytes h (omega (arith, few, ap length (line_all bytes unfinished)))) (ap not (whole_so heard bytes h ∙ unfinished))

pub told_long : (heard bytes : List ℕ) → goes_on heard ≡ true → 4200 < length heard + length (line_in bytes)
    → told_of (heard ++ bytes) ≡ Some (Err LineTooLong)
told_long heard bytes h many =
    let same = ap length (line_on heard bytes (held_open heard h)) in
    let long : is_short (heard ++ bytes) ≡ false = lt-leb (length (line_in (heard ++ bytes))) 4200
    (omega (arith, same, many, length-append heard (line_in bytes))) in
    ap (λ (b : Bool). cond (not b) (Some (Err LineTooLong)) (cond (is_whole (heard ++ bytes)) (Some (command_of (line_in (heard ++ bytes)))) None)) long

-- a line that goes on is told nothing of
pub told_none : (bytes : List ℕ) → goes_on bytes ≡ true → told_of bytes ≡ None
told_none bytes h =
    let parts = and_parts (is_short bytes) (not (is_whole bytes)) h in
    ap (λ (b : Bool). cond (not b) (Some (Err LineTooLong)) (cond (is_whole bytes) (Some (command_of (line_in bytes))) None)) parts.0
    ∙ ap (λ (b : Bool). cond b (Some (command_of (line_in bytes))) None) (held_open bytes h)

-- ---- what a piece is, by its length

pub piece_whole : (bytes : List ℕ) → length (line_in bytes) < length bytes → is_whole bytes ≡ true
piece_whole bytes less = by_test (is_whole bytes) refl
  where
    by_test : (b : Bool) → is_whole bytes ≡ b → b ≡ true
    by_test true e = refl
    by_test false e = absurd (omega (arith, less, ap length (line_all bytes e)))

pub piece_more : (bytes : List ℕ) → length bytes ≤ length (line_in bytes) → (is_whole bytes ≡ false) × (line_in bytes ≡ bytes)
piece_more bytes most = by_test (is_whole bytes) refl
  where
    by_test : (b : Bool) → is_whole bytes ≡ b → (is_whole bytes ≡ false) × (line_in bytes ≡ bytes)
    by_test true e = absurd (omega (arith, most, line_less bytes e))
    by_test false e = (e, line_all bytes e)

-- ---- what is told, unless memory ran out

pub told_unless : (state : State) (heard bytes : List ℕ) (result defined : Result Command ControlFault) → state ≡ Some heard
    → told_of (heard ++ bytes) ≡ Some defined → UnlessMemory result defined → ToldUnlessMemory (Some result) (told_by state bytes)
told_unless state heard bytes result defined is told (inl memory) = inl (ap (λ (r : Result Command ControlFault). Some r) memory)
told_unless state heard bytes result defined is told (inr as_defined) =
    inr (ap (λ (r : Result Command ControlFault). Some r) as_defined ∙ sym told ∙ ap (λ (s : State). told_by s bytes) (sym is))

-- ---- the first line, and what stands behind it

pub line_split : (bytes : List ℕ) → is_whole bytes ≡ true → (rest : List ℕ) × (bytes ≡ line_in bytes ++ 10 ∷ rest) × (is_whole (line_in bytes) ≡ false)
line_split [] h = absurd (cc)
line_split (byte ∷ bytes) h = by_byte (is_newline byte) refl (line_split bytes)
  where
    by_byte : (b : Bool) → is_newline byte ≡ b
        → (is_whole bytes ≡ true → (rest : List ℕ) × (bytes ≡ line_in bytes ++ 10 ∷ rest) × (is_whole (line_in bytes) ≡ false))
        → (rest : List ℕ) × (byte ∷ bytes ≡ line_in (byte ∷ bytes) ++ 10 ∷ rest) × (is_whole (line_in (byte ∷ bytes)) ≡ false)
    by_byte true e more_so =
        let same : line_in (byte ∷ bytes) ≡ [] = line_cons byte bytes ∙ ap (λ (b : Bool). cond (not b) (byte ∷ line_in bytes) []) e in
        (bytes, ap (λ (x : ℕ). x ∷ bytes) (eqb-true byte 10 e) ∙ ap (λ (xs : List ℕ). xs ++ 10 ∷ bytes) (sym same), ap is_whole same)
    by_byte false e more_so =
        let same : line_in (byte ∷ bytes) ≡ byte ∷ line_in bytes = line_cons byte bytes ∙ ap (λ (b : Bool). cond (not b) (byte ∷ line_in bytes) []) e in
        let rest : is_whole bytes ≡ true = sym (ap (λ (b : Bool). b || is_whole bytes) e) ∙ h in
        let further = more_so rest in (
          further.0,
          ap (λ (xs : List ℕ). byte ∷ xs) further.1 ∙ ap (λ (xs : List ℕ). xs ++ 10 ∷ further.0) (sym same),
          ap is_whole same ∙ ap (λ (b : Bool). b || is_whole (line_in bytes)) e ∙ further.2,
        )

and_true : (b : Bool) → (b && true) ≡ b
and_true true = refl
and_true false = refl

-- ---- what was told stays so, whatever comes behind it

pub settled : (bytes more : List ℕ) → goes_on bytes ≡ false → told_of (bytes ++ more) ≡ told_of bytes
settled bytes more h = by_test (is_whole bytes) refl
  where
    by_test : (b : Bool) → is_whole bytes ≡ b → told_of (bytes ++ more) ≡ told_of bytes
    by_test true e =
        let same = line_front bytes more e in
        let whole : is_whole (bytes ++ more) ≡ is_whole bytes = whole_append bytes more ∙ ap (λ (b : Bool). b || is_whole more) e ∙ sym e in
        ap (λ (xs : List ℕ). cond (not (nat_le (length xs) 4200)) (Some (Err LineTooLong)) (cond (is_whole (bytes ++ more)) (Some (command_of xs)) None)) same
        ∙ ap (λ (b : Bool). cond (not (is_short bytes)) (Some (Err LineTooLong)) (cond b (Some (command_of (line_in bytes))) None)) whole
    by_test false e =
        let long : is_short bytes ≡ false = sym (and_true (is_short bytes)) ∙ ap (λ (b : Bool). is_short bytes && not b) (sym e) ∙ h in
        let many : 4200 < length (line_in bytes) = leb-false (length (line_in bytes)) 4200 long in
        let more_still : is_short (bytes ++ more) ≡ false =
        lt-leb (length (line_in (bytes ++ more))) 4200
        (omega (arith, many, ap length (line_all bytes e), ap length (line_on bytes more e), length-append bytes (line_in more))) in
        ap (λ (b : Bool). cond (not b) (Some (Err LineTooLong)) (cond (is_whole (bytes ++ more)) (Some (command_of (line_in (bytes ++ more)))) None)) more_still
        ∙ sym (ap (λ (b : Bool). cond (not b) (Some (Err LineTooLong)) (cond (is_whole bytes) (Some (command_of (line_in bytes))) None)) long)
