-- What is read is spelled so.
use Rattle.std.proofs.Common.{◌≡◌, ℕ, zero, suc, ◌-◌, ◌+◌, ◌≤◌, ◌<◌, ◌||◌, true, false, cond, List, []}
use Rattle.std.proofs.Common.{◌∷◌, ◌++◌, Option, Some, None, Result, Ok, Err, refl, sym, ap, subst}
use Rattle.std.proofs.Common.{◌∙◌, append_assoc, arith, length, take, drop, ltb, leb, eqb, inl, inr}
use Rattle.std.specs.Prelude.{IfOk}
use Rattle.std.proofs.lemmas.Bool.{and_parts, eqb-true, eqb-false, ltb-false, ltb-true, leb-true, or_parts}
use Rattle.std.proofs.lemmas.List.{take-append-drop, length-append, length-take, append-nil, nil_from_length}
use Rattle.krb_codec.specs.declared.fault.DerFault.{DerFault}
use Rattle.krb_codec.specs.declared.fault.ReadError.{ReadError}
use Rattle.krb_codec.specs.Shapes.{Primitive, integer, sequence_number, octets, bits, time, Shape, primitive}
use Rattle.krb_codec.specs.Shapes.{tagged, many, further, nothing, field, option, Meaning, Value, tag_of}
use Rattle.krb_codec.specs.Faults.{◌>>=◌}
use Rattle.krb_codec.specs.Integers.{number}
use Rattle.krb_codec.specs.Reading.{Input, Piece, starts, first_of, starts_between, tag_at}
use Rattle.krb_codec.specs.Reading.{length_at, element_at, piece_of, meaning_of, ended, reads_each}
use Rattle.krb_codec.specs.Reading.{reads_further, reads_optional, reads, reads_all, Gives}
use Rattle.krb_codec.specs.Grammar.{IsLength, IsElement, IsMeaning, AreInTurn, IsFurther, IsOptional, Spells, is_element}
use Rattle.krb_codec.proofs.StepLemmas.{bind_ok, guard_ok, guard_then, ok_is, chosen}
use Rattle.krb_codec.proofs.IntegerLemmas.{integer_sound, sequence_number_sound}
use Rattle.krb_codec.proofs.TimeLemmas.{time_sound}
use Rattle.krb_codec.proofs.BitStringLemmas.{bits_sound}

pub tag_takes : (tag place : ℕ) (left bytes : List ℕ) → tag_at tag (record { place = place; left = left }) ≡ Ok bytes → left ≡ tag ∷ bytes
unfolding tag_at
tag_takes tag place [] bytes e = absurd cc
tag_takes tag place (b ∷ left) bytes e =
    let g = guard_then (eqb b tag) _ (Ok left) bytes e in
    let is : b ≡ tag = eqb-true _ _ g.0 in
    let same : left ≡ bytes = ok_is left bytes g.1 in
    rw (is, same) refl

-- the bytes of a long form
pub long_is : (b : ℕ) (lead : List ℕ) → b ≡ 128 + length lead → length lead ≤ 4 → starts 0 lead ≡ false → 128 ≤ number lead → IsLength (b ∷ lead) (number lead)
long_is b [] is few starts_not big = absurd (omega (arith, big))
long_is b (c ∷ lead) is few starts_not big = let ne = eqb-false _ _ starts_not in (is, few, omega (arith, ne), big, refl)

pub length_takes : (place : ℕ) (bytes : List ℕ) (n : ℕ) (rest : List ℕ)
    → length_at place bytes ≡ Ok (n, rest) → (lead : List ℕ) × (bytes ≡ lead ++ rest) × IsLength lead n
unfolding length_at
length_takes place [] n rest e = absurd cc
length_takes place (b ∷ bytes) n rest e =
    elim (chosen (ltb b 128) _ _ _ e) [
      | inl short ↦
          let same = ok_is (b, bytes) (n, rest) short.1 in
          subst (λ (p : ℕ × List ℕ). (lead : List ℕ) × (b ∷ bytes ≡ lead ++ p.1) × IsLength lead p.0) same (b ∷ [], refl, (ltb-true _ _ short.0, refl))
      | inr long ↦
          let g = guard_ok (eqb b 128 || ltb 132 b) _ _ (n, rest) long.1 in
          let h = guard_ok (ltb (length bytes) (b - 128)) _ _ (n, rest) g.1 in
          let k = guard_ok (starts 0 (take (b - 128) bytes) || ltb (number (take (b - 128) bytes)) 128) _ _ (n, rest) h.1 in
          let same = ok_is (number (take (b - 128) bytes), drop (b - 128) bytes) (n, rest) k.1 in
          let tests = or_parts (eqb b 128) (ltb 132 b) g.0 in
          let shortest = or_parts (starts 0 (take (b - 128) bytes)) (ltb (number (take (b - 128) bytes)) 128) k.0 in
          let ne = eqb-false b 128 tests.0 in
          let ge = ltb-false b 128 long.0 in
          let le = ltb-false 132 b tests.1 in
          let enough = ltb-false (length bytes) (b - 128) h.0 in
          let big = ltb-false (number (take (b - 128) bytes)) 128 shortest.1 in
          let count : length (take (b - 128) bytes) ≡ b - 128 = omega (arith, length-take (b - 128) bytes, enough) in
          let is = long_is b (take (b - 128) bytes) (omega (arith, count, ge)) (omega (arith, count, le)) shortest.0 big in
          subst (λ (p : ℕ × List ℕ). (lead : List ℕ) × (b ∷ bytes ≡ lead ++ p.1) × IsLength lead p.0) same
          (b ∷ take (b - 128) bytes, ap (λ (l : List ℕ). b ∷ l) (sym (take-append-drop (b - 128) bytes)), is)
    ]

-- what a reader of values takes from the front
pub record Takes {A : Type 0} (spells : List ℕ → A → Type 0) (input : Input) (x : A × Input) : Type 0 where
  pub text : List ℕ
  pub spelled : spells text x.0
  pub parts : input.left ≡ text ++ x.1.left
  pub start : x.1.place ≡ input.place + length text

-- an element and its contents
abbrev pub TakesElement : ℕ → Input → Piece → Type 0
TakesElement tag input e = Takes (λ text content. IsElement tag content text) input (e.content.left, e.after)

pub element_takes : (tag : ℕ) (input : Input) (e : Piece) → element_at tag input ≡ Ok e → TakesElement tag input e
unfolding element_at
element_takes tag input e h =
    let a = bind_ok (tag_at tag input) (λ bytes. length_at input.place bytes >>= λ n. cond (ltb (length n.1) n.0)
    (Err _) (Ok (piece_of (input.place + (length input.left - length n.1)) n.0 n.1))) e h in
    let b = bind_ok (length_at input.place a.0) (λ n. cond (ltb (length n.1) n.0)
    (Err _) (Ok (piece_of (input.place + (length input.left - length n.1)) n.0 n.1))) e a.2 in
    let n = b.0.0 in
    let rest = b.0.1 in
    let g = guard_ok (ltb (length rest) n) _ _ e b.2 in
    let enough : n ≤ length rest = ltb-false _ _ g.0 in
    let left = tag_takes tag input.place input.left a.0 a.1 in
    let l = length_takes input.place a.0 n rest b.1 in
    let made : Piece = piece_of (input.place + (length input.left - length rest)) n rest in
    let count : n ≡ length (take n rest) = omega (arith, length-take n rest) in
    let whole : input.left ≡ tag ∷ (l.0 ++ take n rest) ++ drop n rest =
    left ∙ ap (λ (t : List ℕ). tag ∷ t) (l.1 ∙ ap (λ (t : List ℕ). l.0 ++ t) (sym (take-append-drop n rest))
    ∙ sym (append_assoc l.0 (take n rest) (drop n rest))) in
    let sizes : length input.left ≡ suc (length l.0 + length rest) = ap length left ∙ ap suc (ap length l.1 ∙ length-append l.0 rest) in
    subst (TakesElement tag input) (ok_is made e g.1) (record {
      text = tag ∷ (l.0 ++ take n rest);
      spelled = (l.0, subst (IsLength l.0) count l.2, refl);
      parts = whole;
      start = let lens = length-append l.0 (take n rest) in omega (arith, lens, sizes, count);
    })

pub element_shorter : (tag : ℕ) (input : Input) (e : Piece) → element_at tag input ≡ Ok e → length e.after.left < length input.left
element_shorter tag input e h =
    let p = element_takes tag input e h in
    let some = ap length p.spelled.2 in
    let len : length input.left ≡ length p.text + length e.after.left = ap length p.parts ∙ length-append p.text e.after.left in
    omega (arith, some, len)

pub ended_ok : (input : Input) (u : Unit {0}) → ended input ≡ Ok u → input.left ≡ []
ended_ok input u e = nil_from_length input.left (eqb-true _ _ (guard_then (eqb (length input.left) 0) _ (Ok tt) u e).0)

meaning_is : (kind : Primitive) (place : ℕ) (content : List ℕ) (v : Meaning kind) → meaning_of kind place content ≡ Ok v → IsMeaning kind content v
meaning_is (integer low high) place content v e = integer_sound low high place content v e
meaning_is sequence_number place content v e = sequence_number_sound place content v e
meaning_is (octets tag) place content v e = ok_is content v e
meaning_is bits place content v e = bits_sound place content v e
meaning_is time place content v e = time_sound place content v e

abbrev pub IsSound : {A : Type 0} → (List ℕ → A → Type 0) → (Input → Result (A × Input) DerFault) → Type 0
IsSound {A} spells read = (input : Input) (x : A × Input) → read input ≡ Ok x → Takes spells input x

each_sound : {A : Type 0} (spells : List ℕ → A → Type 0) (read : Input → Result (A × Input) DerFault)
    → IsSound spells read → (budget : ℕ) → IsSound (AreInTurn spells) (reads_each read budget)
each_sound spells read sound zero input x e =
    subst (Takes (AreInTurn spells) input) (ok_is ([], input) x e) (record { text = []; spelled = refl; parts = refl; start = omega arith })
each_sound spells read sound (suc budget) input x e =
    elim (chosen (eqb (length input.left) 0) _ _ _ e) [
      | inl none ↦ subst (Takes (AreInTurn spells) input) (ok_is ([], input) x none.1) (record { text = []; spelled = refl; parts = refl; start = omega arith })
      | inr some ↦
          let a = bind_ok (read input) (λ y. reads_each read budget y.1 >>= λ ys. Ok (y.0 ∷ ys.0, ys.1)) x some.1 in
          let b = bind_ok (reads_each read budget a.0.1) (λ ys. Ok (a.0.0 ∷ ys.0, ys.1)) x a.2 in
          let p = sound input a.0 a.1 in
          let q = each_sound spells read sound budget a.0.1 b.0 b.1 in
          subst (Takes (AreInTurn spells) input) (ok_is (a.0.0 ∷ b.0.0, b.0.1) x b.2) (record {
            text = p.text ++ q.text;
            spelled = (p.text, q.text, refl, p.spelled, q.spelled);
            parts = p.parts ∙ ap (λ (t : List ℕ). p.text ++ t) q.parts ∙ sym (append_assoc p.text q.text b.0.1.left);
            start = let lens = length-append p.text q.text in omega (arith, lens, p.start, q.start);
          })
    ]

is_further : (low high : ℕ) (left : List ℕ) → starts_between low high left ≡ true → (low ≤ first_of left) × (first_of left ≤ high)
is_further low high [] e = absurd cc
is_further low high (b ∷ left) e = let t = and_parts (leb low b) (leb b high) e in (leb-true low b t.0, leb-true b high t.1)

further_sound : (low high budget : ℕ) → IsSound (λ text v. (elements : List (ℕ × List ℕ))
    × AreInTurn (IsFurther low high) text elements) (reads_further low high budget)
further_sound low high zero input x e =
    subst (Takes (λ text v. (elements : List (ℕ × List ℕ)) × AreInTurn (IsFurther low high) text elements) input)
    (ok_is (tt, input) x e) (record { text = []; spelled = ([], refl); parts = refl; start = omega arith })
further_sound low high (suc budget) input x e =
    elim (chosen (starts_between low high input.left) _ _ _ e) [
      | inl some ↦
          let a = bind_ok (element_at (first_of input.left) input) (λ y. reads_further low high budget y.after) x some.1 in
          let p = element_takes (first_of input.left) input a.0 a.1 in
          let q = further_sound low high budget a.0.after x a.2 in
          let tags = is_further low high input.left some.0 in
          record {
            text = p.text ++ q.text;
            spelled = ((first_of input.left, a.0.content.left) ∷ q.spelled.0, (p.text, q.text, refl, (tags.0, tags.1, p.spelled), q.spelled.1));
            parts = p.parts ∙ ap (λ (t : List ℕ). p.text ++ t) q.parts ∙ sym (append_assoc p.text q.text x.1.left);
            start = let lens = length-append p.text q.text in omega (arith, lens, p.start, q.start);
          }
      | inr none ↦
          subst (Takes (λ text v. (elements : List (ℕ × List ℕ)) × AreInTurn (IsFurther low high) text elements) input)
          (ok_is (tt, input) x none.1) (record { text = []; spelled = ([], refl); parts = refl; start = omega arith })
    ]

-- an element round contents that were read to their end
pub inside_sound : {A : Type 0} (tag : ℕ) (spells : List ℕ → A → Type 0) (read : Input → Result (A × Input) DerFault) → IsSound spells read
    → IsSound (λ text v. (content : List ℕ) × IsElement tag content text × spells content v)
    (λ i. element_at tag i >>= λ e. read e.content >>= λ y. ended y.1 >>= λ _. Ok (y.0, e.after))
inside_sound {A} tag spells read sound input x h =
    let a = bind_ok (element_at tag input) (λ e. read e.content >>= λ y. ended y.1 >>= λ _. Ok (y.0, e.after)) x h in
    let b = bind_ok (read a.0.content) (λ y. ended y.1 >>= λ _. Ok (y.0, a.0.after)) x a.2 in
    let c = bind_ok (ended b.0.1) (λ _. Ok (b.0.0, a.0.after)) x b.2 in
    let p = element_takes tag input a.0 a.1 in
    let q = sound a.0.content b.0 b.1 in
    let all : a.0.content.left ≡ q.text = q.parts ∙ ap (λ (t : List ℕ). q.text ++ t) (ended_ok b.0.1 c.0 c.1) ∙ append-nil q.text in
    subst (Takes (λ text v. (content : List ℕ) × IsElement tag content text × spells content v) input) (ok_is (b.0.0, a.0.after) x c.2) (record {
      text = p.text;
      spelled = (a.0.content.left, p.spelled, subst (λ (t : List ℕ). spells t b.0.0) (sym all) q.spelled);
      parts = p.parts;
      start = p.start;
    })

optional_sound : {A B : Type 0} (spells : List ℕ → A → Type 0) (others : List ℕ → B → Type 0)
    (tag : ℕ) (read : Input → Result (A × Input) DerFault) (read_others : Input → Result (B × Input) DerFault)
    → IsSound spells read → IsSound others read_others → (input : Input) (x : (Option A × B) × Input)
    → (reads_optional tag read input >>= λ y. read_others y.1 >>= λ z. Ok ((y.0, z.0), z.1)) ≡ Ok x
    → Takes (λ text v. IsOptional spells others text v.0 v.1) input x
optional_sound {A} {B} spells others tag read read_others one_sound others_sound input x h =
    let a = bind_ok (reads_optional tag read input) (λ y. read_others y.1 >>= λ z. Ok ((y.0, z.0), z.1)) x h in
    let b = bind_ok (read_others a.0.1) (λ z. Ok ((a.0.0, z.0), z.1)) x a.2 in
    let q = others_sound a.0.1 b.0 b.1 in
    let P : (Option A × B) × Input → Type 0 = λ y. Takes (λ text v. IsOptional spells others text v.0 v.1) input y in
    let Q : Option A × Input → Type 0 = λ y. Takes others y.1 b.0 → P ((y.0, b.0.0), b.0.1) in
    let from : Q a.0 = elim (chosen (starts tag input.left) _ _ _ a.1) [
      | inl there ↦
          let c = bind_ok (read input) (λ y. Ok (Some y.0, y.1)) a.0 there.1 in
          let p = one_sound input c.0 c.1 in
          subst Q (ok_is (Some c.0.0, c.0.1) a.0 c.2) (λ r. record {
            text = p.text ++ r.text;
            spelled = (p.text, r.text, refl, p.spelled, r.spelled);
            parts = p.parts ∙ ap (λ (t : List ℕ). p.text ++ t) r.parts ∙ sym (append_assoc p.text r.text b.0.1.left);
            start = let lens = length-append p.text r.text in omega (arith, lens, p.start, r.start);
          })
      | inr not_there ↦ subst Q (ok_is (None, input) a.0 not_there.1) (λ r. record { text = r.text; spelled = r.spelled; parts = r.parts; start = r.start })
    ] in
    subst P (ok_is ((a.0.0, b.0.0), b.0.1) x b.2) (from q)

pub sound : (s : Shape) → IsSound (Spells s) (reads s)
unfolding reads
sound (primitive kind) input x h =
    let a = bind_ok (element_at (tag_of kind) input) (λ e. meaning_of kind input.place e.content.left >>= λ v. Ok (v, e.after)) x h in
    let b = bind_ok (meaning_of kind input.place a.0.content.left) (λ v. Ok (v, a.0.after)) x a.2 in
    let p = element_takes (tag_of kind) input a.0 a.1 in
    subst (Takes (Spells (primitive kind)) input)
    (ok_is (b.0, a.0.after) x b.2) (record {
      text = p.text;
      spelled = (
        a.0.content.left,
        p.spelled,
        meaning_is kind input.place a.0.content.left b.0 b.1,
      );
      parts = p.parts;
      start = p.start;
    })
sound (tagged tag s) input x h = inside_sound tag (Spells s) (reads s) (sound s) input x h
sound (many item) input x h = each_sound (Spells item) (reads item) (sound item) (length input.left) input x h
sound (further low high) input x h = further_sound low high (length input.left) input x h
sound nothing input x h =
    subst (Takes (Spells nothing) input) (ok_is (tt, input) x h) (record { text = []; spelled = refl; parts = refl; start = omega arith })
sound (field first rest) input x h =
    let a = bind_ok (reads first input) (λ y. reads rest y.1 >>= λ z. Ok ((y.0, z.0), z.1)) x h in
    let b = bind_ok (reads rest a.0.1) (λ z. Ok ((a.0.0, z.0), z.1)) x a.2 in
    let p = sound first input a.0 a.1 in
    let q = sound rest a.0.1 b.0 b.1 in
    subst (Takes (Spells (field first rest)) input) (ok_is ((a.0.0, b.0.0), b.0.1) x b.2) (record {
      text = p.text ++ q.text;
      spelled = (p.text, q.text, refl, p.spelled, q.spelled);
      parts = p.parts ∙ ap (λ (t : List ℕ). p.text ++ t) q.parts ∙ sym (append_assoc p.text q.text b.0.1.left);
      start = let lens = length-append p.text q.text in omega (arith, lens, p.start, q.start);
    })
sound (option tag first rest) input x h =
    optional_sound (λ text v. (content : List ℕ) × IsElement tag content text × Spells first content v) (Spells rest) tag
    (λ i. element_at tag i >>= λ e. reads first e.content >>= λ y. ended y.1 >>= λ _. Ok (y.0, e.after)) (reads rest)
    (inside_sound tag (Spells first) (reads first) (sound first)) (sound rest) input x h

-- an element takes a byte at least
pub not_empty : (s : Shape) (text : List ℕ) (v : Value s) → is_element s ≡ true → Spells s text v → 0 < length text
not_empty (primitive kind) text v one h = let len = ap length h.1.2 in omega (arith, len)
not_empty (tagged tag s) text v one h = let len = ap length h.1.2 in omega (arith, len)
not_empty (many item) text v one h = absurd cc
not_empty (further low high) text v one h = absurd cc
not_empty nothing text v one h = absurd cc
not_empty (field first rest) text v one h = absurd cc
not_empty (option tag first rest) text v one h = absurd cc

pub shorter : (s : Shape) (input after : Input) (v : Value s) → is_element s ≡ true → reads s input ≡ Ok (v, after) → length after.left < length input.left
shorter s input after v one h =
    let p = sound s input (v, after) h in
    let some = not_empty s p.text v one p.spelled in
    let len : length input.left ≡ length p.text + length after.left = ap length p.parts ∙ length-append p.text after.left in
    omega (arith, some, len)

pub all_sound : (s : Shape) (text : List ℕ) (v : Value s) → reads_all s text ≡ Ok v → Spells s text v
unfolding reads_all
all_sound s text v h =
    let a = bind_ok (reads s (record { place = 0; left = text })) (λ x. ended x.1 >>= λ _. Ok x.0) v h in
    let b = bind_ok (ended a.0.1) (λ _. Ok a.0.0) v a.2 in
    let p = sound s (record { place = 0; left = text }) a.0 a.1 in
    let all : text ≡ p.text = p.parts ∙ ap (λ (t : List ℕ). p.text ++ t) (ended_ok a.0.1 b.0 b.1) ∙ append-nil p.text in
    subst (λ (w : Value s). Spells s text w) (ok_is a.0.0 v b.2) (subst (λ (t : List ℕ). Spells s t a.0.0) (sym all) p.spelled)

pub is_found : {X : Type 0} (s : Shape) (view : X → Value s) (text : List ℕ) (r : Result X ReadError)
    → Gives view r (reads_all s text) → IfOk r (λ v. Spells s text (view v))
is_found s view text (Ok v) given = all_sound s text (view v) given
is_found s view text (Err e) given = tt
