-- The first fault stands within the text.
use Rattle.std.proofs.Common.{◌≡◌, ℕ, ℤ, zero, suc, ◌+◌, ◌-◌, ◌≤◌, ◌||◌, not, int_lt, Bool, true}
use Rattle.std.proofs.Common.{false, cond, List, [], ◌∷◌, Option, Some, None, Result, Ok, Err, refl}
use Rattle.std.proofs.Common.{sym, ap, subst, ◌∙◌, arith, length, take, ltb, eqb, ◌⊎◌, inl, inr}
use Rattle.std.proofs.lemmas.Bool.{ltb-false}
use Rattle.std.proofs.lemmas.List.{length-append, length-take}
use Rattle.krb_codec.specs.declared.fault.DerFault.{DerFault}
use Rattle.krb_codec.specs.Shapes.{Primitive, integer, sequence_number, octets, bits, time, Shape}
use Rattle.krb_codec.specs.Shapes.{primitive, tagged, many, further, nothing, field, option, Value, tag_of}
use Rattle.krb_codec.specs.Faults.{◌>>=◌}
use Rattle.krb_codec.specs.Integers.{number, is_shortest_integer, signed, integer_in, in_word}
use Rattle.krb_codec.specs.Integers.{sequence_number_in, least_sequence_number, greatest_sequence_number}
use Rattle.krb_codec.specs.BitStrings.{bits_in, is_bit_string}
use Rattle.krb_codec.specs.Times.{time_in, is_time}
use Rattle.krb_codec.specs.Reading.{Input, Piece, starts, first_of, starts_between, tag_at}
use Rattle.krb_codec.specs.Reading.{length_at, element_at, piece_of, meaning_of, ended}
use Rattle.krb_codec.specs.Reading.{reads_each, reads_further, reads_optional, reads, reads_all}
use Rattle.krb_codec.specs.Grammar.{Spells, IsElement}
use Rattle.krb_codec.proofs.StepLemmas.{bind_ok, guard_ok, ok_is, chosen}
use Rattle.krb_codec.proofs.SoundLemmas.{element_takes, Takes, IsSound, inside_sound, sound}

same_fault : {A : Type 0} (d f : DerFault) → ◌≡◌ {A = Result A DerFault} (Err d) (Err f) → d ≡ f
same_fault d f e = cc

not_err : {A C : Type 0} (x : A) (f : DerFault) → ◌≡◌ {A = Result A DerFault} (Ok x) (Err f) → C
not_err x f e = absurd cc

-- the step that failed
bind_err : {A B : Type 0} (r : Result A DerFault) (g : A → Result B DerFault) (f : DerFault)
    → (r >>= g) ≡ Err f → (r ≡ Err f) ⊎ ((x : A) × (r ≡ Ok x) × (g x ≡ Err f))
bind_err (Ok x) g f e = inr (x, refl, e)
bind_err (Err d) g f e = let same = same_fault d f e in inl (rw same refl)

stands : {A : Type 0} (d f : DerFault) → ◌≡◌ {A = Result A DerFault} (Err d) (Err f) → f.place ≡ d.place
stands d f e = sym (ap (λ (h : DerFault). h.place) (same_fault d f e))

-- what a test chooses between, each of whose faults has a property
either : {A : Type 0} (P : Type 0) (b : Bool) (x y : Result A DerFault) (f : DerFault) → cond b x y ≡ Err f → (x ≡ Err f → P) → (y ≡ Err f → P) → P
either P true x y f e p q = p e
either P false x y f e p q = q e

-- ---- the faults of an element stand where it starts

tag_fault : (tag place : ℕ) (left : List ℕ) (f : DerFault) → tag_at tag (record { place = place; left = left }) ≡ Err f → f.place ≡ place
unfolding tag_at
tag_fault tag place [] f e = stands _ f e
tag_fault tag place (b ∷ left) f e = either (f.place ≡ place) (eqb b tag) _ _ f e (not_err left f) (stands _ f)

length_fault : (place : ℕ) (bytes : List ℕ) (f : DerFault) → length_at place bytes ≡ Err f → f.place ≡ place
unfolding length_at
length_fault place [] f e = stands _ f e
length_fault place (b ∷ bytes) f e =
    let P : Type 0 = f.place ≡ place in
    either P (ltb b 128) _ _ f e (not_err _ f)
    (λ long. either P (eqb b 128 || ltb 132 b) _ _ f long (stands _ f)
    (λ form. either P (ltb (length bytes) (b - 128)) _ _ f form (stands _ f)
    (λ whole. either P (starts 0 (take (b - 128) bytes) || ltb (number (take (b - 128) bytes)) 128) _ _ f whole (stands _ f) (not_err _ f))))

element_fault : (tag : ℕ) (input : Input) (f : DerFault) → element_at tag input ≡ Err f → f.place ≡ input.place
unfolding element_at
element_fault tag input f e = elim (bind_err (tag_at tag input) (λ bytes. length_at input.place bytes >>= λ n.
    cond (ltb (length n.1) n.0) (Err _) (Ok (piece_of (input.place + (length input.left - length n.1)) n.0 n.1))) f e) [
      | inl first ↦ tag_fault tag input.place input.left f first
      | inr a ↦ elim (bind_err (length_at input.place a.0) (λ n. cond (ltb (length n.1) n.0)
          (Err _) (Ok (piece_of (input.place + (length input.left - length n.1)) n.0 n.1))) f a.2) [
            | inl second ↦ length_fault input.place a.0 f second
            | inr b ↦ either (f.place ≡ input.place) (ltb (length b.0.1) b.0.0) _ _ f b.2 (stands _ f) (not_err _ f)
          ]
    ]

ended_fault : (input : Input) (f : DerFault) → ended input ≡ Err f → f.place ≡ input.place
ended_fault input f e = either (f.place ≡ input.place) (eqb (length input.left) 0) _ _ f e (not_err tt f) (stands _ f)

integer_fault : (low high : ℤ) (place : ℕ) (content : List ℕ) (f : DerFault) → integer_in low high place content ≡ Err f → f.place ≡ place
unfolding integer_in
integer_fault low high place content f e =
    let P : Type 0 = f.place ≡ place in
    either P (not (is_shortest_integer content)) _ _ f e (stands _ f)
    (λ form. either P (int_lt (signed content) low || int_lt high (signed content)) _ _ f form (stands _ f) (not_err _ f))

word_fault : (r : Result ℤ DerFault) (f : DerFault) → in_word r ≡ Err f → r ≡ Err f
word_fault (Ok n) f e = not_err _ f e
word_fault (Err d) f e = let same = same_fault d f e in rw same refl

sequence_number_fault : (place : ℕ) (content : List ℕ) (f : DerFault) → sequence_number_in place content ≡ Err f → f.place ≡ place
unfolding sequence_number_in
sequence_number_fault place content f e = integer_fault least_sequence_number greatest_sequence_number place content f (word_fault _ f e)

bits_fault : (place : ℕ) (content : List ℕ) (f : DerFault) → bits_in place content ≡ Err f → f.place ≡ place
unfolding bits_in
bits_fault place content f e = either (f.place ≡ place) (is_bit_string content) _ _ f e (not_err _ f) (stands _ f)

time_fault : (place : ℕ) (content : List ℕ) (f : DerFault) → time_in place content ≡ Err f → f.place ≡ place
unfolding time_in
time_fault place content f e = either (f.place ≡ place) (is_time content) _ _ f e (not_err _ f) (stands _ f)

meaning_fault : (kind : Primitive) (place : ℕ) (content : List ℕ) (f : DerFault) → meaning_of kind place content ≡ Err f → f.place ≡ place
meaning_fault (integer low high) place content f e = integer_fault low high place content f e
meaning_fault sequence_number place content f e = sequence_number_fault place content f e
meaning_fault (octets tag) place content f e = not_err content f e
meaning_fault bits place content f e = bits_fault place content f e
meaning_fault time place content f e = time_fault place content f e

-- ---- what was read leaves the region's end where it was

abbrev end_of : Input → ℕ
end_of input = input.place + length input.left

kept : {A : Type 0} (spells : List ℕ → A → Type 0) (input : Input) (x : A × Input) → Takes spells input x → end_of x.1 ≡ end_of input
kept spells input x p = let len : length input.left
    ≡ length p.text + length x.1.left = ap length p.parts ∙ length-append p.text x.1.left in omega (arith, len, p.start)

element_kept : (tag : ℕ) (input : Input) (e : Piece) → element_at tag input ≡ Ok e → end_of e.after ≡ end_of input
element_kept tag input e h = kept (λ text content. IsElement tag content text) input (e.content.left, e.after) (element_takes tag input e h)

-- an element's contents end where what follows it starts
content_end : (tag : ℕ) (input : Input) (e : Piece) → element_at tag input ≡ Ok e → end_of e.content ≡ e.after.place
unfolding element_at
content_end tag input e h =
    let a = bind_ok (tag_at tag input) (λ bytes. length_at input.place bytes >>= λ n. cond (ltb (length n.1) n.0)
    (Err _) (Ok (piece_of (input.place + (length input.left - length n.1)) n.0 n.1))) e h in
    let b = bind_ok (length_at input.place a.0) (λ n. cond (ltb (length n.1) n.0)
    (Err _) (Ok (piece_of (input.place + (length input.left - length n.1)) n.0 n.1))) e a.2 in
    let n = b.0.0 in
    let rest = b.0.1 in
    let g = guard_ok (ltb (length rest) n) _ _ e b.2 in
    let enough : n ≤ length rest = ltb-false _ _ g.0 in
    let count : length (take n rest) ≡ n = omega (arith, length-take n rest, enough) in
    let made : Piece = piece_of (input.place + (length input.left - length rest)) n rest in
    subst (λ (p : Piece). end_of p.content ≡ p.after.place) (ok_is made e g.1) (omega (arith, count))

-- ---- faults of what is read from a place stand before the region's end

abbrev IsWithin : {A : Type 0} → (Input → Result (A × Input) DerFault) → Type 0
IsWithin {A} read = (input : Input) (f : DerFault) → read input ≡ Err f → f.place ≤ end_of input

inside_within : {A : Type 0} (tag : ℕ) (spells : List ℕ → A → Type 0) (read : Input → Result (A × Input) DerFault) → IsSound spells read → IsWithin read
    → IsWithin (λ i. element_at tag i >>= λ e. read e.content >>= λ y. ended y.1 >>= λ _. Ok (y.0, e.after))
inside_within {A} tag spells read is_sound within input f h =
    elim (bind_err (element_at tag input) (λ e. read e.content >>= λ y. ended y.1 >>= λ _. Ok (y.0, e.after)) f h) [
      | inl first ↦ let is = element_fault tag input f first in omega (arith, is)
      | inr a ↦
          let ends = content_end tag input a.0 a.1 in
          let after = element_kept tag input a.0 a.1 in
          elim (bind_err (read a.0.content) (λ y. ended y.1 >>= λ _. Ok (y.0, a.0.after)) f a.2) [
            | inl second ↦ let le = within a.0.content f second in omega (arith, le, ends, after)
            | inr b ↦ elim (bind_err (ended b.0.1) (λ _. Ok (b.0.0, a.0.after)) f b.2) [
              | inl third ↦
                  let is = ended_fault b.0.1 f third in
                  let same = kept spells a.0.content b.0 (is_sound a.0.content b.0 b.1) in
                  omega (arith, is, same, ends, after)
              | inr ok ↦ not_err _ f ok.2
            ]
          ]
    ]

each_within : {A : Type 0} (spells : List ℕ → A → Type 0) (read : Input → Result (A × Input) DerFault)
    → IsSound spells read → IsWithin read → (budget : ℕ) → IsWithin (reads_each read budget)
each_within spells read is_sound within zero input f e = not_err _ f e
each_within spells read is_sound within (suc budget) input f e =
    either (f.place ≤ end_of input) (eqb (length input.left) 0) _ _ f e (not_err _ f)
    (λ some. elim (bind_err (read input) (λ y. reads_each read budget y.1 >>= λ ys. Ok (y.0 ∷ ys.0, ys.1)) f some) [
      | inl first ↦ within input f first
      | inr a ↦ elim (bind_err (reads_each read budget a.0.1) (λ ys. Ok (a.0.0 ∷ ys.0, ys.1)) f a.2) [
        | inl more ↦
            let le = each_within spells read is_sound within budget a.0.1 f more in
            let same = kept spells input a.0 (is_sound input a.0 a.1) in
            omega (arith, le, same)
        | inr ok ↦ not_err _ f ok.2
      ]
    ])

further_within : (low high budget : ℕ) → IsWithin (reads_further low high budget)
further_within low high zero input f e = not_err _ f e
further_within low high (suc budget) input f e =
    either (f.place ≤ end_of input) (starts_between low high input.left) _ _ f e
    (λ some. elim (bind_err (element_at (first_of input.left) input) (λ y. reads_further low high budget y.after) f some) [
      | inl first ↦ let is = element_fault (first_of input.left) input f first in omega (arith, is)
      | inr a ↦
          let le = further_within low high budget a.0.after f a.2 in
          let same = element_kept (first_of input.left) input a.0 a.1 in
          omega (arith, le, same)
    ])
    (not_err _ f)

optional_within : {A : Type 0} (tag : ℕ) (read : Input → Result (A × Input) DerFault) → IsWithin read → IsWithin (reads_optional tag read)
optional_within tag read within input f e = either (f.place ≤ end_of input) (starts tag input.left) _ _ f e
    (λ there. elim (bind_err (read input) (λ y. Ok (Some y.0, y.1)) f there) [ inl first ↦ within input f first | inr ok ↦ not_err _ f ok.2 ])
    (not_err _ f)

optional_kept : {A : Type 0} (spells : List ℕ → A → Type 0) (tag : ℕ) (read : Input → Result (A × Input) DerFault) → IsSound spells read
    → (input : Input) (x : Option A × Input) → reads_optional tag read input ≡ Ok x → end_of x.1 ≡ end_of input
optional_kept {A} spells tag read is_sound input x e = elim (chosen (starts tag input.left) _ _ _ e) [
  | inl there ↦
      let a = bind_ok (read input) (λ y. Ok (Some y.0, y.1)) x there.1 in
      subst (λ (y : Option A × Input). end_of y.1 ≡ end_of input) (ok_is (Some a.0.0, a.0.1) x a.2) (kept spells input a.0 (is_sound input a.0 a.1))
  | inr none ↦ subst (λ (y : Option A × Input). end_of y.1 ≡ end_of input) (ok_is (None, input) x none.1) refl
]

within : (s : Shape) → IsWithin (reads s)
unfolding reads
within (primitive kind) input f h =
    elim (bind_err (element_at (tag_of kind) input) (λ e. meaning_of kind input.place e.content.left >>= λ v. Ok (v, e.after)) f h) [
      | inl first ↦ let is = element_fault (tag_of kind) input f first in omega (arith, is)
      | inr a ↦ elim (bind_err (meaning_of kind input.place a.0.content.left) (λ v. Ok (v, a.0.after)) f a.2) [
        | inl second ↦ let is = meaning_fault kind input.place a.0.content.left f second in omega (arith, is)
        | inr ok ↦ not_err _ f ok.2
      ]
    ]
within (tagged tag s) input f h = inside_within tag (Spells s) (reads s) (sound s) (within s) input f h
within (many item) input f h = each_within (Spells item) (reads item) (sound item) (within item) (length input.left) input f h
within (further low high) input f h = further_within low high (length input.left) input f h
within nothing input f h = not_err _ f h
within (field first rest) input f h =
    elim (bind_err (reads first input) (λ y. reads rest y.1 >>= λ z. Ok ((y.0, z.0), z.1)) f h) [
      | inl one ↦ within first input f one
      | inr a ↦ elim (bind_err (reads rest a.0.1) (λ z. Ok ((a.0.0, z.0), z.1)) f a.2) [
        | inl others ↦
            let le = within rest a.0.1 f others in
            let same = kept (Spells first) input a.0 (sound first input a.0 a.1) in
            omega (arith, le, same)
        | inr ok ↦ not_err _ f ok.2
      ]
    ]
within (option tag first rest) input f h =
    let read : Input → Result (Value first × Input) DerFault =
    λ i. element_at tag i >>= λ e. reads first e.content >>= λ y. ended y.1 >>= λ _. Ok (y.0, e.after) in
    elim (bind_err (reads_optional tag read input) (λ y. reads rest y.1 >>= λ z. Ok ((y.0, z.0), z.1)) f h) [
      | inl one ↦ optional_within tag read (inside_within tag (Spells first) (reads first) (sound first) (within first)) input f one
      | inr a ↦ elim (bind_err (reads rest a.0.1) (λ z. Ok ((a.0.0, z.0), z.1)) f a.2) [
        | inl others ↦
            let le = within rest a.0.1 f others in
            let same = optional_kept (λ text v. (content : List ℕ)
            × IsElement tag content text × Spells first content v) tag read
            (inside_sound tag (Spells first) (reads first) (sound first)) input a.0 a.1 in
            omega (arith, le, same)
        | inr ok ↦ not_err _ f ok.2
      ]
    ]

pub faults_within : (s : Shape) (bytes : List ℕ) (f : DerFault) → reads_all s bytes ≡ Err f → f.place ≤ length bytes
unfolding reads_all
faults_within s bytes f h =
    let input : Input = record { place = 0; left = bytes } in
    elim (bind_err (reads s input) (λ x. ended x.1 >>= λ _. Ok x.0) f h) [
      | inl some ↦ let le = within s input f some in omega (arith, le)
      | inr a ↦ elim (bind_err (ended a.0.1) (λ _. Ok a.0.0) f a.2) [
        | inl left ↦
            let is = ended_fault a.0.1 f left in
            let same = kept (Spells s) input a.0 (sound s input a.0 a.1) in
            omega (arith, is, same)
        | inr ok ↦ not_err _ f ok.2
      ]
    ]
