-- What is read was written so: whole files.
use Rattle.std.proofs.Common.{◌≡◌, ℕ, zero, suc, ◌+◌, ◌-◌, ◌^◌, ◌<◌, ◌≤◌, Bool, true, false, cond}
use Rattle.std.proofs.Common.{List, [], ◌∷◌, ◌++◌, length, take, drop, Option, Some, None, Result, Ok}
use Rattle.std.proofs.Common.{Err, refl, sym, ap, subst, ◌∙◌, append_assoc, arith, inl, inr, ◌⊎◌, lit<}
use Rattle.std.specs.Prelude.{nat_lt, ◌==◌, not, ◌||◌, All}
use Rattle.std.specs.Int.{from_be_bytes, to_be_bytes, w16, w32}
use Rattle.std.proofs.lemmas.Bool.{ltb-false, ltb-true, eqb-true, eqb-false}
use Rattle.std.proofs.lemmas.List.{take-append-drop, length-append, length-take-le, length-drop, nil_from_length}
use Rattle.std.proofs.lemmas.List.Elements.{All-head, All-tail}
use Rattle.std.proofs.lemmas.List.Concat.{flat_map-cons}
use Rattle.std.proofs.lemmas.Nat.{be_bytes_2, be_bytes_4}
use Rattle.krb_keytab.specs.declared.fault.KeytabFault.{KeytabFault}
use Rattle.krb_keytab.specs.declared.fault.KeytabFault.TheVariants.{NotKeytab, CutOff, BadLength}
use Rattle.krb_keytab.specs.Entries.{Entry, entry_at}
use Rattle.krb_keytab.specs.Keytabs.{Piece, ◌>>=◌, length_at, is_positive, size_of, or_bad, record_at, entries_from, from_place}
use Rattle.krb_keytab.specs.Written.{KeytabRecord, an_entry, a_hole, stated, record_bytes, records_bytes, file_bytes, entries_of, StandFrom}
use Rattle.krb_keytab.specs.Laws.{IsEnd, ReadIsWritten}
use Rattle.krb_keytab.proofs.SoundLemmas.{IsBytes, IsBytes-take, IsBytes-drop, sound32, IsWritten, entry_takes}

bind_ok : {A B : Type 0} (r : Result A KeytabFault) (f : A → Result B KeytabFault) (y : B) → (r >>= f) ≡ Ok y → (x : A) × (r ≡ Ok x) × (f x ≡ Ok y)
bind_ok (Ok x) f y e = (x, refl, e)
bind_ok (Err d) f y e = absurd cc

abbrev done : {A : Type 0} → A → Result A KeytabFault
done x = Ok x

ok_is : {A : Type 0} (x y : A) → done x ≡ done y → x ≡ y
ok_is x y e = cc

found_entry : (place : ℕ) (o : Option Entry) (e : Entry) → or_bad place o ≡ Ok e → o ≡ Some e
found_entry place (Some e) f h = ap (λ (x : Entry). Some x) (ok_is e f h)
found_entry place None f h = absurd cc

-- ---- a record

found : (place : ℕ) (a b c d e : Bool) (p q : Piece)
    → cond a (Ok None) (cond b (Err (CutOff place))
    (cond c (Ok None) (cond d (Err (BadLength place)) (cond e (Err (CutOff place)) (Ok (Some p)))))) ≡ Ok (Some q)
    → (b ≡ false) × (c ≡ false) × (d ≡ false) × (e ≡ false) × (p ≡ q)
found place false false false false false p q h = (refl, refl, refl, refl, cc)
found place a b c d e p q h = cc

ended : (place : ℕ) (a b c d e : Bool) (p : Piece)
    → cond a (Ok None) (cond b (Err (CutOff place)) (cond c (Ok None) (cond d (Err (BadLength place)) (cond e (Err (CutOff place)) (Ok (Some p)))))) ≡ Ok None
    → (a ≡ true) ⊎ ((b ≡ false) × (c ≡ true))
ended place true b c d e p h = inl refl
ended place false false true d e p h = inr (refl, refl)
ended place false true c d e p h = absurd cc
ended place false false false true e p h = absurd cc
ended place false false false false true p h = absurd cc
ended place false false false false false p h = absurd cc

-- a record's length is the number in front of it
record IsRecord (bytes : List ℕ) (piece : Piece) (n : ℕ) : Type 0 where
  parts : bytes ≡ to_be_bytes w32 n ++ (piece.bytes ++ piece.rest)
  small : n < 2 ^ 32
  some : n ≡ 0 → ⊥
  other : n ≡ 2 ^ 31 → ⊥
  sign : is_positive n ≡ piece.is_entry
  size : size_of n ≡ length piece.bytes
  bytes_fit : IsBytes piece.bytes
  rest_fits : IsBytes piece.rest

head_is : (bytes : List ℕ) → IsBytes bytes → 4 ≤ length bytes → bytes ≡ to_be_bytes w32 (length_at bytes) ++ drop 4 bytes
head_is bytes fits four =
    let back : to_be_bytes w32 (length_at bytes) ≡ take 4 bytes = be_bytes_4 (take 4 bytes) _ (length-take-le 4 bytes four) (IsBytes-take 4 bytes fits) refl in
    sym (take-append-drop 4 bytes) ∙ ap (λ (t : List ℕ). t ++ drop 4 bytes) (sym back)

record_takes : (place : ℕ) (bytes : List ℕ) (piece : Piece) → IsBytes bytes → record_at place bytes ≡ Ok (Some piece) → IsRecord bytes piece (length_at bytes)
unfolding record_at
record_takes place bytes piece fits h =
    let n : ℕ = length_at bytes in
    let behind : List ℕ = drop 4 bytes in
    let made : Piece = record { is_entry = is_positive n; bytes = take (size_of n) behind; rest = drop (size_of n) behind } in
    let f = found place (length bytes == 0) (nat_lt (length bytes) 4) (n == 0) (n == 2 ^ 31) (nat_lt (length behind) (size_of n)) made piece h in
    let four : 4 ≤ length bytes = ltb-false _ _ f.0 in
    let within : size_of n ≤ length behind = ltb-false _ _ f.3 in
    let after_fits = IsBytes-drop 4 bytes fits in
    let made_is : IsRecord bytes made n = record {
      parts = head_is bytes fits four ∙ ap (λ (t : List ℕ). to_be_bytes w32 n ++ t) (sym (take-append-drop (size_of n) behind));
      small = sound32.below (take 4 bytes) (IsBytes-take 4 bytes fits);
      some = eqb-false _ _ f.1;
      other = eqb-false _ _ f.2;
      sign = refl;
      size = sym (length-take-le (size_of n) behind within);
      bytes_fit = IsBytes-take (size_of n) behind after_fits;
      rest_fits = IsBytes-drop (size_of n) behind after_fits;
    } in
    subst (λ (p : Piece). IsRecord bytes p n) f.4 made_is

end_is : (place : ℕ) (bytes : List ℕ) → IsBytes bytes → record_at place bytes ≡ Ok None → IsEnd bytes
unfolding record_at
end_is place bytes fits h =
    let n : ℕ = length_at bytes in
    let behind : List ℕ = drop 4 bytes in
    let made : Piece = record { is_entry = is_positive n; bytes = take (size_of n) behind; rest = drop (size_of n) behind } in
    elim (ended place (length bytes == 0) (nat_lt (length bytes) 4) (n == 0) (n == 2 ^ 31) (nat_lt (length behind) (size_of n)) made h) [
      | inl none ↦ inl (nil_from_length bytes (eqb-true _ _ none))
      | inr zeros ↦
          let four : 4 ≤ length bytes = ltb-false _ _ zeros.0 in
          inr (behind, head_is bytes fits four ∙ ap (λ (k : ℕ). to_be_bytes w32 k ++ behind) (eqb-true _ _ zeros.1))
    ]

-- ---- all records

-- the bytes are those of records from this place on, and an end
record IsFile (place : ℕ) (bytes : List ℕ) (es : List Entry) : Type 0 where
  written : List KeytabRecord
  rest : List ℕ
  stand : StandFrom place written
  parts : bytes ≡ records_bytes written ++ rest
  ended : IsEnd rest
  entries : es ≡ entries_of written

one_more : (r : KeytabRecord) (rs : List KeytabRecord) (bytes behind rest : List ℕ)
    → bytes ≡ record_bytes r ++ behind → behind ≡ records_bytes rs ++ rest → bytes ≡ records_bytes (r ∷ rs) ++ rest
one_more r rs bytes behind rest h g = h
    ∙ ap (λ (t : List ℕ). record_bytes r ++ t) g ∙ sym (ap (λ (t : List ℕ). t ++ rest) (flat_map-cons record_bytes r rs)
    ∙ append_assoc (record_bytes r) (records_bytes rs) rest)

with_entry : (place n : ℕ) (bytes : List ℕ) (piece : Piece) (e : Entry) (es : List Entry)
    → IsRecord bytes piece n → piece.is_entry ≡ true → entry_at place piece.bytes ≡ Some e
    → IsFile (place + (4 + length piece.bytes)) piece.rest es → IsFile place bytes (e ∷ es)
unfolding IsWritten
with_entry place n bytes piece e es is yes' one more =
    let positive : n < 2 ^ 31 = ltb-true _ _ (is.sign ∙ yes') in
    let size : n ≡ length piece.bytes = sym (ap (λ (b : Bool). cond b n (2 ^ 32 - n)) (is.sign ∙ yes')) ∙ is.size in
    let w = entry_takes place piece.bytes e is.bytes_fit (omega arith) one in
    let r : KeytabRecord = an_entry e w.0 w.1 in
    let stated_is : n ≡ stated r = size ∙ ap length w.2 in
    let whole : bytes ≡ record_bytes r ++ piece.rest =
    is.parts ∙ ap (λ (k : ℕ). to_be_bytes w32 k ++ (piece.bytes ++ piece.rest)) stated_is
    ∙ ap (λ (t : List ℕ). to_be_bytes w32 (stated r) ++ (t ++ piece.rest)) w.2 in
    let len = ap length w.2 in
    let next : place + (4 + length piece.bytes) ≡ place + length (record_bytes r) = omega (arith, len) in
    record {
      written = r ∷ more.written;
      rest = more.rest;
      stand = ((w.3, w.4), subst (λ (p : ℕ). StandFrom p more.written) next more.stand);
      parts = one_more r more.written bytes piece.rest more.rest whole more.parts;
      ended = more.ended;
      entries = ap (λ (xs : List Entry). e ∷ xs) more.entries;
    }

with_hole : (place n : ℕ) (bytes : List ℕ) (piece : Piece) (es : List Entry) → IsRecord bytes piece n → piece.is_entry ≡ false
    → IsFile (place + (4 + length piece.bytes)) piece.rest es → IsFile place bytes es
with_hole place n bytes piece es is no' more =
    let negative : 2 ^ 31 ≤ n = ltb-false _ _ (is.sign ∙ no') in
    let size : 2 ^ 32 - n ≡ length piece.bytes = sym (ap (λ (b : Bool). cond b n (2 ^ 32 - n)) (is.sign ∙ no')) ∙ is.size in
    let small = is.small in
    let other = is.other in
    let r : KeytabRecord = a_hole piece.bytes in
    let stated_is : n ≡ stated r = omega arith in
    let whole : bytes ≡ record_bytes r ++ piece.rest = is.parts ∙ ap (λ (k : ℕ). to_be_bytes w32 k ++ (piece.bytes ++ piece.rest)) stated_is in
    let next : place + (4 + length piece.bytes) ≡ place + length (record_bytes r) = omega arith in
    record {
      written = r ∷ more.written;
      rest = more.rest;
      stand = ((omega arith, omega arith), subst (λ (p : ℕ). StandFrom p more.written) next more.stand);
      parts = one_more r more.written bytes piece.rest more.rest whole more.parts;
      ended = more.ended;
      entries = more.entries;
    }

at_end : (place : ℕ) (bytes : List ℕ) (es : List Entry) → IsEnd bytes → done [] ≡ done es → IsFile place bytes es
at_end place bytes es is e = record { written = []; rest = bytes; stand = tt; parts = refl; ended = is; entries = sym (ok_is [] es e) }

-- by whether the record is an entry
from_record : (budget place n : ℕ) (bytes : List ℕ) (piece : Piece) (b : Bool) (es : List Entry)
    → IsRecord bytes piece n → piece.is_entry ≡ b → length bytes ≤ suc budget
    → cond b (or_bad place (entry_at place piece.bytes)
    >>= λ first. from_place budget (place + (4 + length piece.bytes)) piece.rest
    >>= λ more. Ok (first ∷ more)) (from_place budget (place + (4 + length piece.bytes)) piece.rest) ≡ Ok es
    → ((place : ℕ) (es : List Entry) → from_place budget place piece.rest ≡ Ok es → IsFile place piece.rest es)
    → IsFile place bytes es
from_record budget place n bytes piece true es is b enough h others =
    let one = bind_ok (or_bad place (entry_at place piece.bytes))
    (λ first. from_place budget (place + (4 + length piece.bytes)) piece.rest >>= λ more. Ok (first ∷ more)) es h in
    let more = bind_ok (from_place budget (place + (4 + length piece.bytes)) piece.rest) (λ more. Ok (one.0 ∷ more)) es one.2 in
    subst (λ (xs : List Entry). IsFile place bytes xs) (ok_is (one.0 ∷ more.0) es more.2)
    (with_entry place n bytes piece one.0 more.0 is b (found_entry place _ one.0 one.1) (others (place + (4 + length piece.bytes)) more.0 more.1))
from_record budget place n bytes piece false es is b enough h others = with_hole place n bytes piece es is b (others (place + (4 + length piece.bytes)) es h)

from_next : (budget place : ℕ) (bytes : List ℕ) (next : Option Piece) (es : List Entry)
    → IsBytes bytes → length bytes ≤ suc budget → record_at place bytes ≡ Ok next
    → entries_from (from_place budget) place next ≡ Ok es
    → ((place : ℕ) (rest : List ℕ) (es : List Entry) → IsBytes rest → length rest ≤ budget → from_place budget place rest ≡ Ok es → IsFile place rest es)
    → IsFile place bytes es
from_next budget place bytes None es fits enough is h others = at_end place bytes es (end_is place bytes fits is) h
from_next budget place bytes (Some piece) es fits enough is h others =
    let r = record_takes place bytes piece fits is in
    let size = ap length r.parts in
    let parts = length-append piece.bytes piece.rest in
    from_record budget place (length_at bytes) bytes piece piece.is_entry es r refl enough h
    (λ p xs g. others p piece.rest xs r.rest_fits (omega (arith, size, parts, enough)) g)

files : (budget place : ℕ) (bytes : List ℕ) (es : List Entry)
    → IsBytes bytes → length bytes ≤ budget → from_place budget place bytes ≡ Ok es → IsFile place bytes es
files zero place bytes es fits enough h = at_end place bytes es (inl (nil_from_length bytes (omega arith))) h
files (suc budget) place bytes es fits enough h =
    let next = bind_ok (record_at place bytes) (entries_from (from_place budget) place) es h in
    from_next budget place bytes next.0 es fits enough next.1 next.2 (λ p rest xs f e g. files budget p rest xs f e g)

-- ---- whole files

bytes_at : (xs : List ℕ) → All (λ b. b < 256) xs → IsBytes xs
bytes_at [] h i = lit< tt
bytes_at (x ∷ xs) h zero = All-head (λ b. b < 256) x xs h
bytes_at (x ∷ xs) h (suc i) = bytes_at xs (All-tail (λ b. b < 256) x xs h) i

not_refused : (a b : Bool) (x : Result (List Entry) KeytabFault) (es : List Entry)
    → cond (a || not b) (Err NotKeytab) x ≡ Ok es → (a ≡ false) × (b ≡ true) × (x ≡ Ok es)
not_refused false true x es h = (refl, refl, h)
not_refused a b x es h = absurd cc

pub read_is_written : ReadIsWritten
read_is_written bytes es small h =
    let fits = bytes_at bytes small in
    let n : ℕ = from_be_bytes w16 (take 2 bytes) in
    let g = not_refused (nat_lt (length bytes) 2) (n == 0x0502) (from_place (length bytes) 2 (drop 2 bytes)) es h in
    let two : 2 ≤ length bytes = ltb-false _ _ g.0 in
    let head : to_be_bytes w16 n ≡ take 2 bytes = be_bytes_2 (take 2 bytes) _ (length-take-le 2 bytes two) (IsBytes-take 2 bytes fits) refl in
    let version : take 2 bytes ≡ 5 ∷ 2 ∷ [] = sym head ∙ ap (to_be_bytes w16) (eqb-true _ _ g.1) in
    let f = files (length bytes) 2 (drop 2 bytes) es (IsBytes-drop 2 bytes fits) (omega (arith, length-drop 2 bytes)) g.2 in
    let whole : bytes ≡ file_bytes f.written ++ f.rest = sym (take-append-drop 2 bytes)
    ∙ ap (λ (t : List ℕ). t ++ drop 2 bytes) version ∙ ap (λ (t : List ℕ). 5 ∷ 2 ∷ t) f.parts in
    (f.written, f.rest, f.stand, whole, f.ended, f.entries)
