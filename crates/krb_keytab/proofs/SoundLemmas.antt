-- What is read was written so: fields, entries and records.
use Rattle.std.proofs.Common.{◌≡◌, ℕ, zero, suc, ◌+◌, ◌^◌, ◌<◌, ◌≤◌, Bool, true, false, cond}
use Rattle.std.proofs.Common.{ltb, List, [], ◌∷◌, ◌++◌, length, get_or, take, drop, Option, Some}
use Rattle.std.proofs.Common.{None, refl, sym, ap, subst, ◌∙◌, append_assoc, arith, inl, inr}
use Rattle.std.specs.Int.{Width, w8, w16, w32, byte_len, cast_signed, cast_unsigned, from_be_bytes, to_be_bytes}
use Rattle.std.specs.Int.RustNames.{FitsSigned}
use Rattle.std.specs.List.{flat_map, AllByRecursion}
use Rattle.std.proofs.lemmas.Bool.{cases_lt, ltb-false}
use Rattle.std.proofs.lemmas.List.{take-append-drop, length-take, get_or-drop, get_or-take, get_or_past}
use Rattle.std.proofs.lemmas.List.Concat.{flat_map-cons}
use Rattle.std.proofs.lemmas.Int.{ints, of_z-to_z}
use Rattle.std.proofs.lemmas.Nat.{be_bytes_2, be_bytes_4}
use Rattle.krb_keytab.specs.Entries.{Entry, ◌>>=◌, number_at, counted_at, components_at, kvno_of, entry_at}
use Rattle.krb_keytab.specs.Written.{counted, fields, IsShort, Fits}

abbrev pub IsBytes : List ℕ → Type 0
IsBytes bytes = (i : ℕ) → get_or bytes i 0 < 256

pub IsBytes-drop : (n : ℕ) (bytes : List ℕ) → IsBytes bytes → IsBytes (drop n bytes)
IsBytes-drop n bytes h i = rw get_or-drop (h (n + i))

pub IsBytes-take : (n : ℕ) (bytes : List ℕ) → IsBytes bytes → IsBytes (take n bytes)
IsBytes-take n bytes h i =
    elim (cases_lt i n) [
      | inl lt ↦ rw (get_or-take n bytes i 0 lt) (h i)
      | inr le ↦ rw (get_or_past (take n bytes) i 0 (omega (arith, length-take n bytes))) (omega arith)
    ]

-- a step that found something
bind_some : {A B : Type 0} (r : Option A) (f : A → Option B) (y : B) → (r >>= f) ≡ Some y → (x : A) × (r ≡ Some x) × (f x ≡ Some y)
bind_some (Some x) f y e = (x, refl, e)
bind_some None f y e = absurd cc

guard_some : {A : Type 0} (b : Bool) (x y : A) → cond b None (Some x) ≡ Some y → (b ≡ false) × (x ≡ y)
guard_some true x y e = absurd cc
guard_some false x y e = (refl, cc)

abbrev done : {A : Type 0} → A → Option A
done x = Some x

some_is : {A : Type 0} (x y : A) → done x ≡ done y → x ≡ y
some_is x y e = cc

-- ---- numbers

pub record IsSound (w : Width) (limit : ℕ) : Type 0 where
  pub back : (bytes : List ℕ) → length bytes ≡ byte_len w → IsBytes bytes → to_be_bytes w (from_be_bytes w bytes) ≡ bytes
  pub below : (bytes : List ℕ) → IsBytes bytes → from_be_bytes w bytes < limit

back_8 : (bytes : List ℕ) → length bytes ≡ 1 → IsBytes bytes → to_be_bytes w8 (from_be_bytes w8 bytes) ≡ bytes
back_8 [] len fits = absurd (omega arith)
back_8 (b ∷ []) len fits = let small = fits 0 in ap (λ (n : ℕ). n ∷ []) (omega (arith, small))
back_8 (a ∷ b ∷ bytes) len fits = absurd (omega arith)

sound8 : IsSound w8 (2 ^ 8)
sound8 = record { back = back_8; below = λ bytes fits. omega (arith, fits 0) }

sound16 : IsSound w16 (2 ^ 16)
sound16 = record { back = λ bytes len fits. be_bytes_2 bytes _ len fits refl; below = λ bytes fits. omega (arith, fits 0, fits 1) }

pub sound32 : IsSound w32 (2 ^ 32)
sound32 = record { back = λ bytes len fits. be_bytes_4 bytes _ len fits refl; below = λ bytes fits. omega (arith, fits 0, fits 1, fits 2, fits 3) }

number_takes : (w : Width) (limit : ℕ) (sound : IsSound w limit) (bytes : List ℕ) (n : ℕ) (rest : List ℕ) → IsBytes bytes → number_at w bytes ≡ Some (n, rest)
    → (bytes ≡ to_be_bytes w n ++ rest) × IsBytes rest × (n < limit)
unfolding number_at
number_takes w limit sound bytes n rest fits e =
    let front : List ℕ = take (byte_len w) bytes in
    let g = guard_some (ltb (length bytes) (byte_len w)) (from_be_bytes w front, drop (byte_len w) bytes) (n, rest) e in
    let long : byte_len w ≤ length bytes = ltb-false _ _ g.0 in
    let is : to_be_bytes w (from_be_bytes w front) ≡ front =
    sound.back front (omega (arith, length-take (byte_len w) bytes)) (IsBytes-take (byte_len w) bytes fits) in
    let parts : bytes ≡ to_be_bytes w (from_be_bytes w front) ++ drop (byte_len w) bytes =
    sym (take-append-drop (byte_len w) bytes) ∙ ap (λ (t : List ℕ). t ++ drop (byte_len w) bytes) (sym is) in
    subst (λ (p : ℕ × List ℕ). (bytes ≡ to_be_bytes w p.0 ++ p.1) × IsBytes p.1 × (p.0 < limit)) g.1
    (parts, IsBytes-drop (byte_len w) bytes fits, sound.below front (IsBytes-take (byte_len w) bytes fits))

-- ---- bytes after their count, and lists of them

counted_takes : (bytes text rest : List ℕ) → IsBytes bytes → counted_at bytes ≡ Some (text, rest) → (bytes ≡ counted text ++ rest) × IsBytes rest × IsShort text
unfolding counted_at
counted_takes bytes text rest fits e =
    let b = bind_some (number_at w16 bytes) (λ n. cond (ltb (length n.1) n.0) None (Some (take n.0 n.1, drop n.0 n.1))) (text, rest) e in
    let n = b.0 in
    let t = number_takes w16 (2 ^ 16) sound16 bytes n.0 n.1 fits b.1 in
    let g = guard_some (ltb (length n.1) n.0) (take n.0 n.1, drop n.0 n.1) (text, rest) b.2 in
    let long : n.0 ≤ length n.1 = ltb-false _ _ g.0 in
    let len : length (take n.0 n.1) ≡ n.0 = omega (arith, length-take n.0 n.1) in
    let parts : bytes ≡ to_be_bytes w16 n.0 ++ (take n.0 n.1 ++ drop n.0 n.1) =
    t.0 ∙ ap (λ (r : List ℕ). to_be_bytes w16 n.0 ++ r) (sym (take-append-drop n.0 n.1)) in
    let whole : bytes ≡ counted (take n.0 n.1) ++ drop n.0 n.1 = parts ∙ ap (λ (k : ℕ). to_be_bytes w16 k ++ (take n.0 n.1 ++ drop n.0 n.1)) (sym len) in
    subst (λ (p : List ℕ × List ℕ). (bytes ≡ counted p.0 ++ p.1) × IsBytes p.1 × IsShort p.0) g.1 (whole, IsBytes-drop n.0 n.1 t.1, omega (arith, t.2))

components_take : (n : ℕ) (bytes : List ℕ) (x : List (List ℕ) × List ℕ) → IsBytes bytes → components_at n bytes ≡ Some x
    → (bytes ≡ flat_map counted x.0 ++ x.1) × IsBytes x.1 × (length x.0 ≡ n) × AllByRecursion IsShort x.0
unfolding components_at
components_take zero bytes x fits e =
    subst (λ (y : List (List ℕ) × List ℕ). (bytes ≡ flat_map counted y.0 ++ y.1)
    × IsBytes y.1 × (length y.0 ≡ 0) × AllByRecursion IsShort y.0) (some_is ([], bytes) x e) (refl, fits, refl, tt)
components_take (suc n) bytes x fits e =
    let a = bind_some (counted_at bytes) (λ first. components_at n first.1 >>= λ others. Some (first.0 ∷ others.0, others.1)) x e in
    let b = bind_some (components_at n a.0.1) (λ others. Some (a.0.0 ∷ others.0, others.1)) x a.2 in
    let first = counted_takes bytes a.0.0 a.0.1 fits a.1 in
    let second = components_take n a.0.1 b.0 first.1 b.1 in
    let made : List (List ℕ) × List ℕ = (a.0.0 ∷ b.0.0, b.0.1) in
    let regrouped : flat_map counted (a.0.0 ∷ b.0.0) ++ b.0.1 ≡ counted a.0.0 ++ (flat_map counted b.0.0 ++ b.0.1) =
    ap (λ (t : List ℕ). t ++ b.0.1) (flat_map-cons counted a.0.0 b.0.0)
    ∙ append_assoc (counted a.0.0) (flat_map counted b.0.0) b.0.1 in
    let parts : bytes ≡ flat_map counted (a.0.0 ∷ b.0.0) ++ b.0.1 = first.0 ∙ ap (λ (t : List ℕ). counted a.0.0 ++ t) second.0 ∙ sym regrouped in
    subst (λ (y : List (List ℕ) × List ℕ). (bytes ≡ flat_map counted y.0 ++ y.1) × IsBytes y.1 × (length y.0 ≡ suc n)
    × AllByRecursion IsShort y.0) (some_is made x b.2) (parts, second.1, ap suc second.2, (first.2, second.3))

-- ---- an entry

-- a number of two bytes as a signed one
signed_fits : (n : ℕ) → n < 2 ^ 16 → FitsSigned w16 (cast_signed w16 n)
signed_fits n lt = omega (arith, ints)

-- what entry_at does after each of its fields
abbrev from_key : (place : ℕ) (realm : List ℕ) (components : List (List ℕ)) (name_type timestamp short etype : ℕ) → List ℕ × List ℕ → Option Entry
from_key place realm components name_type timestamp short etype key = Some (record {
  place = place;
  realm = realm;
  components = components;
  name_type = name_type;
  timestamp = timestamp;
  kvno = kvno_of short (number_at w32 key.1);
  etype = cast_signed w16 etype;
  key = key.0;
})

abbrev from_etype : (place : ℕ) (realm : List ℕ) (components : List (List ℕ)) (name_type timestamp short : ℕ) → ℕ × List ℕ → Option Entry
from_etype place realm components name_type timestamp short etype = counted_at etype.1 >>= from_key place realm components name_type timestamp short etype.0

abbrev from_short : (place : ℕ) (realm : List ℕ) (components : List (List ℕ)) (name_type timestamp : ℕ) → ℕ × List ℕ → Option Entry
from_short place realm components name_type timestamp short = number_at w16 short.1 >>= from_etype place realm components name_type timestamp short.0

abbrev from_timestamp : (place : ℕ) (realm : List ℕ) (components : List (List ℕ)) (name_type : ℕ) → ℕ × List ℕ → Option Entry
from_timestamp place realm components name_type timestamp = number_at w8 timestamp.1 >>= from_short place realm components name_type timestamp.0

abbrev from_name_type : (place : ℕ) (realm : List ℕ) (components : List (List ℕ)) → ℕ × List ℕ → Option Entry
from_name_type place realm components name_type = number_at w32 name_type.1 >>= from_timestamp place realm components name_type.0

abbrev from_components : (place : ℕ) (realm : List ℕ) → List (List ℕ) × List ℕ → Option Entry
from_components place realm components = number_at w32 components.1 >>= from_name_type place realm components.0

abbrev from_realm : (place count : ℕ) → List ℕ × List ℕ → Option Entry
from_realm place count realm = components_at count realm.1 >>= from_components place realm.0

abbrev from_count : (place : ℕ) → ℕ × List ℕ → Option Entry
from_count place count = counted_at count.1 >>= from_realm place count.0

unfoldable pub IsWritten : ℕ → List ℕ → Entry → Type 0
IsWritten place bytes e = (short : ℕ) × (after_key : List ℕ) × (bytes ≡ fields e short after_key) × (e.place ≡ place) × Fits e short after_key

-- parts that follow one another
joined : (bytes a r1 b r2 c r3 d r4 e r5 f r6 g r7 h : List ℕ)
    → bytes ≡ a ++ r1 → r1 ≡ b ++ r2 → r2 ≡ c ++ r3 → r3 ≡ d ++ r4 → r4 ≡ e ++ r5 → r5 ≡ f ++ r6 → r6 ≡ g ++ r7 → r7 ≡ h
    → bytes ≡ a ++ (b ++ (c ++ (d ++ (e ++ (f ++ (g ++ h))))))
joined bytes a r1 b r2 c r3 d r4 e r5 f r6 g r7 h p0 p1 p2 p3 p4 p5 p6 p7 = rw (p0, p1, p2, p3, p4, p5, p6, p7) refl

pub entry_takes : (place : ℕ) (bytes : List ℕ) (e : Entry) → IsBytes bytes → length bytes < 2 ^ 31 → entry_at place bytes ≡ Some e → IsWritten place bytes e
unfolding entry_at IsWritten
entry_takes place bytes e fits small h =
    let count = bind_some (number_at w16 bytes) (from_count place) e h in
    let realm = bind_some (counted_at count.0.1) (from_realm place count.0.0) e count.2 in
    let names = bind_some (components_at count.0.0 realm.0.1) (from_components place realm.0.0) e realm.2 in
    let name_type = bind_some (number_at w32 names.0.1) (from_name_type place realm.0.0 names.0.0) e names.2 in
    let timestamp = bind_some (number_at w32 name_type.0.1) (from_timestamp place realm.0.0 names.0.0 name_type.0.0) e name_type.2 in
    let short = bind_some (number_at w8 timestamp.0.1) (from_short place realm.0.0 names.0.0 name_type.0.0 timestamp.0.0) e timestamp.2 in
    let etype = bind_some (number_at w16 short.0.1) (from_etype place realm.0.0 names.0.0 name_type.0.0 timestamp.0.0 short.0.0) e short.2 in
    let key = bind_some (counted_at etype.0.1) (from_key place realm.0.0 names.0.0 name_type.0.0 timestamp.0.0 short.0.0 etype.0.0) e etype.2 in
    let t0 = number_takes w16 (2 ^ 16) sound16 bytes count.0.0 count.0.1 fits count.1 in
    let t1 = counted_takes count.0.1 realm.0.0 realm.0.1 t0.1 realm.1 in
    let t2 = components_take count.0.0 realm.0.1 names.0 t1.1 names.1 in
    let t3 = number_takes w32 (2 ^ 32) sound32 names.0.1 name_type.0.0 name_type.0.1 t2.1 name_type.1 in
    let t4 = number_takes w32 (2 ^ 32) sound32 name_type.0.1 timestamp.0.0 timestamp.0.1 t3.1 timestamp.1 in
    let t5 = number_takes w8 (2 ^ 8) sound8 timestamp.0.1 short.0.0 short.0.1 t4.1 short.1 in
    let t6 = number_takes w16 (2 ^ 16) sound16 short.0.1 etype.0.0 etype.0.1 t5.1 etype.1 in
    let t7 = counted_takes etype.0.1 key.0.0 key.0.1 t6.1 key.1 in
    let made : Entry = record {
      place = place;
      realm = realm.0.0;
      components = names.0.0;
      name_type = name_type.0.0;
      timestamp = timestamp.0.0;
      kvno = kvno_of short.0.0 (number_at w32 key.0.1);
      etype = cast_signed w16 etype.0.0;
      key = key.0.0;
    } in
    let counted_in : bytes ≡ to_be_bytes w16 (length names.0.0) ++ count.0.1 = t0.0 ∙ ap (λ (n : ℕ). to_be_bytes w16 n ++ count.0.1) (sym t2.2) in
    let signed_in : short.0.1 ≡ to_be_bytes w16 (cast_unsigned w16 (cast_signed w16 etype.0.0)) ++ etype.0.1 =
    t6.0 ∙ ap (λ (n : ℕ). to_be_bytes w16 n ++ etype.0.1) (sym (of_z-to_z w16 etype.0.0 t6.2)) in
    let parts : bytes ≡ fields made short.0.0 key.0.1 =
    joined bytes (to_be_bytes w16 (length names.0.0)) count.0.1 (counted realm.0.0) realm.0.1 (flat_map counted names.0.0) names.0.1
    (to_be_bytes w32 name_type.0.0) name_type.0.1 (to_be_bytes w32 timestamp.0.0) timestamp.0.1 (to_be_bytes w8 short.0.0) short.0.1
    (to_be_bytes w16 (cast_unsigned w16 (cast_signed w16 etype.0.0))) etype.0.1 (counted key.0.0
    ++ key.0.1) counted_in t1.0 t2.0 t3.0 t4.0 t5.0 signed_in t7.0 in
    let made_fits : Fits made short.0.0 key.0.1 = record {
      realm = t1.2;
      count = subst (λ (n : ℕ). n < 2 ^ 16) (sym t2.2) t0.2;
      components = t2.3;
      name_type = t3.2;
      timestamp = t4.2;
      short_kvno = t5.2;
      etype = signed_fits etype.0.0 t6.2;
      key = t7.2;
      kvno = refl;
      size = subst (λ (t : List ℕ). length t < 2 ^ 31) parts small;
    } in
    subst (λ (x : Entry). IsWritten place bytes x) (some_is made e key.2) (short.0.0, key.0.1, parts, refl, made_fits)
