-- Fields and entries that were written are read again.
use Rattle.std.proofs.Common.{◌≡◌, ℕ, ℤ, suc, ◌^◌, ◌<◌, ltb, List, [], ◌∷◌, ◌++◌, length, Some, false, refl, ap, ◌∙◌, append_assoc, arith}
use Rattle.std.specs.Int.{Width, w8, w16, w32, byte_len, cast_signed, cast_unsigned, from_be_bytes, to_be_bytes}
use Rattle.std.specs.Int.RustNames.{FitsSigned}
use Rattle.std.proofs.lemmas.Int.{ints}
use Rattle.std.specs.List.{flat_map, AllByRecursion}
use Rattle.std.proofs.lemmas.Bool.{le-ltb}
use Rattle.std.proofs.lemmas.List.{take_at, drop_at, length-append}
use Rattle.std.proofs.lemmas.List.Concat.{flat_map-cons}
use Rattle.std.proofs.lemmas.Nat.{from_be_bytes-to_be_bytes_2, from_be_bytes-to_be_bytes_4}
use Rattle.krb_keytab.specs.Entries.{Entry, number_at, counted_at, components_at, entry_at}
use Rattle.krb_keytab.specs.Written.{counted, fields, IsShort, Fits}

record IsWide (w : Width) (limit : ℕ) : Type 0 where
  len : (n : ℕ) → length (to_be_bytes w n) ≡ byte_len w
  again : (n : ℕ) → n < limit → from_be_bytes w (to_be_bytes w n) ≡ n

wide8 : IsWide w8 (2 ^ 8)
wide8 = record { len = λ n. refl; again = λ n lt. omega arith }

wide16 : IsWide w16 (2 ^ 16)
wide16 = record { len = λ n. refl; again = λ n lt. from_be_bytes-to_be_bytes_2 n lt }

wide32 : IsWide w32 (2 ^ 32)
wide32 = record { len = λ n. refl; again = λ n lt. from_be_bytes-to_be_bytes_4 n lt }

number_again : (w : Width) (limit : ℕ) (wide : IsWide w limit) (n : ℕ) (rest : List ℕ) → n < limit → number_at w (to_be_bytes w n ++ rest) ≡ Some (n, rest)
unfolding number_at
number_again w limit wide n rest lt =
    let len = wide.len n in
    let long : ltb (length (to_be_bytes w n ++ rest)) (byte_len w) ≡ false = le-ltb _ _ (omega (arith, length-append (to_be_bytes w n) rest)) in
    rw (long, take_at (to_be_bytes w n) rest (byte_len w) len, drop_at (to_be_bytes w n) rest (byte_len w) len, wide.again n lt) refl

counted_again : (bytes rest : List ℕ) → IsShort bytes → counted_at (counted bytes ++ rest) ≡ Some (bytes, rest)
unfolding counted_at
counted_again bytes rest short =
    let long : ltb (length (bytes ++ rest)) (length bytes) ≡ false = le-ltb _ _ (omega (arith, length-append bytes rest)) in
    rw (
      number_again w16 (2 ^ 16) wide16 (length bytes) (bytes ++ rest) short,
      long,
      take_at bytes rest (length bytes) refl,
      drop_at bytes rest (length bytes) refl,
    ) refl

components_again : (cs : List (List ℕ)) (rest : List ℕ) → AllByRecursion IsShort cs → components_at (length cs) (flat_map counted cs ++ rest) ≡ Some (cs, rest)
unfolding components_at
components_again [] rest short = refl
components_again (c ∷ cs) rest short =
    let regrouped : flat_map counted (c ∷ cs) ++ rest ≡ counted c ++ (flat_map counted cs ++ rest) =
    ap (λ (x : List ℕ). x ++ rest) (flat_map-cons counted c cs)
    ∙ append_assoc (counted c) (flat_map counted cs) rest in
    ap (components_at (suc (length cs))) regrouped ∙ rw (counted_again c (flat_map counted cs ++ rest) short.0, components_again cs rest short.1) refl

-- a signed number, and the one that its two bytes hold
small : (z : ℤ) → FitsSigned w16 z → cast_unsigned w16 z < 2 ^ 16
small z fits = omega (arith, ints)

signed_again : (z : ℤ) → FitsSigned w16 z → cast_signed w16 (cast_unsigned w16 z) ≡ z
signed_again z fits = omega (arith, ints)

pub entry_again : (e : Entry) (short : ℕ) (after_key : List ℕ) → Fits e short after_key → entry_at e.place (fields e short after_key) ≡ Some e
unfolding entry_at
entry_again e short after_key fits =
    let after_etype : List ℕ = counted e.key ++ after_key in
    let after_short : List ℕ = to_be_bytes w16 (cast_unsigned w16 e.etype) ++ after_etype in
    let after_time : List ℕ = to_be_bytes w8 short ++ after_short in
    let after_type : List ℕ = to_be_bytes w32 e.timestamp ++ after_time in
    let after_names : List ℕ = to_be_bytes w32 e.name_type ++ after_type in
    let after_realm : List ℕ = flat_map counted e.components ++ after_names in
    let after_count : List ℕ = counted e.realm ++ after_realm in
    rw (
      number_again w16 (2 ^ 16) wide16 (length e.components) after_count fits.count,
      counted_again e.realm after_realm fits.realm,
      components_again e.components after_names fits.components,
      number_again w32 (2 ^ 32) wide32 e.name_type after_type fits.name_type,
      number_again w32 (2 ^ 32) wide32 e.timestamp after_time fits.timestamp,
      number_again w8 (2 ^ 8) wide8 short after_short fits.short_kvno,
      number_again w16 (2 ^ 16) wide16 (cast_unsigned w16 e.etype) after_etype (small e.etype fits.etype),
      signed_again e.etype fits.etype,
      counted_again e.key after_key fits.key,
      fits.kvno,
    ) refl
