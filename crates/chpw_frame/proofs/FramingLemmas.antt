-- Texts and their parts.
use Rattle.std.proofs.Common.{◌≡◌, ℕ, zero, suc, ◌+◌, ◌<◌, ◌≤◌, ◌^◌, List, [], ◌∷◌, ◌++◌, true, false, length, take}
use Rattle.std.proofs.Common.{drop, Some, None, refl, sym, ◌∙◌, ap, subst, arith, length-append, get_or, lit<}
use Rattle.std.specs.Prelude.{nat_lt, ◌==◌, Bool, not, ◌&&◌, ◌||◌, if◌then◌else◌, All}
use Rattle.std.specs.Int.{from_be_bytes, to_be_bytes, w16}
use Rattle.std.specs.List.{list_any}
use Rattle.krb_codec.proofs.CompleteLemmas.{and_true}
use Rattle.std.proofs.lemmas.Nat.{from_be_bytes-to_be_bytes_2, be_bytes_2}
use Rattle.std.proofs.lemmas.List.{take-append-drop, length-take-le}
use Rattle.std.proofs.lemmas.List.Elements.{All-take, All-drop, All-head, All-tail}
use Rattle.std.proofs.Math.Seq.{take-append_seam, drop-append_seam}
use Rattle.chpw_frame.specs.declared.fault.FrameFault.TheVariants.{BadLength, BadVersion, BadParts}
use Rattle.chpw_frame.specs.Stream.{longest}
use Rattle.chpw_frame.specs.Framing.{header_length, number_at, version_of, ap_length_of, ap_of, tail_of, is_whole, is_past_end, framed}
use Rattle.chpw_frame.specs.Laws.{FramedIsWhole, WholeIsFramed}
use Rattle.chpw_frame.proofs.Tests.{is_same, not_zero, not_below, same_is, not_below_is}

module _ (version : ℕ) (xs tail : List ℕ) where
  pub framed_length : length (framed version xs tail) ≡ header_length + length xs + length tail
  framed_length = let e = length-append xs tail in omega (arith, e)

  length_is : header_length + length xs + length tail ≤ longest → number_at (framed version xs tail) 0 ≡ header_length + length xs + length tail
  length_is h = from_be_bytes-to_be_bytes_2 (header_length + length xs + length tail) (omega (arith, h))

  version_is : version < 2 ^ 16 → version_of (framed version xs tail) ≡ version
  version_is h = from_be_bytes-to_be_bytes_2 version h

  ap_length_is : header_length + length xs + length tail ≤ longest → ap_length_of (framed version xs tail) ≡ length xs
  ap_length_is h = from_be_bytes-to_be_bytes_2 (length xs) (omega (arith, h))

  ap_is : header_length + length xs + length tail ≤ longest → ap_of (framed version xs tail) ≡ xs
  ap_is h = ap (λ (n : ℕ). take n (xs ++ tail)) (ap_length_is h) ∙ take-append_seam xs tail

  tail_is : header_length + length xs + length tail ≤ longest → tail_of (framed version xs tail) ≡ tail
  tail_is h = ap (λ (n : ℕ). drop n (xs ++ tail)) (ap_length_is h) ∙ drop-append_seam xs tail

-- an AP part that may be empty, or isn't
no_parts_fault : (may_be_empty : Bool) (n : ℕ) → (may_be_empty ≡ false → 0 < n) → (not may_be_empty && (n == 0)) ≡ false
no_parts_fault true n h = refl
no_parts_fault false n h = not_zero n (h refl)

pub framed_is_whole : FramedIsWhole
framed_is_whole versions may_be_empty version xs tail taken v some h =
    let text = framed version xs tail in
    let size = framed_length version xs tail in
    let stated = length_is version xs tail h in
    let a : nat_lt (length text) header_length ≡ false = not_below _ _ (omega (arith, size)) in
    let b : (number_at text 0 == length text) ≡ true = is_same _ _ (stated ∙ sym size) in
    let c : list_any (λ w. w == version_of text) versions ≡ true = ap (λ (n : ℕ). list_any (λ w. w == n) versions) (version_is version xs tail v) ∙ taken in
    let ap_length = ap_length_is version xs tail h in
    let d : nat_lt (length text) (header_length + ap_length_of text) ≡ false = not_below _ _ (omega (arith, size, ap_length)) in
    let e : (not may_be_empty && (ap_length_of text == 0)) ≡ false =
    ap (λ (n : ℕ). not may_be_empty && (n == 0)) ap_length ∙ no_parts_fault may_be_empty (length xs) some in
    (rw (a, b, c, e, d) refl, version_is version xs tail v, ap_is version xs tail h, tail_is version xs tail h)

-- what no fault says
pub cleared : (whole taken parts : Bool) → (if not whole
    then Some BadLength else if not taken then Some BadVersion else if parts then Some BadParts else None) ≡ None
    → (whole ≡ true) × (taken ≡ true) × (parts ≡ false)
cleared true true false h = (refl, refl, refl)
cleared whole taken parts h = cc

pub neither : (a b : Bool) → (a || b) ≡ false → (a ≡ false) × (b ≡ false)
neither true b h = cc
neither false b h = (refl, h)

-- the bytes of a list of bytes
pub bytes_at : (xs : List ℕ) → All (λ b. b < 256) xs → (i : ℕ) → get_or xs i 0 < 256
bytes_at [] h i = lit< tt
bytes_at (x ∷ xs) h zero = All-head (λ b. b < 256) x xs h
bytes_at (x ∷ xs) h (suc i) = bytes_at xs (All-tail (λ b. b < 256) x xs h) i

-- a field of a header, by its two bytes
field_is : (bytes : List ℕ) → All (λ b. b < 256) bytes → length bytes ≡ 2 → (n : ℕ) → n ≡ from_be_bytes w16 bytes → to_be_bytes w16 n ≡ bytes
field_is bytes small two n e = be_bytes_2 bytes n two (bytes_at bytes small) e

length-parts : (n : ℕ) (rest : List ℕ) → length (take n rest) + length (drop n rest) ≡ length rest
length-parts n rest = sym (length-append (take n rest) (drop n rest)) ∙ ap length (take-append-drop n rest)

pub whole_is_framed : WholeIsFramed
whole_is_framed versions may_be_empty (a ∷ b ∷ c ∷ d ∷ e ∷ f ∷ rest) small none =
    let bytes : List ℕ = a ∷ b ∷ c ∷ d ∷ e ∷ f ∷ rest in
    let n : ℕ = ap_length_of bytes in
    let clear = cleared (is_whole bytes) (list_any (λ v. v == version_of bytes) versions) ((not may_be_empty && (n == 0)) || is_past_end bytes) none in
    let stated : number_at bytes 0 ≡ length bytes = same_is (number_at bytes 0) (length bytes)
    (and_true (not (nat_lt (length bytes) header_length)) (number_at bytes 0 == length bytes) clear.0).1 in
    let within : header_length + n ≤ length bytes = not_below_is (length bytes)
    (header_length + n) (neither (not may_be_empty && (n == 0)) (is_past_end bytes) clear.2).1 in
    let ap_length : length (take n rest) ≡ n = length-take-le n rest (omega (arith, within)) in
    let sum = length-parts n rest in
    let whole : header_length + length (take n rest) + length (drop n rest) ≡ number_at bytes 0 = omega (arith, sum, stated) in
    let byte =
    λ (k : ℕ). λ (zs : List ℕ). λ (h : take 2 (drop k bytes) ≡ zs). subst (λ (ys : List ℕ). All (λ b. b < 256) ys) h
    (All-take (λ b. b < 256) 2 (drop k bytes) (All-drop (λ b. b < 256) k bytes small)) in
    let l : to_be_bytes w16 (header_length + length (take n rest) + length (drop n rest)) ≡ a ∷ b ∷ [] =
    field_is (a ∷ b ∷ []) (byte 0 (a ∷ b ∷ []) refl) refl _ whole in
    let v : to_be_bytes w16 (version_of bytes) ≡ c ∷ d ∷ [] = field_is (c ∷ d ∷ []) (byte 2 (c ∷ d ∷ []) refl) refl _ refl in
    let m : to_be_bytes w16 (length (take n rest)) ≡ e ∷ f ∷ [] = field_is (e ∷ f ∷ []) (byte 4 (e ∷ f ∷ []) refl) refl _ ap_length in
    sym (ap (λ (ls : List ℕ). ls ++ to_be_bytes w16 (version_of bytes) ++ to_be_bytes w16 (length (take n rest)) ++ take n rest ++ drop n rest) l
    ∙ ap (λ (vs : List ℕ). (a ∷ b ∷ []) ++ vs ++ to_be_bytes w16 (length (take n rest)) ++ take n rest ++ drop n rest) v
    ∙ ap (λ (ms : List ℕ). (a ∷ b ∷ []) ++ (c ∷ d ∷ []) ++ ms ++ take n rest ++ drop n rest) m
    ∙ ap (λ (zs : List ℕ). a ∷ b ∷ c ∷ d ∷ e ∷ f ∷ zs) (take-append-drop n rest))
whole_is_framed versions may_be_empty bytes small none = cc
