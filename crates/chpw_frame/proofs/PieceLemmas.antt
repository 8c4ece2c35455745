-- The next piece of a stream, by what was read of it.
use Rattle.std.proofs.Common.{◌≡◌, ℕ, ◌+◌, ◌≤◌, ◌<◌, List, ◌++◌, length, take, drop, Option, Some, None, refl, sym, ◌∙◌, ap, arith, length-append, inr}
use Rattle.std.proofs.lemmas.List.{append-nil, length-take-le, drop-drop}
use Rattle.std.proofs.Math.Seq.{take-append_seam, drop-append_seam}
use Rattle.std.proofs.lemmas.Nat.{from_be_bytes-to_be_bytes_4}
use Rattle.std.specs.Int.{from_be_bytes, to_be_bytes, w32}
use Rattle.std.specs.Io.KnownBytes.{Consumes, IsAtEnd}
use Rattle.chpw_frame.specs.Stream.{message, cut_off, too_long, next_piece, after_piece, stated_length, sent, longest}
use Rattle.chpw_frame.specs.Receiving.{TakesPiece, ConsumesSome, IsLength}
use Rattle.chpw_read_fully.proofs.FillingLemmas.{consumes_more}
use Rattle.chpw_frame.proofs.Tests.{is_below, not_below}

-- the tests of a stream's front
pub is_cut_off : (s : List ℕ) → 0 < length s → length s < 4 → next_piece s ≡ cut_off
is_cut_off s h g =
    let a = not_below (length s) 1 (omega arith) in
    let b = is_below (length s) 4 g in
    rw (a, b) refl

pub is_too_long : (s : List ℕ) → 4 ≤ length s → longest < stated_length s → next_piece s ≡ too_long
is_too_long s h g =
    let a = not_below (length s) 1 (omega arith) in
    let b = not_below (length s) 4 h in
    let c = is_below longest (stated_length s) g in
    rw (a, b, c) refl

pub is_cut_short : (s : List ℕ) → 4 ≤ length s → stated_length s ≤ longest → length s < 4 + stated_length s → next_piece s ≡ cut_off
is_cut_short s h g k =
    let a = not_below (length s) 1 (omega arith) in
    let b = not_below (length s) 4 h in
    let c = not_below longest (stated_length s) g in
    let d = is_below (length s) (4 + stated_length s) k in
    rw (a, b, c, d) refl

pub is_message : (s : List ℕ) → stated_length s ≤ longest → 4 + stated_length s ≤ length s → next_piece s ≡ message (take (stated_length s) (drop 4 s))
is_message s g k =
    let a = not_below (length s) 1 (omega arith) in
    let b = not_below (length s) 4 (omega arith) in
    let c = not_below longest (stated_length s) g in
    let d = not_below (length s) (4 + stated_length s) k in
    rw (a, b, c, d) refl

pub dropped : (s body left : List ℕ) (k : ℕ) → drop k s ≡ body ++ left → drop (k + length body) s ≡ left
dropped s body left k h = sym (drop-drop (length body) k s) ∙ (ap (λ (zs : List ℕ). drop (length body) zs) h ∙ drop-append_seam body left)

-- a stream that begins with these four bytes
module _ (header : List ℕ) (n : ℕ) (h : IsLength header n) (more : List ℕ) where
  front : take 4 (header ++ more) ≡ header
  front = ap (λ (k : ℕ). take k (header ++ more)) (sym h.0) ∙ take-append_seam header more

  back : drop 4 (header ++ more) ≡ more
  back = ap (λ (k : ℕ). drop k (header ++ more)) (sym h.0) ∙ drop-append_seam header more

  stated : stated_length (header ++ more) ≡ n
  stated = ap (from_be_bytes w32) front ∙ h.1

  size : length (header ++ more) ≡ 4 + length more
  size = length-append header more ∙ ap (λ (k : ℕ). k + length more) h.0

pub takes_short : (old mid new : Option (List ℕ)) (header : List ℕ) (n : ℕ) (buffer : List ℕ) (count : ℕ)
    → IsLength header n → n ≤ longest → length buffer ≡ n → count < n
    → Consumes old mid header → Consumes mid new (take count buffer) → IsAtEnd new → TakesPiece cut_off old new
takes_short None mid new header n buffer count h g l k c d e = tt
takes_short (Some s) None new header n buffer count h g l k c d e = absurd c
takes_short (Some s) (Some t) None header n buffer count h g l k c d e = absurd d
takes_short (Some s) (Some t) (Some left) header n buffer count h g l k c d e =
    let all : t ≡ take count buffer = d ∙ (ap (λ (zs : List ℕ). take count buffer ++ zs) e ∙ append-nil (take count buffer)) in
    let part : length t ≡ count = ap length all ∙ length-take-le count buffer (omega (arith, l, k)) in
    let st : stated_length s ≡ n = ap stated_length c ∙ stated header n h t in
    let sz : length s ≡ 4 + length t = ap length c ∙ size header n h t in
    (is_cut_short s (omega (arith, sz)) (omega (arith, st, g)) (omega (arith, sz, st, part, k)), e)

pub takes_message : (old mid new : Option (List ℕ)) (header : List ℕ) (n : ℕ) (body : List ℕ)
    → IsLength header n → n ≤ longest
    → length body ≡ n → Consumes old mid header → Consumes mid new body → TakesPiece (message body) old new
takes_message None mid new header n body h g l c d = tt
takes_message (Some s) None new header n body h g l c d = absurd c
takes_message (Some s) (Some t) None header n body h g l c d = absurd d
takes_message (Some s) (Some t) (Some left) header n body h g l c d =
    let st : stated_length s ≡ n = ap stated_length c ∙ stated header n h t in
    let sz : length s ≡ 4 + length t = ap length c ∙ size header n h t in
    let bk : drop 4 s ≡ body ++ left = ap (λ (zs : List ℕ). drop 4 zs) c ∙ (back header n h t ∙ d) in
    let szt : length t ≡ length body + length left = ap length d ∙ length-append body left in
    let got : take (stated_length s) (drop 4 s) ≡ body =
    ap (λ (k : ℕ). take k (drop 4 s)) (st ∙ sym l) ∙ (ap (λ (zs : List ℕ). take (length body) zs) bk ∙ take-append_seam body left) in
    (is_message s (omega (arith, st, g)) (omega (arith, sz, szt, st, l)) ∙ ap message got, sym (dropped s body left 4 bk))

-- what was taken before a read failed
pub begun_body : (old mid new : Option (List ℕ)) (header : List ℕ) (n : ℕ) (buffer : List ℕ) (count : ℕ)
    → IsLength header n → n ≤ longest → length buffer ≡ n
    → count < n → Consumes old mid header → Consumes mid new (take count buffer) → ConsumesSome old new
begun_body old mid new header n buffer count h g l k c d =
    let body : List ℕ = take count buffer in
    let part : length body ≡ count = length-take-le count buffer (omega (arith, l, k)) in
    let st : stated_length (header ++ body) ≡ n = stated header n h body in
    let sz : length (header ++ body) ≡ 4 + length body = size header n h body in (
      header ++ body,
      consumes_more old mid new header body c d,
      inr (is_cut_short (header ++ body) (omega (arith, sz)) (omega (arith, st, g)) (omega (arith, sz, st, part, k))),
    )

-- what was sent is the next piece
pub sent_is_next : (bytes left : List ℕ) → length bytes ≤ longest
    → (next_piece (sent bytes ++ left) ≡ message bytes) × (after_piece (message bytes) (sent bytes ++ left) ≡ left)
sent_is_next bytes left g =
    let h : IsLength (to_be_bytes w32 (length bytes)) (length bytes) = (refl, from_be_bytes-to_be_bytes_4 (length bytes) (omega (arith, g))) in
    let t = takes_message (Some (sent bytes ++ left))
    (Some (bytes ++ left)) (Some left) (to_be_bytes w32 (length bytes)) (length bytes) bytes h g refl refl refl in
    (t.0, sym t.1)
