-- Known bytes, read part by part into a buffer.
use Rattle.std.proofs.Common.{◌≡◌, ℕ, ◌+◌, ◌≤◌, List, [], ◌++◌, length, take, Option, Some, None, sym, ◌∙◌, ap, append_assoc, arith, length-append, refl}
use Rattle.std.proofs.lemmas.List.{take-append-le, length-take-le}
use Rattle.std.proofs.Math.Seq.{take-append-add}
use borrow.Rule.Slice.PartMut.{put_mid, post_of}
use Rattle.std.specs.Io.KnownBytes.{Consumes}

pub consumes_none : (a : Option (List ℕ)) → Consumes a a []
consumes_none None = tt
consumes_none (Some xs) = refl

pub consumes_more : (a b c : Option (List ℕ)) (xs ys : List ℕ) → Consumes a b xs → Consumes b c ys → Consumes a c (xs ++ ys)
consumes_more None b c xs ys h g = tt
consumes_more (Some ws) None c xs ys h g = absurd h
consumes_more (Some ws) (Some bs) None xs ys h g = absurd g
consumes_more (Some ws) (Some bs) (Some cs) xs ys h g = h ∙ (ap (λ (zs : List ℕ). xs ++ zs) g ∙ sym (append_assoc xs ys cs))

-- a part's front was written
pub put_front : (a k : ℕ) (xs ys : List ℕ) (n : ℕ) → a ≤ length xs → n ≤ length ys → take (a + n) (put_mid a k xs ys) ≡ take a xs ++ take n ys
put_front a k xs ys n h g =
    let e : length (take a xs) ≡ a = length-take-le a xs h in
    let t : take (length (take a xs) + n) (take a xs ++ (ys ++ post_of a k xs))
    ≡ take a xs ++ take n (ys ++ post_of a k xs) = take-append-add (take a xs) (ys ++ post_of a k xs) n in
    let u : take n (ys ++ post_of a k xs) ≡ take n ys = take-append-le n ys (post_of a k xs) g in
    ap (λ (m : ℕ). take (m + n) (put_mid a k xs ys)) (sym e) ∙ (t ∙ ap (λ (zs : List ℕ). take a xs ++ zs) u)

pub put_room : (a k : ℕ) (xs ys : List ℕ) (n : ℕ) → a ≤ length xs → n ≤ length ys → a + n ≤ length (put_mid a k xs ys)
put_room a k xs ys n h g =
    let e : length (put_mid a k xs ys) ≡ a + (length ys + length (post_of a k xs)) =
    length-append (take a xs) (ys ++ post_of a k xs)
    ∙ (ap (λ (m : ℕ). m + length (ys ++ post_of a k xs)) (length-take-le a xs h)
    ∙ ap (λ (m : ℕ). a + m) (length-append ys (post_of a k xs))) in
    omega (arith, e, g)
