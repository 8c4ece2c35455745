use Rattle.std.proofs.Common.{◌≡◌, ℕ, List, ◌++◌, length, refl, ap, ◌∙◌, arith, append-nil}
use Rattle.std.proofs.lemmas.List.{take_at, drop_at, drop_all}
use borrow.Rule.Slice.PartMut.{put_mid}
use Rattle.krb_keys.proofs.derivation.two_blocks.Goals as goal

-- the second half of a list is replaced
second_half : (xs zs ys : List ℕ) (n : ℕ) → length xs ≡ n → length zs ≡ n → put_mid n n (xs ++ zs) ys ≡ xs ++ ys
second_half xs zs ys n lx lz =
    rw (take_at xs zs n lx, drop_at xs zs n lx, drop_all n zs (omega arith)) (ap (λ (l : List ℕ). xs ++ l) (append-nil ys))

pub returns : goal.returns
returns c =
    second_half c.copy_from_slice.new.self _ c.copy_from_slice-2.new.self 16 (omega arith) refl
    ∙ rw (c.copy_from_slice.ensures.after, c.copy_from_slice-2.ensures.after) refl
