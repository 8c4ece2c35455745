-- Three texts that are put one behind the other.
use Rattle.std.proofs.Common.{◌≡◌, ◌∙◌, ap, ℕ, List, ◌++◌, append_assoc, Result, Ok, Err, OnOk}

pub three : (old one two new x y z : List ℕ) → one ≡ old ++ x → two ≡ one ++ y → new ≡ two ++ z → new ≡ old ++ ((x ++ y) ++ z)
three old one two new x y z e f g =
    let both : two ≡ old ++ (x ++ y) = f ∙ (ap (λ (l : List ℕ). l ++ y) e ∙ append_assoc old x y) in
    g ∙ (ap (λ (l : List ℕ). l ++ z) both ∙ append_assoc old (x ++ y) z)

pub put_three : {E : Type 0} (result : Result Unit E) (old one two new x y z : List ℕ) → one ≡ old ++ x → two ≡ one ++ y
    → OnOk result (new ≡ two ++ z) → OnOk result (new ≡ old ++ ((x ++ y) ++ z))
put_three (Ok done) old one two new x y z e f g = three old one two new x y z e f g
put_three (Err fault) old one two new x y z e f g = g
