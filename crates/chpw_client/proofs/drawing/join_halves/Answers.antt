use Rattle.std.proofs.Common.{◌≡◌, ◌∙◌, ◌++◌, ◌∷◌, [], List, ℕ, ap, ap₂, length, drop, append-nil, refl, rules}
use Rattle.std.proofs.lemmas.List.{drop_at, take_at}
use borrow.Rule.Slice.PartMut.{put_mid}
use Rattle.chpw_client.proofs.drawing.join_halves.Goals as goal

abbrev zeros : List ℕ
zeros = 0 ∷ 0 ∷ 0 ∷ 0 ∷ 0 ∷ 0 ∷ 0 ∷ 0 ∷ 0 ∷ 0 ∷ 0 ∷ 0 ∷ 0 ∷ 0 ∷ 0 ∷ 0 ∷ []

-- b in the place of what lies after a
halves : (a b zeros : List ℕ) → length a ≡ 16 → drop 16 zeros ≡ []
    → put_mid 16 16 (a ++ zeros) b ≡ a ++ b
halves a b zeros n none =
    let behind : drop 16 (drop 16 (a ++ zeros)) ≡ [] = ap (drop 16) (drop_at a zeros 16 n) ∙ none in
    ap₂ (λ (xs ys : List ℕ). xs ++ (b ++ ys)) (take_at a zeros 16 n) behind ∙ ap (λ (ys : List ℕ). a ++ ys) (append-nil b)

pub returns : goal.returns
returns c =
    let n : length c.args.first ≡ 16 = search rules in
    record {
      value = ap₂ (λ (xs ys : List ℕ). put_mid 16 16 (xs ++ zeros) ys) c.copy_from_slice.ensures.after c.copy_from_slice-2.ensures.after
          ∙ halves c.args.first c.args.second zeros n refl;
    }
