use Rattle.std.proofs.Common.{rules, ◌≡◌, ◌≤◌, ◌<◌, ℕ, List, [], ◌∷◌, length, get_or, codes, ap, sym, ◌∙◌, arith}
use Rattle.krb_msgs.proofs.presenting.is_change_service.Goals as goal

-- a list of two
two_items : (xs : List (List ℕ)) (a b : List ℕ) → 2 ≤ length xs → length xs < 3 → a ≡ get_or xs 0 a → b ≡ get_or xs 1 b → a ∷ b ∷ [] ≡ xs
two_items [] a b low high p q = absurd (omega arith)
two_items (x ∷ []) a b low high p q = absurd (omega arith)
two_items (x ∷ y ∷ []) a b low high p q = ap (λ (z : List ℕ). z ∷ b ∷ []) p ∙ ap (λ (z : List ℕ). x ∷ z ∷ []) q
two_items (x ∷ y ∷ z ∷ zs) a b low high p q = absurd (omega arith)

pub returns-then-eq : goal.returns-then-eq
returns-then-eq c =
    let first = c.first-item.result in
    let second = c.second-item.result in
    let items = two_items c.args.name.now first second (omega arith) (omega arith) c.first-item.is c.second-item.is in
    let kadmin : first ≡ codes "kadmin" = search rules in (
      λ yes. let changepw : second ≡ codes "changepw" = search (rules, yes) in sym items
          ∙ ap (λ (z : List ℕ). z ∷ second ∷ []) kadmin ∙ ap (λ (z : List ℕ). codes "kadmin" ∷ z ∷ []) changepw,
      λ same. let changepw : second ≡ codes "changepw" = ap (λ (zs : List (List ℕ)). get_or zs 1 []) (items ∙ same) in search (rules, changepw),
    )
