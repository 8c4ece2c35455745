use Rattle.std.proofs.Common.{◌∷◌, length, sym, ◌∙◌, ap, subst, arith}
use Rattle.std.proofs.lemmas.List.{length-append}
use Rattle.chpw_ordered_keys.specs.Trees.{keys, AreEven, IsEven}
use Rattle.chpw_ordered_keys.proofs.DepthLemmas.{one_deeper, one_wider}
use Rattle.chpw_ordered_keys.proofs.tree.KeyTree.+depth.Goals as goal

pub returns-then-on_left-on_right-clause-deep : goal.returns-then-on_left-on_right-clause-deep
returns-then-on_left-on_right-clause-deep g t c =
    let fork = c.in-Some.fork.value in
    let all = ap length (sym c.self.view_is ∙ ap keys c.in-Some.is) in
    let parts = length-append fork.left (fork.key ∷ fork.right) in
    let even : AreEven (length fork.left) (length fork.right) = subst IsEven c.in-Some.is c.self.invariant.1 in
    let side = ap (λ f. length f.right) c.deref-2.ensures in
    one_deeper c.depth-on_right.result (length c.deref-2.result.now.right)
    (length fork.left) (length c.args.self.now) c.depth-on_right.ensures.deep (omega (arith, even.1, side))
    (omega (arith, all, parts, side))

pub returns-else-on_left-on_right-clause-deep : goal.returns-else-on_left-on_right-clause-deep
returns-else-on_left-on_right-clause-deep g t c =
    let fork = c.in-Some.fork.value in
    let all = ap length (sym c.self.view_is ∙ ap keys c.in-Some.is) in
    let parts = length-append fork.left (fork.key ∷ fork.right) in
    let even : AreEven (length fork.left) (length fork.right) = subst IsEven c.in-Some.is c.self.invariant.1 in
    let side = ap (λ f. length f.left) c.deref.ensures in
    one_deeper c.depth-on_left.result (length c.deref.result.now.left)
    (length fork.right) (length c.args.self.now) c.depth-on_left.ensures.deep (omega (arith, even.0, side))
    (omega (arith, all, parts, side))

pub returns-then-on_left-on_right-clause-room : goal.returns-then-on_left-on_right-clause-room
returns-then-on_left-on_right-clause-room g t c =
    let fork = c.in-Some.fork.value in
    let all = ap length (sym c.self.view_is ∙ ap keys c.in-Some.is) in
    let parts = length-append fork.left (fork.key ∷ fork.right) in
    let left = ap (λ f. length f.left) c.deref.ensures in
    let right = ap (λ f. length f.right) c.deref-2.ensures in
    one_wider c.depth-on_right.result c.depth-on_left.result (length c.deref-2.result.now.right) (length c.deref.result.now.left)
    (length c.args.self.now) (omega arith) c.depth-on_right.ensures.room c.depth-on_left.ensures.room (omega (arith, all, parts, left, right))

pub returns-else-on_left-on_right-clause-room : goal.returns-else-on_left-on_right-clause-room
returns-else-on_left-on_right-clause-room g t c =
    let fork = c.in-Some.fork.value in
    let all = ap length (sym c.self.view_is ∙ ap keys c.in-Some.is) in
    let parts = length-append fork.left (fork.key ∷ fork.right) in
    let left = ap (λ f. length f.left) c.deref.ensures in
    let right = ap (λ f. length f.right) c.deref-2.ensures in
    one_wider c.depth-on_left.result c.depth-on_right.result (length c.deref.result.now.left) (length c.deref-2.result.now.right)
    (length c.args.self.now) (omega arith) c.depth-on_left.ensures.room c.depth-on_right.ensures.room (omega (arith, all, parts, left, right))
