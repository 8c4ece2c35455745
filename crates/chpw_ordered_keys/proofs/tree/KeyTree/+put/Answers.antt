use Rattle.std.proofs.Common.{◌≡◌, ◌∷◌, ◌++◌, length, sym, ◌∙◌, ap, subst, arith, rules}
use Rattle.std.specs.List.Sorted.{IsStrictlySortedBy}
use Rattle.std.proofs.lemmas.List.{length-append}
use Rattle.chpw_ordered_keys.specs.Trees.{keys, fork_keys, WereEven, with_first}
use Rattle.chpw_ordered_keys.proofs.OrderLemmas.{first_length}
use Rattle.chpw_ordered_keys.proofs.PutLemmas.{were_even, one_on_left, one_on_right, alone, sorted_left, sorted_right, after_left, after_right, after_here}
use Rattle.chpw_ordered_keys.proofs.tree.KeyTree.+put.Goals as goal
use Rattle.chpw_ordered_keys.proofs.tree.KeyTree.+put.Goals.{in-Less, in-Equal, in-Greater}

pub put-requires : goal.put-requires
put-requires g t c κs within =
    let fork = c.in-Some-take.fork.value in
    let is : c.args.self.now ≡ fork.left ++ fork.key ∷ fork.right = sym c.in-Some-take.ensures.keys in
    let other_is : c.args.other ≡ fork_keys c.in-Some.single.value = sym c.other.view_is ∙ ap keys c.in-Some.is in
    let one = alone _ _ _ _ other_is c.requires.one in
    let left = sorted_left g.K.Ord.cmp g.met.K.Ord.total _ _ _ _ _ _ is c.requires.sorted one in
    let parts = length-append fork.left (fork.key ∷ fork.right) in
    let all = ap length is in
    let side = ap (λ f. f.left) c.deref_mut.ensures.value in
    let size = ap length side in (
      omega (arith, c.decreases, all, parts, size),
      (
        search rules,
        (
          subst (IsStrictlySortedBy g.K.Ord.cmp)
              (sym side) left,
          (c.requires.one, omega (arith, c.requires.few, all, parts, size)),
        ),
      ),
    )

pub put-requires-in-Greater : goal.put-requires-in-Greater
put-requires-in-Greater g t c κs within =
    let fork = c.in-Some-take.fork.value in
    let is : c.args.self.now ≡ fork.left ++ fork.key ∷ fork.right = sym c.in-Some-take.ensures.keys in
    let other_is : c.args.other ≡ fork_keys c.in-Some.single.value = sym c.other.view_is ∙ ap keys c.in-Some.is in
    let one = alone _ _ _ _ other_is c.requires.one in
    let right = sorted_right g.K.Ord.cmp g.met.K.Ord.total _ _ _ _ _ _ is c.requires.sorted one in
    let parts = length-append fork.left (fork.key ∷ fork.right) in
    let all = ap length is in
    let side = ap (λ f. f.right) c.deref_mut-in-Greater.ensures.value in
    let size = ap length side in (
      omega (arith, c.decreases, all, parts, size),
      (
        search rules,
        (
          subst (IsStrictlySortedBy g.K.Ord.cmp)
              (sym side) right,
          (c.requires.one, omega (arith, c.requires.few, all, parts, size)),
        ),
      ),
    )

pub rebalance-requires : goal.rebalance-requires
rebalance-requires g t c =
    let fork = c.in-Some-take.fork.value in
    let new = c.match-cmp.fork.value in
    let is : c.args.self.now ≡ fork.left ++ fork.key ∷ fork.right = sym c.in-Some-take.ensures.keys in
    let other_is : c.args.other ≡ fork_keys c.in-Some.single.value = sym c.other.view_is ∙ ap keys c.in-Some.is in
    let one = alone _ _ _ _ other_is c.requires.one in
    let compared : g.K.Ord.cmp c.in-Some.single.value.key fork.key ≡ c.cmp.result = rw c.deref.ensures at (rw c.deref-2.ensures at (sym c.cmp.ensures)) in
    let now : fork_keys new ≡ with_first g.K.Ord.cmp c.args.self.now c.args.other = elim c.match-cmp.branch [
      | in-Less w ↦ rw w.fork-is (rw w.deref_mut.ensures.value (after_left g.K.Ord.cmp g.met.K.Ord.total _ _ _ _ _
          _ is c.requires.sorted one _ (compared ∙ w.in-Less.is) (rw w.deref_mut.ensures.value at w.put.ensures.value)))
      | in-Equal w ↦ rw w.fork-is (after_here g.K.Ord.cmp g.met.K.Ord.total _ _ _ _ _ _ is c.requires.sorted one (compared ∙ w.in-Equal.is))
      | in-Greater w ↦ rw w.fork-is (rw w.deref_mut-in-Greater.ensures.value
          (after_right g.K.Ord.cmp g.met.K.Ord.total _ _ _ _ _ _ is c.requires.sorted one _
          (compared ∙ w.in-Greater.is) (rw w.deref_mut-in-Greater.ensures.value at w.put-in-Greater.ensures.value)))
    ] in
    let even = c.in-Some-take.ensures.even in
    let were : WereEven (length new.left) (length new.right) = elim c.match-cmp.branch [
      | in-Less w ↦ rw w.fork-is (rw w.deref_mut.ensures.value (one_on_left g.K.Ord.cmp g.met.K.Ord.total
          fork.left c.args.other fork.right even _ (rw w.deref_mut.ensures.value at w.put.ensures.value)))
      | in-Equal w ↦ rw w.fork-is (were_even (length fork.left) (length fork.right) even)
      | in-Greater w ↦
          rw w.fork-is (rw w.deref_mut-in-Greater.ensures.value (one_on_right g.K.Ord.cmp g.met.K.Ord.total fork.left
          fork.right c.args.other even _ (rw w.deref_mut-in-Greater.ensures.value at w.put-in-Greater.ensures.value)))
    ] in
    record {
      few = omega (
        arith,
        length-append new.left (new.key ∷ new.right),
        ap length now,
        first_length g.K.Ord.cmp g.met.K.Ord.total c.args.self.now c.args.other,
        c.requires.few,
      );
      were = were;
    }

pub returns : goal.returns
returns g t c =
    let fork = c.in-Some-take.fork.value in
    let is : c.args.self.now ≡ fork.left ++ fork.key ∷ fork.right = sym c.in-Some-take.ensures.keys in
    let other_is : c.args.other ≡ fork_keys c.in-Some.single.value = sym c.other.view_is ∙ ap keys c.in-Some.is in
    let one = alone _ _ _ _ other_is c.requires.one in
    let compared : g.K.Ord.cmp c.in-Some.single.value.key fork.key ≡ c.cmp.result = rw c.deref.ensures at (rw c.deref-2.ensures at (sym c.cmp.ensures)) in
    let now : fork_keys c.match-cmp.fork.value ≡ with_first g.K.Ord.cmp c.args.self.now c.args.other = elim c.match-cmp.branch [
      | in-Less w ↦ rw w.fork-is (rw w.deref_mut.ensures.value (after_left g.K.Ord.cmp g.met.K.Ord.total _ _ _ _ _
          _ is c.requires.sorted one _ (compared ∙ w.in-Less.is) (rw w.deref_mut.ensures.value at w.put.ensures.value)))
      | in-Equal w ↦ rw w.fork-is (after_here g.K.Ord.cmp g.met.K.Ord.total _ _ _ _ _ _ is c.requires.sorted one (compared ∙ w.in-Equal.is))
      | in-Greater w ↦ rw w.fork-is (rw w.deref_mut-in-Greater.ensures.value
          (after_right g.K.Ord.cmp g.met.K.Ord.total _ _ _ _ _ _ is c.requires.sorted one _
          (compared ∙ w.in-Greater.is) (rw w.deref_mut-in-Greater.ensures.value at w.put-in-Greater.ensures.value)))
    ] in
    record { value = c.rebalance.ensures.keys ∙ now }
