use Rattle.std.proofs.Common.{rules, ◌≡◌, ℕ, ◌+◌, ◌<◌, ◌-◌, ◌*◌, ◌^◌, ◌%◌, get_or, get_or-set_other, ◌≢◌, length, arith, refl, ap, ◌∙◌}
use Rattle.krb_keys.proofs.NumberLemmas.{add_step, value_none, no_carry}
use Rattle.krb_keys.proofs.folding.add_carry.Goals as goal

pub loop-k-init : goal.loop-k-init
loop-k-init c =
    let n : ℕ = length c.args.sum.now in
    let a = value_none c.args.sum.now n refl in
    let none : n - n ≡ 0 = omega arith in
    let e : c.args.carry * 256 ^ (n - n) ≡ c.args.carry * 1 = ap (λ (i : ℕ). c.args.carry * 256 ^ i) none in
    (omega arith, λ j h. refl, omega arith)

pub loop-k-preserved : goal.loop-k-preserved
loop-k-preserved c =
    let k : ℕ = c.loop-k.k - 1 in
    let back : k + 1 ≡ c.loop-k.k = omega arith in
    let total : ℕ = c.from.result + c.loop-k.left in
    let one : get_or c.loop-k.sum k 0 < 256 = search rules in
    let old = rw (← back) at c.loop-k.invariant.2 in
    let same : get_or c.loop-k.sum k 0 ≡ get_or c.args.sum.now k 0 = c.loop-k.invariant.1 k (omega arith) in
    let next =
    add_step c.args.sum.now c.loop-k.sum (length c.args.sum.now) k c.loop-k.left 0 c.args.carry total refl (omega arith) (omega arith) same
    (omega arith) old in (
      omega arith,
      λ j h.
          let ne : j ≢ k = omega arith in
          get_or-set_other c.loop-k.sum k j (total % 256) 0 ne ∙ c.loop-k.invariant.1 j (omega arith),
      next ∙ omega arith,
    )

pub returns : goal.returns
returns c =
    let none : c.loop-k.k ≡ 0 = omega arith in
    let all : length c.args.sum.now - 0 ≡ length c.args.sum.now = omega arith in
    no_carry _ c.loop-k.left _ _ (rw (none, all) at c.loop-k.invariant.2) (omega arith)
