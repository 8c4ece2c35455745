use Rattle.std.proofs.Common.{rules, ◌≡◌, ℕ, ◌+◌, ◌<◌, ◌-◌, ◌%◌, get_or, get_or-set_other, ◌≢◌, length, arith, refl, ◌∙◌}
use Rattle.krb_keys.proofs.NumberLemmas.{add_part_step, value_none}
use Rattle.krb_keys.proofs.folding.add_bytes.Goals as goal

pub loop-k-init : goal.loop-k-init
loop-k-init c =
    let a = value_none c.args.part.now (length c.args.part.now) refl in
    let b = value_none c.args.sum.now (length c.args.part.now) (omega arith) in (omega arith, λ j h. refl, omega arith)

pub loop-k-preserved : goal.loop-k-preserved
loop-k-preserved c =
    let k : ℕ = c.loop-k.k - 1 in
    let back : k + 1 ≡ c.loop-k.k = omega arith in
    let total : ℕ = c.from.result + c.from-in-loop-k.result + c.loop-k.carry in
    let one : get_or c.loop-k.sum k 0 < 256 = search rules in
    let two : get_or c.args.part.now k 0 < 256 = search rules in
    let old = rw (← back) at c.loop-k.invariant.2 in
    let same : get_or c.loop-k.sum k 0 ≡ get_or c.args.sum.now k 0 = c.loop-k.invariant.1 k (omega arith) in (
      omega arith,
      λ j h.
          let ne : j ≢ k = omega arith in
          get_or-set_other c.loop-k.sum k j (total % 256) 0 ne ∙ c.loop-k.invariant.1 j (omega arith),
      add_part_step c.args.sum.now c.loop-k.sum c.args.part.now (length c.args.part.now) k c.loop-k.carry total
          (omega arith) (omega arith) refl (omega arith) same
          (omega arith) old,
    )

pub returns : goal.returns
returns c =
    let none : c.loop-k.k ≡ 0 = omega arith in
    let all : length c.args.part.now - 0 ≡ length c.args.part.now =
    omega arith in record { small = c.loop-k.invariant.0; total = rw (none, all) at c.loop-k.invariant.2 }
