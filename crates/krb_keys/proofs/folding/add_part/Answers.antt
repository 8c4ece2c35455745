use Rattle.std.proofs.Common.{rules, ◌≡◌, ℕ, ◌+◌, ◌<◌, ◌≤◌, ◌-◌, ◌*◌, ◌^◌, length, arith, ◌∙◌, ap}
use Rattle.krb_keys.specs.Nfold.{value, ones_complement}
use Rattle.krb_keys.proofs.NumberLemmas.{value_below, carry_fits, two_five_six_le, ones_complement_sum}
use Rattle.krb_keys.proofs.folding.add_part.Goals as goal

pub add_carry-requires : goal.add_carry-requires
add_carry-requires c =
    let n : ℕ = length c.args.part.now in
    let same : length c.add_bytes-carry.new.sum ≡ n = omega arith in
    let old : value c.args.sum.now < 256 ^ n = rw c.requires.alike at (value_below c.args.sum.now (λ k. search rules)) in
    let part = value_below c.args.part.now (λ k. search rules) in
    let now : value c.add_bytes-carry.new.sum < 256 ^ n = rw same at (value_below c.add_bytes-carry.new.sum (λ k. search rules)) in
    record {
      small = c.add_bytes-carry.ensures.small;
      fits = rw same (carry_fits _ _ _ _ _ old part now c.add_bytes-carry.ensures.small c.add_bytes-carry.ensures.total);
    }

pub returns : goal.returns
returns c = λ s was.
    let n : ℕ = length c.args.part.now in
    let w : ℕ = 256 ^ n in
    let same : length c.add_bytes-carry.new.sum ≡ n = omega arith in
    let part = value_below c.args.part.now (λ k. search rules) in
    let now : value c.add_bytes-carry.new.sum < w = rw same at (value_below c.add_bytes-carry.new.sum (λ k. search rules)) in
    let more : 256 ≤ w = two_five_six_le n c.requires.some in
    let back : w - 1 + 1 ≡ w = omega arith in
    let total : value c.add_bytes-carry.new.sum + c.add_bytes-carry.result * (w - 1 + 1) ≡ ones_complement (w - 1) s + value c.args.part.now =
    ap (λ (x : ℕ). value c.add_bytes-carry.new.sum + c.add_bytes-carry.result * x) back ∙ c.add_bytes-carry.ensures.total
    ∙ ap (λ (x : ℕ). x + value c.args.part.now) was in
    c.add_carry.ensures
    ∙ ones_complement_sum (w - 1) s (value c.args.part.now) (value c.add_bytes-carry.new.sum) c.add_bytes-carry.result (omega arith) (omega arith) (omega arith)
    c.add_bytes-carry.ensures.small total
