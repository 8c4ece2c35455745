-- How deep a tree is whose sides are even.
use Rattle.std.proofs.Common.{◌≡◌, ◌≤◌, ◌+◌, ◌*◌, ◌<◌, ◌^◌, ℕ, ◌∙◌, ap, arith, rules}
use Rattle.std.proofs.Math.Nat.{mul-le-mul_left, mul_left_comm, mul_right_comm, mul_comm, pow-le-pow_right}
use Rattle.std.proofs.lemmas.Grind.{pow_more}

-- a node over a side of this depth, where the other side is even with it
pub one_deeper : (d side other all : ℕ) → 4 ^ d ≤ 3 ^ d * (side + 1) → side ≤ 3 * other + 2 → all ≡ side + other + 1 → 4 ^ (d + 1) ≤ 3 ^ (d + 1) * (all + 1)
one_deeper d side other all deep even is =
    let three : ℕ = 3 ^ d in
    let four : ℕ = 4 ^ d in
    let quarter : 4 * (side + 1) ≤ 3 * (all + 1) = omega (arith, even, is) in
    let times : three * (4 * (side + 1)) ≤ three * (3 * (all + 1)) = mul-le-mul_left three quarter in
    let left : three * (4 * (side + 1)) ≡ 4 * (three * (side + 1)) = mul_left_comm three 4 (side + 1) in
    let right : three * (3 * (all + 1)) ≡ 3 * (three * (all + 1)) = mul_left_comm three 3 (all + 1) in
    let more : 4 ^ (d + 1) ≡ four * 4 = pow_more 4 d in
    let wide : 3 ^ (d + 1) * (all + 1) ≡ 3 * (three * (all + 1)) =
    ap (λ n. n * (all + 1)) (pow_more 3 d) ∙ (mul_right_comm three 3 (all + 1) ∙ mul_comm (three * (all + 1)) 3) in
    omega (arith, deep, times, left, right, more, wide)

-- what a node over two sides of these depths has room for
pub one_wider : (d e side other all : ℕ) → e ≤ d → side + 1 ≤ 2 ^ d → other + 1 ≤ 2 ^ e → all ≡ side + other + 1 → all + 1 ≤ 2 ^ (d + 1)
one_wider d e side other all less wide narrow is =
    let some : 0 < 2 = search rules in
    let grown : 2 ^ e ≤ 2 ^ d = pow-le-pow_right some less in
    let more : 2 ^ (d + 1) ≡ 2 ^ d * 2 = pow_more 2 d in
    omega (arith, wide, narrow, grown, more, is)
