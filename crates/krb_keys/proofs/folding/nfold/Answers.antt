use Rattle.std.proofs.Common.{rules, ◌≡◌, ℕ, ◌+◌, ◌-◌, ◌*◌, ◌/◌, ◌^◌, List, length, sym, ap, ◌∙◌, arith}
use Rattle.std.proofs.Math.Nat.{mul_comm}
use Rattle.std.proofs.lemmas.Nat.{mul-le}
use Rattle.krb_keys.specs.Nfold.{value, ones_complement, number_bytes, joined, copy_count, sum_of_parts, nfold}
use Rattle.krb_keys.proofs.NumberLemmas.{number_bytes-value, value_zeros}
use Rattle.krb_keys.proofs.CopyLemmas.{length-joined, sum_more, parts_fit}
use Rattle.krb_keys.proofs.folding.nfold.Goals as goal

pub loop-p-init : goal.loop-p-init
unfolding sum_of_parts ones_complement
loop-p-init c = (search rules, λ k. search rules, ap value (c.fill.ensures.after (λ y h. h)) ∙ value_zeros (length c.args.out.now))

pub take_part-requires-clause-short_text : goal.take_part-requires-clause-short_text
take_part-requires-clause-short_text c =
    let n : ℕ = length c.args.out.now in
    let m : ℕ = length c.args.input.now in
    let same : length c.loop-p.part ≡ n = c.loop-p.invariant.0 in
    let copies = c.copy_count.ensures.value in
    rw (same, length-joined c.args.input.now n, ← copies) (mul-le m c.copy_count.result 1024 1024 (omega arith) (omega arith))

pub take_part-requires-clause-inside : goal.take_part-requires-clause-inside
take_part-requires-clause-inside c =
    let n : ℕ = length c.args.out.now in
    let m : ℕ = length c.args.input.now in
    let same : length c.loop-p.part ≡ n = c.loop-p.invariant.0 in
    let copies = c.copy_count.ensures.value in
    let rotated : c.copy_count.result * m ≡ m * c.copy_count.result = mul_comm c.copy_count.result m in
    rw (same, length-joined c.args.input.now n, ← copies)
    (parts_fit n (m * c.copy_count.result) c.loop-p.p (omega arith) (rw rotated at c.loop-p-test.true))

pub loop-p-preserved : goal.loop-p-preserved
loop-p-preserved c =
    let n : ℕ = length c.args.out.now in
    let p : ℕ = c.loop-p.p in
    let text : List ℕ = joined c.args.input.now n in
    let same : length c.loop-p.part ≡ n = c.loop-p.invariant.0 in
    let part = rw same at c.take_part.ensures in
    let long : length c.take_part.new.part ≡ n = omega arith in
    let next = rw long at (c.add_part.ensures (sum_of_parts n text p)) in (
      long,
      λ k. search rules,
      next c.loop-p.invariant.2 ∙ ap (λ (x : List ℕ). ones_complement (256 ^ n - 1) (sum_of_parts n text p + value x)) part
          ∙ ap (ones_complement (256 ^ n - 1)) (sym (sum_more n text p)),
    )

pub returns : goal.returns
unfolding nfold
returns c =
    let n : ℕ = length c.args.out.now in
    let m : ℕ = length c.args.input.now in
    let text : List ℕ = joined c.args.input.now n in
    let end : c.loop-p.p ≡ c.copy_count.result * m / n = omega arith in
    let long : length text ≡ c.copy_count.result * m =
    length-joined c.args.input.now n ∙ mul_comm m (copy_count m n) ∙ ap (λ (k : ℕ). k * m) (sym c.copy_count.ensures.value) in
    record {
      value =
          sym (number_bytes-value c.loop-p.out n (omega arith) c.loop-p.invariant.1)
          ∙ ap (number_bytes n) (c.loop-p.invariant.2
          ∙ ap (λ (k : ℕ). ones_complement (256 ^ n - 1) (sum_of_parts n text k)) (end ∙ ap (λ (k : ℕ). k / n) (sym long)));
    }
