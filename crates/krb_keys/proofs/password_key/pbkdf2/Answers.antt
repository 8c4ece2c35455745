use Rattle.std.proofs.Common.{rules, ◌≡◌, ℕ, ◌+◌, ◌*◌, ◌/◌, length, take, refl, sym, ap, ◌∙◌, arith}
use Rattle.std.proofs.lemmas.List.{take_all}
use Rattle.krb_keys.specs.Pbkdf2.{blocks, pbkdf2}
use Rattle.krb_keys.proofs.Pbkdf2Lemmas.{blocks_more}
use Rattle.krb_keys.proofs.password_key.pbkdf2.Goals as goal

pub loop-i-init : goal.loop-i-init
unfolding blocks
loop-i-init c = search rules

pub loop-i-preserved : goal.loop-i-preserved
loop-i-preserved c =
    blocks_more c.args.password.now c.args.salt.now c.pbkdf2_block-block.result c.loop-i.out c.copy_from_slice.new.self c.args.n c.loop-i.i _ c.min-end.result
    (length c.args.out.now) c.loop-i.auto.out c.loop-i.invariant (c.pbkdf2_block-block.ensures _ c.new-keyed.ensures) (omega arith) c.min-end.ensures refl
    c.copy_from_slice.ensures.after

pub returns : goal.returns
unfolding pbkdf2
returns c =
    let count : ℕ = length c.args.out.now in
    let last : c.loop-i.i ≡ (count + 19) / 20 = omega arith in
    record {
      value = sym (take_all (20 * c.loop-i.i) c.loop-i.out (omega arith)) ∙ c.loop-i.invariant
          ∙ ap (λ (k : ℕ). take count (blocks c.args.password.now c.args.salt.now c.args.n k)) last;
    }
