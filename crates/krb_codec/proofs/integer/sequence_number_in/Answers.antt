use Rattle.std.proofs.Common.{◌≡◌, arith, rules, FitsSigned, w64, refl, sym, ◌∙◌, Ok, Err}
use Rattle.std.proofs.lemmas.Int.{ints, to_z-of_z}
use Rattle.krb_codec.specs.Integers.{sequence_number_in, integer_in, least_sequence_number, greatest_sequence_number}
use Rattle.krb_codec.proofs.integer.sequence_number_in.Goals as goal

pub returns-in_err-n : goal.returns-in_err-n
unfolding sequence_number_in
returns-in_err-n c =
    let read : integer_in least_sequence_number greatest_sequence_number c.args.place c.args.content.now
    ≡ Err c.in_err-n.field-0.0 = sym c.integer_in.ensures.value ∙ c.in_err-n.was in
    record { value = rw read (search (rules, c.from_residual.ensures)) }

pub returns : goal.returns
unfolding sequence_number_in
returns c =
    let read : integer_in least_sequence_number greatest_sequence_number c.args.place c.args.content.now
    ≡ Ok c.in_ok-n.n = sym c.integer_in.ensures.value ∙ c.in_ok-n.was in
    let within = c.in_ok-n.ensures.within in
    let fn : FitsSigned w64 c.in_ok-n.n = omega (arith, ints, within) in
    let fr : FitsSigned w64 c.rem_euclid.result = search rules in
    let is = simp to_z-of_z at c.rem_euclid.ensures.value in
    record { value = rw (read, to_z-of_z w64 c.rem_euclid.result fr, is) refl }
