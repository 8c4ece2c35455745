use Rattle.std.proofs.Common.{◌∷◌, length, ap, arith}
use Rattle.chpw_resume.specs.ResumeText.{times_bytes}
use Rattle.chpw_resume.proofs.TextLemmas.{id_blocks_short, id_same}
use Rattle.chpw_resume.proofs.reading.read_id.Goals as goal

pub returns-in_default : goal.returns-in_default
returns-in_default c =
    let none = rw c.in_default.is at c.in_ok-blocks.ensures.value in
    record { value = λ id f e. none (times_bytes id.ctime id.cusec ∷ id.crealm ∷ id.client.parts) (id_blocks_short id f) e }

pub returns : goal.returns
returns c =
    let some = rw c.in-Some.is at c.in_ok-blocks.ensures.value in
    record {
      value = λ id f e.
          let l = ap length (id_same c.args.text.now c.in-Some.blocks.items id f some.0 some.1 e) in
          let n = ap length c.as_slice.ensures.value in
          omega (arith, c.in_default-as_slice.len_below, n, l);
    }
