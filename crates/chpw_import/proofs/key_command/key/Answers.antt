use Rattle.std.proofs.lemmas.Result.{on_ok_weaker}
use Rattle.chpw_import.proofs.key_command.key.Goals as goal

pub returns-clause-written : goal.returns-clause-written
returns-clause-written g c = on_ok_weaker c.write_password.result
    (λ w. (
      c.as_slice.result.now,
      record {
        name = c.in_ok-name.name;
        is_name = c.in_ok-name.ensures.value;
        key = w;
        fits = w.fits c.in_ok-name.ensures.fits;
      },
    ))
    c.write_password.ensures.written
