use Rattle.std.proofs.Common.{◌≡◌, Ok, refl}
use Rattle.chpw_start.specs.Faults.{Sets}
use Rattle.chpw_start.proofs.table.write_table_of.Goals as goal

pub returns-clause-written : goal.returns-clause-written
returns-clause-written g c =
    let told = c.in_ok-tell.ensures.written in
    let holds = c.in_ok-held.ensures.held in
    let sets : Sets c.args.text.now (Ok c.in_ok-config.config) = c.in_ok-config.ensures.value in
    let copied = c.in-Ok.ensures.value in
    let lent = c.as_slice.ensures.value in
    let realm : c.in_ok-config.config.realm ≡ c.as_slice.result.now = cc in (
      told.0,
      record {
        config = c.in_ok-config.config;
        sets = sets;
        journal = holds.0;
        held = c.in_ok-held.held;
        holds = holds.1;
        behind = refl;
        told = told.2 c.in_ok-config.config sets realm;
      },
      told.1,
    )
