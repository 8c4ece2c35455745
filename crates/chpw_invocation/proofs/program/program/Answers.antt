use Rattle.chpw_invocation.proofs.ShapeLemmas.{apart}
use Rattle.chpw_invocation.specs.Program as specs_of
use Rattle.chpw_invocation.proofs.program.program.Goals as goal

pub returns : goal.returns
returns c =
    let p = c.with_offline_commands-program.ensures.shape _ (c.leading.ensures.shape, c.leading.ensures.local) in
    let p2 = c.with_command-program.ensures.shape _ p in
    let p3 = c.with_command-program-2.ensures.shape _ p2 in
    let p4 = c.with_command.ensures.shape _ p3 in
    let parts = apart specs_of.program c.with_command.result p4 in
    record { shape = parts.0; local = parts.1 }
