use Rattle.chpw_invocation.proofs.program.with_offline_commands.Goals as goal

pub returns : goal.returns
returns c = record {
  shape = λ a is.
      let p = c.with_command-program.ensures.shape a is in
      let p2 = c.with_command-program-2.ensures.shape _ p in
      let p3 = c.with_command-program-3.ensures.shape _ p2 in
      let p4 = c.with_command-program-4.ensures.shape _ p3 in
      let p5 = c.with_command-program-5.ensures.shape _ p4 in
      c.with_command.ensures.shape _ p5;
}
