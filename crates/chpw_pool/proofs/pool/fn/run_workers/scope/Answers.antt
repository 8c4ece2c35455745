use denote.Exit.{yes}
use denote.Param.{param}
use denote.Param.Send.{arg_send, param_send}
use Rattle.chpw_pool.proofs.pool.fn.run_workers.scope.Goals as goal

pub start_all-requires-send-D : goal.start_all-requires-send-D
start_all-requires-send-D g c κs within = param_send 2 _ (arg_send _ yes (param 2 g.row.D) c.requires.0)

pub start_all-requires-send-S : goal.start_all-requires-send-S
start_all-requires-send-S g c κs within = param_send 3 _ (arg_send _ yes (param 3 g.row.S) c.requires.2)
