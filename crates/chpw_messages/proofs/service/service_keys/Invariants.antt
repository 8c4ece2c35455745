use Rattle.std.proofs.Common.{◌≡◌, map, take}
use Rattle.krb_msgs.specs.OneAnswer.{AreProtocolKeys}
use Rattle.chpw_messages.specs.Service.{configured, held}
use Rattle.chpw_messages.proofs.service.service_keys.Given as goal

abbrev pub invariant-loop-row : goal.invariant-loop-row
invariant-loop-row l = record {
  same : map held l.keys.items ≡ map configured (take l.row-index l.rows);
  protocol : AreProtocolKeys l.keys.items;
}
