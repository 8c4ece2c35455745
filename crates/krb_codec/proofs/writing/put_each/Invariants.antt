use Rattle.std.proofs.Common.{◌≡◌, map, drop}
use Rattle.krb_codec.specs.Shapes.{many}
use Rattle.krb_codec.specs.Sinks.{puts, puts_each}
use Rattle.krb_codec.proofs.writing.put_each.Given as goal

abbrev pub invariant-loop-item : goal.invariant-loop-item
invariant-loop-item g l = puts_each (puts g.S.Sink.put g.S.Sink.place g.S.Sink.enclose g.T.Element.shape) l.sink
    (map g.T.Element.value (drop l.item-index l.items)) ≡ puts g.S.Sink.put g.S.Sink.place g.S.Sink.enclose
    (many g.T.Element.shape) l.fn.sink (map g.T.Element.value l.items)
