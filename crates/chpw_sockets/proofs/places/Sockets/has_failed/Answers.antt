use Rattle.std.proofs.Common.{◌≡◌, ◌∙◌, ap, slice_get, Some, rules, arith}
use Rattle.std.proofs.lemmas.Option.{slice_get_read}
use Rattle.chpw_sockets.proofs.places.Sockets.has_failed.Goals as goal

pub returns-in-Some-Some-Stream : goal.returns-in-Some-Some-Stream
returns-in-Some-Some-Stream g c = record {
  stream = λ is. (
    c.in-Some-Some-Stream.socket,
    let at : slice_get c.args.self.now.by_slot.items c.args.slot ≡ Some c.in-Some-Some-Stream.field-0.now = search (rules, slice_get_read, arith) in
        at ∙ ap Some (c.in-Some-Some-Stream.field-0-is ∙ ap Some c.in-Some-Some-Stream.field-0-0-is),
  );
}
