use Rattle.std.proofs.Common.{◌≡◌, ◌∙◌, ap}
use Rattle.std.specs.List.{list_any}
use Rattle.chpw_table.specs.declared.request.RequestId.{RequestId}
use Rattle.chpw_table.specs.Agreement.{Held}
use Rattle.chpw_table.specs.Requests.{id_of, is_same_id}
use Rattle.chpw_table.proofs.OrderLemmas.{held_is_used}
use Rattle.chpw_table.proofs.table.Table.was_used.Goals as goal

pub returns : goal.returns
returns c =
    let used : c.self.inside.used ≡ c.args.self.now.state.used = ap (λ (t : Held). t.state.used) c.self.view_is in
    record {
      value = c.has.ensures.value
          ∙ (held_is_used (id_of c.args.opened.now) c.self.inside.used
          ∙ ap (list_any (λ (x : RequestId). is_same_id x (id_of c.args.opened.now))) used);
    }
