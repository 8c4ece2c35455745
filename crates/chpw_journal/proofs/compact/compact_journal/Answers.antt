use Rattle.std.proofs.Common.{◌≡◌, List, ◌++◌, rules}
use Rattle.std.specs.List.{flat_map}
use Rattle.chpw_record.specs.declared.record.Record.{Record}
use Rattle.chpw_record.specs.Records.{records_text}
use Rattle.chpw_journal.specs.Compact.{joined_names, name_records, names_of, raise_records}
use Rattle.chpw_journal.proofs.CompactTextLemmas.{all_text, raise_whole, whole_joined}
use Rattle.chpw_journal.proofs.compact.compact_journal.Goals as goal

pub returns : goal.returns
returns c =
    let opening = c.args.opening.now.state in
    let held = c.args.held.now.state in
    let raise : List Record = raise_records opening held in
    let own : List Record = flat_map (name_records opening held) (names_of opening) in
    let joined : List Record = flat_map (name_records opening held) (joined_names opening held) in
    let begun : c.put_raise.new.text.items ≡ records_text raise = search rules in
    record {
      value = all_text raise own joined c.put_raise.new.text.items c.put_present.new.text.items c.put_joined.new.text.items
          begun c.in_ok-put_present.ensures.value c.in_ok-put_joined.ensures.value;
      whole = whole_joined raise (own ++ joined) (raise_whole opening held)
          (whole_joined own joined c.in_ok-put_present.ensures.whole c.in_ok-put_joined.ensures.whole);
      order = (c.know_order.ensures.order, c.know_order-2.ensures.order);
    }
