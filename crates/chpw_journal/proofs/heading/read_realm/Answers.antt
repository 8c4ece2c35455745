use Rattle.std.proofs.Common.{◌≡◌, ◌∙◌, ◌-◌, ◌++◌, inr, length, take, true, ap, sym, arith, rules}
use Rattle.std.proofs.lemmas.List.{length-take-le}
use Rattle.std.proofs.lemmas.Grind.{common_steps}
use Rattle.chpw_read_fully.proofs.FillingLemmas.{consumes_more}
use Rattle.chpw_record.specs.Records.{stated_length}
use Rattle.chpw_journal.specs.Headings.{begins_as_heading}
use Rattle.chpw_journal.proofs.HeadingLemmas.{part_of_heading}
use Rattle.chpw_journal.proofs.heading.read_realm.Goals as goal

pub returns-in-Short : goal.returns-in-Short
returns-in-Short g c =
    let head = c.args.head.items in
    let begins : begins_as_heading head ≡ true = ap begins_as_heading (sym c.deref.ensures.value)
    ∙ (sym c.begins_as_heading.ensures.value ∙ c.if-not-begins_as_heading.false) in
    let stated : c.length_in-length.result ≡ stated_length head = search rules in
    let l : length c.fill_vec.new.buffer.items ≡ c.length_in-length.result - 1 = grind (arith, common_steps) in
    let e = c.in-Short.ensures.bytes in
    let rest = take c.in-Short.field-0 c.fill_vec.new.buffer.items in
    let m : length rest ≡ c.in-Short.field-0 = length-take-le c.in-Short.field-0 c.fill_vec.new.buffer.items (omega (arith, e.2)) in
    record {
      heading = λ before d. (
        head ++ rest,
        consumes_more before (g.R.Read.remaining c.args.reader.now) (g.R.Read.remaining c.fill_vec.new.reader) head rest d e.0,
        e.1,
        part_of_heading head rest c.length_in-length.result c.requires.three begins stated (omega (arith, m, e.2, l)),
      );
    }

pub returns : goal.returns
returns g c =
    let head = c.args.head.items in
    let begins : begins_as_heading head ≡ true = ap begins_as_heading (sym c.deref.ensures.value)
    ∙ (sym c.begins_as_heading.ensures.value ∙ c.if-not-begins_as_heading.false) in
    let stated : c.length_in-length.result ≡ stated_length head = search rules in
    let l : length c.fill_vec.new.buffer.items ≡ c.length_in-length.result - 1 = grind (arith, common_steps) in
    let e = c.in-Fault.ensures.bytes in
    let rest = take c.in-Fault.field-0 c.fill_vec.new.buffer.items in
    let m : length rest ≡ c.in-Fault.field-0 = length-take-le c.in-Fault.field-0 c.fill_vec.new.buffer.items (omega (arith, e.1)) in
    record {
      heading = λ before d. (
        head ++ rest,
        consumes_more before (g.R.Read.remaining c.args.reader.now) (g.R.Read.remaining c.fill_vec.new.reader) head rest d e.0,
        inr (part_of_heading head rest c.length_in-length.result c.requires.three begins stated (omega (arith, m, e.1, l))),
      );
    }
