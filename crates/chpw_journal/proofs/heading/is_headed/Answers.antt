use Rattle.std.proofs.Common.{◌≡◌, length, take, arith, rules}
use Rattle.std.proofs.lemmas.List.{length-take-le}
use Rattle.chpw_journal.proofs.HeadingLemmas.{short_unheaded}
use Rattle.chpw_journal.proofs.heading.is_headed.Goals as goal

pub returns-in-Short : goal.returns-in-Short
returns-in-Short g c =
    let e = c.in-Short.ensures.bytes in
    let three : length c.fill.new.buffer ≡ 3 = search rules in
    let rest = take c.in-Short.field-0 c.fill.new.buffer in
    let m : length rest ≡ c.in-Short.field-0 = length-take-le c.in-Short.field-0 c.fill.new.buffer (omega (arith, e.2)) in
    record {
      value = short_unheaded (g.R.Read.remaining c.args.reader.now) (g.R.Read.remaining c.fill.new.reader) rest e.0 e.1 (omega (arith, m, e.2, three));
    }
