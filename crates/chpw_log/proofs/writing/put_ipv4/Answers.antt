use Rattle.std.proofs.Common.{◌≡◌, ◌∙◌, ℕ, List, [], length, map, ap, arith, rules}
use Rattle.std.specs.List.{join_with_byte}
use Rattle.std.specs.Fmt.{decimal}
use Rattle.std.proofs.lemmas.List.{nil_from_length}
use Rattle.chpw_printing.specs.Quoting.{are_graphic}
use Rattle.chpw_log.proofs.LineLemmas.{address_field}
use Rattle.chpw_log.proofs.writing.put_ipv4.Goals as goal

pub returns-clause-field : goal.returns-clause-field
returns-clause-field c =
    let four : length c.args.address ≡ 4 = search rules in
    let none : c.loop-numbers.numbers.now ≡ [] = nil_from_length c.loop-numbers.numbers.now (omega arith) in
    let all = c.loop-numbers.invariant.graphic ∙ ap (λ (xs : List ℕ). are_graphic (join_with_byte 46 (map decimal xs))) none in
    address_field c.args.address four all
