use Rattle.std.proofs.Common.{◌≡◌, ◌++◌, ◌∙◌, ◌<◌, ◌^◌, List, ℕ, ap, arith, codes, refl}
use Rattle.std.specs.Fmt.{decimal}
use Rattle.chpw_printing.proofs.QuotingLemmas.{decimal_graphic, graphic_printed}
use Rattle.chpw_log.proofs.LineLemmas.{both_printed, mark_joined}
use Rattle.chpw_log.proofs.unconfirmed.put_ticket.Goals as goal

pub returns-clause-value : goal.returns-clause-value
returns-clause-value c =
    let old = c.args.text.now.items in
    let ticket = c.args.ticket in
    let words = codes "not confirmed by the KDC: change " in
    let front : c.extend_from_slice.new.self.items ≡ old ++ words = c.in_ok-extend_from_slice.ensures.items in
    let back : c.put_number.new.text.items ≡ c.extend_from_slice.new.self.items ++ decimal ticket = c.in_ok-put_number.ensures.value in
    back ∙ ap (λ (xs : List ℕ). xs ++ decimal ticket) front ∙ mark_joined old (decimal ticket)

pub returns-clause-printed : goal.returns-clause-printed
returns-clause-printed c =
    let ticket = c.args.ticket in
    let small : ticket < 2 ^ 64 = omega arith in
    both_printed (codes "not confirmed by the KDC: change ") (decimal ticket) refl
    (graphic_printed (decimal ticket) (decimal_graphic ticket small))
