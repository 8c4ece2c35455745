use Rattle.std.proofs.Common.{◌≡◌, ℕ, List, true, length, rules, subst}
use Rattle.std.specs.Net.Text.{ipv6_text}
use Rattle.chpw_printing.specs.Quoting.{are_graphic, quoted}
use Rattle.chpw_log.proofs.AddressLemmas.{groups_field}
use Rattle.chpw_log.proofs.writing.put_ipv6.Goals as goal

pub returns-clause-field : goal.returns-clause-field
returns-clause-field c =
    let same : c.as_bytes.result.now ≡ ipv6_text c.args.segments = search rules in
    let eight : length c.args.segments ≡ 8 = search rules in
    groups_field c.args.segments eight (subst (λ (bytes : List ℕ). are_graphic (quoted bytes) ≡ true) same c.in_ok-put_quoted.ensures.graphic)
