use Rattle.std.proofs.Common.{◌≡◌, ◌∙◌, rules, sym, subst}
use Rattle.std.proofs.lemmas.Result.{IfOk-weaker}
use Rattle.chpw_endings.specs.NewPasswords.{IsOnlyLine}
use Rattle.chpw_endings.proofs.new_password.only_line.Goals as goal

pub returns-clause-line : goal.returns-clause-line
returns-clause-line c =
    let only : IsOnlyLine c.args.bytes.now c.without_end-line.result.now = record {
      without = c.without_end-line.ensures.value;
      some = search rules;
      one = sym c.contains.ensures.value ∙ c.if-contains.false;
    } in
    IfOk-weaker c.copy_of.result (λ copy. copy.items ≡ c.without_end-line.result.now) (λ copy. IsOnlyLine c.args.bytes.now copy.items)
    (λ copy same. subst (IsOnlyLine c.args.bytes.now) (sym same) only) c.copy_of.ensures.value
