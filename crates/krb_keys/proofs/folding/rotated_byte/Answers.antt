use Rattle.std.proofs.Common.{rules, refl}
use Rattle.krb_keys.proofs.CopyLemmas.{copied}
use Rattle.krb_keys.proofs.folding.rotated_byte.Goals as goal

pub returns : goal.returns
returns c =
    copied c.args.input.now c.args.turns c.args.place _ c.from.result c.from-2.result (λ k. search rules) c.requires.inside refl (search rules) (search rules)
