use Rattle.std.proofs.Common.{ℕ, List, ◌++◌, length, replicate, ap, ◌∙◌, drop}
use Rattle.std.proofs.lemmas.List.{drop-replicate}
use Rattle.krb_keys.proofs.hmac.zero_padded.Goals as goal

pub returns : goal.returns
returns c =
    ap (λ (x : List ℕ). x ++ drop (length c.args.bytes.now) (replicate 64 0)) c.copy_from_slice.ensures.after
    ∙ ap (λ (z : List ℕ). c.args.bytes.now ++ z) (drop-replicate (length c.args.bytes.now) 64 0)
