use Rattle.std.proofs.Common.{◌∙◌, sym}
use Rattle.clap.specs.Words.{found_of, rows_of}
use Rattle.chpw_invocation.proofs.OwnLemmas.{none_told, two_told}
use Rattle.chpw_invocation.proofs.refusing.client_refusal.Goals as goal

pub returns-then-is_some : goal.returns-then-is_some
returns-then-is_some c = record {
  why = λ suits.
      two_told (rows_of (found_of c.args.options.now)) c.text_of.result c.text_of.ensures.value
      (sym c.is_some.ensures ∙ c.if-is_some.true) (c.aims_old.ensures.own suits c.if-aims_old.false);
}

pub returns-else-is_some : goal.returns-else-is_some
returns-else-is_some c = record {
  why = λ suits.
      none_told (rows_of (found_of c.args.options.now)) c.text_of.result c.text_of.ensures.value
      (sym c.is_some.ensures ∙ c.if-is_some.false) (c.aims_old.ensures.own suits c.if-aims_old.false);
}
