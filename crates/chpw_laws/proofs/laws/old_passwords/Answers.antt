use Rattle.chpw_laws.proofs.ReuseLemmas.{makes_its_keys, refused_while_compared, raise_compares_the_same}
use Rattle.chpw_laws.proofs.ReuseLemmas.{lift_compares_the_same, update_leaves_others}
use Rattle.chpw_laws.proofs.ChangeLemmas.{refused_while_its_key_is_compared, refused_in_later_histories, compared_until_depth, refused_until_depth}
use Rattle.chpw_laws.proofs.ChangeLemmas.{compared_no_longer, depth_others_between}
use Rattle.chpw_laws.proofs.RestartLemmas.{refused_over_restarts}
use Rattle.chpw_laws.proofs.MessageLemmas.{opens_for_it, refused_as_judged}
use Rattle.chpw_laws.proofs.laws.old_passwords.Goals as goal

pub returns : goal.returns
returns c = record {
  makes = makes_its_keys;
  compared = refused_while_compared;
  raise = raise_compares_the_same;
  lift = lift_compares_the_same;
  others = update_leaves_others;
  held = refused_while_its_key_is_compared;
  later = refused_in_later_histories;
  until = compared_until_depth;
  refused = refused_until_depth;
  no_longer = compared_no_longer;
  restarts = refused_over_restarts;
  opens = opens_for_it;
  judged = refused_as_judged;
  between = depth_others_between;
}
