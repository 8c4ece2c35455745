use Rattle.chpw_kdc.proofs.ListLemmas.{lists_put_right}
use Rattle.chpw_kdc.proofs.laws.each_difference_once.Goals as goal

pub returns : goal.returns
returns c = lists_put_right
