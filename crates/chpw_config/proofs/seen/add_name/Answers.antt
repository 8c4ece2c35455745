-- The text's name joins the names that are known.
use Rattle.std.proofs.Common.{◌∙◌}
use Rattle.chpw_config.specs.Seen.{Knows}
use Rattle.chpw_config.proofs.SeenLemmas.{known_more}
use Rattle.chpw_config.proofs.seen.add_name.Goals as goal

pub returns-clause-added : goal.returns-clause-added
unfolding Knows
returns-clause-added c = λ names name known spelled text name' spelled'.
    c.in_ok-insert.ensures.updates.0 text
    ∙ known_more c.args.text.now text.now name name' names _ spelled spelled' (known text name' spelled')
