-- The set has the names of the list.
use Rattle.chpw_import.proofs.KdcLemmas.{distinct_more, knows_more, twice}
use Rattle.chpw_import.proofs.kdc.listing.add.Goals as goal

pub returns-then-not-branch-clause-fault : goal.returns-then-not-branch-clause-fault
returns-then-not-branch-clause-fault c = twice c.args.listed.now.items c.args.principal.name c.in_ok-name.name c.args.seen.now c.in_ok-insert.field-0
    c.requires c.in_ok-name.ensures.value c.in_ok-insert.ensures.added c.if-not-branch.true

pub returns-clause-knows : goal.returns-clause-knows
returns-clause-knows c = knows_more c.args.seen.now c.insert.new.self c.args.listed.now.items c.push.new.self.items c.args.principal c.in_ok-name.name
    c.requires c.in_ok-name.ensures.value c.in_ok-insert.ensures.updates.0 c.in_ok-push.ensures.items

pub returns-clause-distinct : goal.returns-clause-distinct
returns-clause-distinct c = distinct_more c.args.listed.now.items c.push.new.self.items c.args.principal c.in_ok-name.name c.args.seen.now
    c.in_ok-insert.field-0
    c.requires c.in_ok-name.ensures.value c.in_ok-insert.ensures.added c.if-not-branch.false c.in_ok-push.ensures.items
