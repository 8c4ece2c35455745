use Rattle.std.proofs.Common.{codes, inl, inr, refl, subst, sym}
use Rattle.clap.specs.Words.{found_of, rows_of}
use Rattle.chpw_invocation.specs.Invocations.{IsOwnReason}
use Rattle.chpw_invocation.specs.Needs.{IsSuited}
use Rattle.chpw_invocation.specs.declared.refusing.Refusal.TheVariants.{NoForm, NoRealm}
use Rattle.chpw_invocation.proofs.NeedLemmas.{asked_by, named_as}
use Rattle.chpw_invocation.proofs.matching.asked_of.Goals as goal

pub returns-in-client-clause-none : goal.returns-in-client-clause-none
returns-in-client-clause-none c = λ suited none.
    let is =
    named_as c.args.matches.now c.in_ok-name.name.now (codes "client") (rows_of (found_of c.in_ok-name.options.now))
    c.in_ok-name.ensures.name c.in_ok-name.ensures.rows c.in-client.is in
    let own = c.client_of.ensures.none (subst IsSuited is suited) none in
    subst IsOwnReason (sym is) (own.0, inl (refl, own.1))

pub returns-in-table-clause-none : goal.returns-in-table-clause-none
returns-in-table-clause-none c = λ suited none.
    let is =
    named_as c.args.matches.now c.in_ok-name.name.now (codes "table") (rows_of (found_of c.in_ok-name.options.now))
    c.in_ok-name.ensures.name c.in_ok-name.ensures.rows c.in-table.is in
    subst IsOwnReason (sym is) (NoForm, inr (inr (inl (refl, refl, c.table_of.ensures.none (subst IsSuited is suited) none))))

pub returns-in-import-clause-none : goal.returns-in-import-clause-none
returns-in-import-clause-none c = λ suited none.
    let is =
    named_as c.args.matches.now c.in_ok-name.name.now (codes "import") (rows_of (found_of c.in_ok-name.options.now))
    c.in_ok-name.ensures.name c.in_ok-name.ensures.rows c.in-import.is in
    let own = c.import_of.ensures.none (subst IsSuited is suited) none in
    subst IsOwnReason (sym is) (own.0, inr (inr (inr (inr (inl (refl, own.1))))))

pub returns-in-key-clause-none : goal.returns-in-key-clause-none
returns-in-key-clause-none c = λ suited none.
    let is = named_as c.args.matches.now c.in_ok-name.name.now (codes "key")
    (rows_of (found_of c.in_ok-name.options.now)) c.in_ok-name.ensures.name c.in_ok-name.ensures.rows c.in-key.is in
    subst IsOwnReason (sym is) (NoRealm, inr (inr (inr (inr (inr (refl, refl, c.key_of.ensures.none (subst IsSuited is suited) none))))))

pub returns-in-serve-clause-none : goal.returns-in-serve-clause-none
returns-in-serve-clause-none c = λ suited none.
    let is =
    named_as c.args.matches.now c.in_ok-name.name.now (codes "serve") (rows_of (found_of c.in_ok-name.options.now))
    c.in_ok-name.ensures.name c.in_ok-name.ensures.rows c.in-serve.is in
    let own = c.serve_of.ensures.none (subst IsSuited is suited) none in
    subst IsOwnReason (sym is) (own.0, inr (inr (inr (inl (refl, own.1)))))

pub returns-in-client-clause-asked : goal.returns-in-client-clause-asked
returns-in-client-clause-asked c =
    asked_by c.args.matches.now c.in_ok-name.name.now (codes "client") (rows_of (found_of c.in_ok-name.options.now)) c.client_of.result
    c.in_ok-name.ensures.name c.in_ok-name.ensures.rows c.in-client.is c.client_of.ensures.asked

pub returns-in-table-clause-asked : goal.returns-in-table-clause-asked
returns-in-table-clause-asked c =
    asked_by c.args.matches.now c.in_ok-name.name.now (codes "table") (rows_of (found_of c.in_ok-name.options.now)) c.table_of.result
    c.in_ok-name.ensures.name c.in_ok-name.ensures.rows c.in-table.is c.table_of.ensures.asked

pub returns-in-import-clause-asked : goal.returns-in-import-clause-asked
returns-in-import-clause-asked c =
    asked_by c.args.matches.now c.in_ok-name.name.now (codes "import") (rows_of (found_of c.in_ok-name.options.now)) c.import_of.result
    c.in_ok-name.ensures.name c.in_ok-name.ensures.rows c.in-import.is c.import_of.ensures.asked

pub returns-in-key-clause-asked : goal.returns-in-key-clause-asked
returns-in-key-clause-asked c =
    asked_by c.args.matches.now c.in_ok-name.name.now (codes "key") (rows_of (found_of c.in_ok-name.options.now)) c.key_of.result
    c.in_ok-name.ensures.name c.in_ok-name.ensures.rows c.in-key.is c.key_of.ensures.asked

pub returns-in-serve-clause-asked : goal.returns-in-serve-clause-asked
returns-in-serve-clause-asked c =
    asked_by c.args.matches.now c.in_ok-name.name.now (codes "serve") (rows_of (found_of c.in_ok-name.options.now)) c.serve_of.result
    c.in_ok-name.ensures.name c.in_ok-name.ensures.rows c.in-serve.is c.serve_of.ensures.asked

pub returns-in-control-clause-asked : goal.returns-in-control-clause-asked
returns-in-control-clause-asked c =
    asked_by c.args.matches.now c.in_ok-name.name.now (codes "control") (rows_of (found_of c.in_ok-name.options.now)) c.control_of.result
    c.in_ok-name.ensures.name c.in_ok-name.ensures.rows c.in-control.is c.control_of.ensures.asked

pub returns-in-check-clause-asked : goal.returns-in-check-clause-asked
returns-in-check-clause-asked c =
    asked_by c.args.matches.now c.in_ok-name.name.now (codes "check") (rows_of (found_of c.in_ok-name.options.now)) c.check_of.result
    c.in_ok-name.ensures.name c.in_ok-name.ensures.rows c.in-check.is c.check_of.ensures.asked
