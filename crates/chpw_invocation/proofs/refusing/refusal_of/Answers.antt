use Rattle.std.proofs.Common.{codes}
use Rattle.clap.specs.Words.{found_of, rows_of, subcommand_rows_of}
use Rattle.chpw_invocation.proofs.NeedLemmas.{named_as}
use Rattle.chpw_invocation.proofs.OwnLemmas.{client_refused, control_refused, import_refused, serve_refused}
use Rattle.chpw_invocation.proofs.refusing.refusal_of.Goals as goal

pub returns-in-client : goal.returns-in-client
returns-in-client c = record {
  why = client_refused (subcommand_rows_of c.args.matches.now) (rows_of (found_of c.in-Some.options.now)) c.client_refusal.result
      (named_as c.args.matches.now c.in-Some.name.now (codes "client")
      (rows_of (found_of c.in-Some.options.now)) c.in-Some.ensures.name c.in-Some.ensures.rows c.in-client.is)
      c.client_refusal.ensures.why;
}

pub returns-in-control : goal.returns-in-control
returns-in-control c = record {
  why = λ suited. control_refused (subcommand_rows_of c.args.matches.now) (rows_of (found_of c.in-Some.options.now)) c.control_refusal.result
      (named_as c.args.matches.now c.in-Some.name.now (codes "control")
      (rows_of (found_of c.in-Some.options.now)) c.in-Some.ensures.name c.in-Some.ensures.rows c.in-control.is)
      c.control_refusal.ensures.why;
}

pub returns-in-import : goal.returns-in-import
returns-in-import c = record {
  why = λ suited. import_refused (subcommand_rows_of c.args.matches.now) (rows_of (found_of c.in-Some.options.now)) c.refusal_of_import.result
      (named_as c.args.matches.now c.in-Some.name.now (codes "import")
      (rows_of (found_of c.in-Some.options.now)) c.in-Some.ensures.name c.in-Some.ensures.rows c.in-import.is)
      c.refusal_of_import.ensures.why;
}

pub returns-in-serve : goal.returns-in-serve
returns-in-serve c = record {
  why = serve_refused (subcommand_rows_of c.args.matches.now) (rows_of (found_of c.in-Some.options.now)) c.refusal_of_serve.result
      (named_as c.args.matches.now c.in-Some.name.now (codes "serve")
      (rows_of (found_of c.in-Some.options.now)) c.in-Some.ensures.name c.in-Some.ensures.rows c.in-serve.is)
      c.refusal_of_serve.ensures.why;
}
