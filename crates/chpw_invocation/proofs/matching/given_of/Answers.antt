use Rattle.std.proofs.Common.{IfErr, IfOk, List, map, subst, sym}
use Rattle.clap.specs.Walk.{Text}
use Rattle.clap.specs.Words.{found_of}
use Rattle.chpw_invocation.specs.Addresses.{IsListening, IsNoList}
use Rattle.chpw_invocation.specs.Listening.{listened}
use Rattle.chpw_invocation.proofs.ListeningLemmas.{given_texts, no_texts}
use Rattle.chpw_invocation.proofs.matching.given_of.Goals as goal

pub returns-in-Some-clause-listen : goal.returns-in-Some-clause-listen
returns-in-Some-clause-listen c =
    subst (λ (texts : List Text). IfOk c.addresses_of.result (λ l. IsListening texts (listened l)))
    (sym (given_texts (found_of c.args.options.now) (map (λ t. t.now) c.in-Some.texts.now) c.in-Some.ensures)) c.addresses_of.ensures.value

pub returns-in-Some-clause-refused : goal.returns-in-Some-clause-refused
returns-in-Some-clause-refused c =
    subst (λ (texts : List Text). IfErr c.addresses_of.result (IsNoList texts))
    (sym (given_texts (found_of c.args.options.now) (map (λ t. t.now) c.in-Some.texts.now) c.in-Some.ensures)) c.addresses_of.ensures.refused

pub returns-in-None-clause-listen : goal.returns-in-None-clause-listen
returns-in-None-clause-listen c =
    subst (λ (texts : List Text). IfOk c.addresses_of-in-None.result (λ l. IsListening texts (listened l)))
    (sym (no_texts (found_of c.args.options.now) c.in-None.ensures)) c.addresses_of-in-None.ensures.value

pub returns-in-None-clause-refused : goal.returns-in-None-clause-refused
returns-in-None-clause-refused c =
    subst (λ (texts : List Text). IfErr c.addresses_of-in-None.result (IsNoList texts))
    (sym (no_texts (found_of c.args.options.now) c.in-None.ensures)) c.addresses_of-in-None.ensures.refused
