use Rattle.std.proofs.Common.{refl}
use Rattle.chpw_invocation.proofs.matching.bounds_of.Goals as goal

pub returns-clause-asked : goal.returns-clause-asked
returns-clause-asked c = record {
  workers = c.in_ok-workers_of.ensures.workers;
  connections = c.in_ok-connections_of.ensures.limit;
  idle = c.in_ok-idle_of.ensures.idle;
  clients = c.in_ok-clients.ensures.clients;
  clients_per_peer = c.in_ok-clients_per_peer_of.ensures.clients_per_peer;
  buffers = c.in_ok-buffers_of.ensures.buffers;
  raise = c.in_ok-raise_of.ensures.raise;
  kdc_wait = c.in_ok-kdc_wait_of.ensures.kdc_wait;
}

-- each number is one within its limits
pub returns-in_err-workers_of-clause-none : goal.returns-in_err-workers_of-clause-none
returns-in_err-workers_of-clause-none c = λ whole none. absurd (c.in_err-workers_of.ensures.taken whole.1.1.1.1.1.0 refl)

pub returns-in_err-connections_of-clause-none : goal.returns-in_err-connections_of-clause-none
returns-in_err-connections_of-clause-none c = λ whole none. c.in_err-connections_of.ensures.none whole.1.1.1.1.1.1.0 refl

pub returns-in_err-idle_of-clause-none : goal.returns-in_err-idle_of-clause-none
returns-in_err-idle_of-clause-none c = λ whole none. absurd (c.in_err-idle_of.ensures.taken whole.1.1.1.1.1.1.1.0 refl)

pub returns-in_err-clients-clause-none : goal.returns-in_err-clients-clause-none
returns-in_err-clients-clause-none c = λ whole none. absurd (c.in_err-clients.ensures.taken whole.1.1.1.1.1.1.1.1.0 refl)

pub returns-in_err-clients_per_peer_of-clause-none : goal.returns-in_err-clients_per_peer_of-clause-none
returns-in_err-clients_per_peer_of-clause-none c = λ whole none. absurd (c.in_err-clients_per_peer_of.ensures.taken whole.1.1.1.1.1.1.1.1.1.0 refl)

pub returns-in_err-buffers_of-clause-none : goal.returns-in_err-buffers_of-clause-none
returns-in_err-buffers_of-clause-none c = λ whole none. absurd (c.in_err-buffers_of.ensures.taken whole.1.1.1.1.1.1.1.1.1.1.0 refl)

pub returns-in_err-raise_of-clause-none : goal.returns-in_err-raise_of-clause-none
returns-in_err-raise_of-clause-none c = λ whole none. absurd (c.in_err-raise_of.ensures.taken whole.1.1.1.1.1.1.1.1.1.1.1.0 refl)

pub returns-in_err-kdc_wait_of-clause-none : goal.returns-in_err-kdc_wait_of-clause-none
returns-in_err-kdc_wait_of-clause-none c = λ whole none. absurd (c.in_err-kdc_wait_of.ensures.taken whole.1.1.1.1.1.1.1.1.1.1.1.1.1.1.1.0 refl)
