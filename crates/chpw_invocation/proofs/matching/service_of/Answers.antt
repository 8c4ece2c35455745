use Rattle.std.proofs.Common.{refl, sym}
use Rattle.chpw_invocation.proofs.matching.service_of.Goals as goal

pub returns-clause-asked : goal.returns-clause-asked
returns-clause-asked c = (
  refl,
  record {
    config = sym c.in_ok-text_of.ensures.value;
    journal = sym c.in_ok-text_of-2.ensures.value;
    seed = sym c.in_ok-text_of-3.ensures.value;
    port = c.in_ok-port_of.ensures.port;
    listen = c.requires.listen;
    workers = c.in_ok-bounds.ensures.asked.workers;
    connections = c.in_ok-bounds.ensures.asked.connections;
    idle = c.in_ok-bounds.ensures.asked.idle;
    clients = c.in_ok-bounds.ensures.asked.clients;
    clients_per_peer = c.in_ok-bounds.ensures.asked.clients_per_peer;
    buffers = c.in_ok-bounds.ensures.asked.buffers;
    raise = c.in_ok-bounds.ensures.asked.raise;
    log = c.text_of-4.ensures.value;
    resume = c.text_of-5.ensures.value;
    kdc = c.text_of-6.ensures.value;
    kdc_wait = c.in_ok-bounds.ensures.asked.kdc_wait;
    require_kdc = c.is_given.ensures.given;
    control = c.text_of-7.ensures.value;
    udp = c.is_given-2.ensures.given;
    rfc3244_only = c.is_given-3.ensures.given;
    strict_messages = c.is_given-4.ensures.given;
    strict_modes = c.is_given-5.ensures.given;
    existing_journal = c.is_given-6.ensures.given;
  },
)

-- each option that has to be there is
pub returns-in_err-text_of-clause-none : goal.returns-in_err-text_of-clause-none
returns-in_err-text_of-clause-none c = λ whole none. absurd (whole.0.there refl (sym c.in_err-text_of.ensures.value))

pub returns-in_err-text_of-2-clause-none : goal.returns-in_err-text_of-2-clause-none
returns-in_err-text_of-2-clause-none c = λ whole none. absurd (whole.1.0.there refl (sym c.in_err-text_of-2.ensures.value))

pub returns-in_err-text_of-3-clause-none : goal.returns-in_err-text_of-3-clause-none
returns-in_err-text_of-3-clause-none c = λ whole none. absurd (whole.1.1.0.there refl (sym c.in_err-text_of-3.ensures.value))

pub returns-in_err-port_of-clause-none : goal.returns-in_err-port_of-clause-none
returns-in_err-port_of-clause-none c = λ whole none. absurd (c.in_err-port_of.ensures.taken whole.1.1.1.0 refl)

pub returns-in_err-bounds-clause-none : goal.returns-in_err-bounds-clause-none
returns-in_err-bounds-clause-none c = λ whole none. c.in_err-bounds.ensures.none whole refl
