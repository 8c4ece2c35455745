-- What follows where checks pass: the time of the authenticator can be written again.
use Rattle.std.proofs.Common.{◌≡◌, ℕ, true, List, Option, Some, None, option_map, sym, subst, ap, ◌∙◌, ℤ, pos, Result, Ok}
use Rattle.std.specs.Prelude.{is_some}
use Rattle.krb_codec.specs.Shapes.{Shape, Value, ◌&◌, field, option, nothing, tagged, kerberos_time, microseconds, seq_number}
use Rattle.krb_codec.specs.Grammar.{IsElement, IsOptional, Spells}
use Rattle.krb_codec.specs.Texts.{is_in_range}
use Rattle.krb_codec.specs.Times.{IsTime}
use Rattle.krb_codec.proofs.TimeLemmas.{time_of-exact}
use Rattle.krb_der.specs.Types.{authenticator, authorization_data, checksum, encryption_key}
use Rattle.krb_der.specs.Values.{authenticator_value, authorization_data_value, checksum_value, encryption_key_value}
use Rattle.krb_der.specs.declared.authenticator.Authenticator.{Authenticator}
use Rattle.krb_msgs.specs.Checks.{Held, met, unmet, Found, of_one, of_none, Then, goes_on, stops}
use Rattle.krb_msgs.specs.Tickets.{OpensTicket}
use Rattle.krb_msgs.specs.Authenticators.{OpensAuthenticator}
use Rattle.krb_msgs.specs.Accepted.{Accepts, opened_of}
use Rattle.krb_msgs.specs.ApExchange.{OpensAp}
use Rattle.krb_msgs.specs.Fitting.{OpenedTimesFit}
use Rattle.krb_msgs.specs.declared.ap_exchange.ApOpened.{ApOpened}
use Rattle.krb_codec.specs.declared.numbers.SeqNumber.{SeqNumber}
use Rattle.krb_msgs.proofs.AnswerLemmas.{ok_err, ok_is}
use Rattle.krb_msgs.proofs.LengthLemmas.{between}

-- ---- checks that pass

pub then_passes : {A X F : Type 0} {first : Result A F → Type 0} {next : A → Result X F → Type 0} {x : X}
    → Then first next (Ok x) → (v : A) × first (Ok v) × next v (Ok x)
then_passes (goes_on v h rest) = (v, h, rest)
then_passes (stops f h e) = absurd (ok_err e)

pub held_passes : {X F : Type 0} {fact : Type 0} {fault : F} {next : Result X F → Type 0} {x : X}
    → Held fact fault next (Ok x) → fact × next (Ok x)
held_passes (met h rest) = (h, rest)
held_passes (unmet h e) = absurd (ok_err e)

pub found_passes : {A X F : Type 0} {fact : A → Type 0} {fault : F} {next : A → Result X F → Type 0} {x : X}
    → Found fact fault next (Ok x) → (v : A) × fact v × next v (Ok x)
found_passes (of_one v h rest) = (v, h, rest)
found_passes (of_none h e) = absurd (ok_err e)

-- ---- what is spelled is in its range

time_again : (bytes : List ℕ) (t : ℤ) → IsTime bytes t → is_in_range kerberos_time t ≡ true
time_again bytes t h = ap is_some ((time_of-exact t bytes).1 h)

-- what follows an optional field
behind : {A B : Type 0} (spells : List ℕ → A → Type 0) (rest : List ℕ → B → Type 0) (bytes : List ℕ) (v : Option A) (w : B)
    → IsOptional spells rest bytes v w → (others : List ℕ) × rest others w
behind spells rest bytes None w h = (bytes, h)
behind spells rest bytes (Some v) w h = (h.1, h.4)

-- the fields after cksum
abbrev time_fields : Shape
time_fields =
    field (tagged 0xa4 microseconds) (field (tagged 0xa5 kerberos_time)
    (option 0xa6 encryption_key (option 0xa7 seq_number (option 0xa8 authorization_data nothing))))

abbrev time_value : Authenticator → Value time_fields
time_value a =
    pos a.cusec.0 & a.ctime.0 & option_map encryption_key_value a.subkey
    & option_map (λ (n : SeqNumber). n.0) a.seq_number
    & option_map authorization_data_value a.authorization_data & tt

authenticator_times : (a : Authenticator) (bytes : List ℕ) → Spells authenticator bytes (authenticator_value a)
    → (is_in_range kerberos_time a.ctime.0 ≡ true) × (is_in_range microseconds (pos a.cusec.0) ≡ true)
authenticator_times a bytes h =
    let fields = h.2.2.4.4.4 in
    let times : (others : List ℕ) × Spells time_fields others (time_value a) =
    behind (λ one w. (content : List ℕ) × IsElement 0xa3 content one × Spells checksum content w)
    (Spells time_fields) _ (option_map checksum_value a.cksum) (time_value a) fields in
    let cusec = times.1.3.2.2 in
    let ctime = times.1.4.3.2.2 in
    (time_again _ _ ctime, between (pos 0) (pos 999999) (pos a.cusec.0) cusec.2 cusec.3)

pub opened_times_fit : OpenedTimesFit
unfolding OpensAp OpensTicket OpensAuthenticator Accepts
opened_times_fit realm keys bytes peer opened h =
    let presented = then_passes h in
    let ticket = then_passes presented.2 in
    let sealed = then_passes ticket.2 in
    let a = sealed.0 in
    let accepts = found_passes (held_passes (held_passes sealed.2).1).1 in
    let is : opened ≡ opened_of ticket.0.0 ticket.0.1 a accepts.0 = ok_is _ _ accepts.2 in
    let part = then_passes sealed.1 in
    let same : a ≡ part.0 = ok_is _ _ (held_passes part.2).1 in
    let read = found_passes (then_passes part.1).2 in
    let same_again : part.0 ≡ read.0 = ok_is _ _ read.2 in
    let times = authenticator_times read.0 _ read.1 in
    subst (λ (o : ApOpened). (is_in_range kerberos_time o.ctime.0 ≡ true) × (is_in_range microseconds (pos o.cusec.0) ≡ true))
    (sym is)
    (subst (λ (x : Authenticator). (is_in_range kerberos_time x.ctime.0 ≡ true) × (is_in_range microseconds (pos x.cusec.0) ≡ true))
    (sym (same ∙ same_again)) times)
