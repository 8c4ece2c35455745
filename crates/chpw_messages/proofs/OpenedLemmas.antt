-- The times of a request that opened are times that a reply can say.
use Rattle.std.proofs.Common.{◌≡◌, ◌<◌, ℕ, ℤ, pos, negsuc, ◌≤ℤ◌, true, not, List, Ok, arith, inl, inr}
use Rattle.std.specs.Prelude.{int_lt}
use Rattle.std.proofs.lemmas.Int.{ints}
use Rattle.std.specs.declared.net.ip_addr.IpAddr.{IpAddr}
use Rattle.krb_codec.specs.Shapes.{kerberos_time, microseconds}
use Rattle.krb_codec.specs.Texts.{is_in_range}
use Rattle.krb_codec.specs.Times.{is_writable, time_of}
use Rattle.krb_codec.proofs.CompleteLemmas.{and_true, same_or_not}
use Rattle.krb_msgs.specs.ApExchange.{OpensAp}
use Rattle.krb_msgs.specs.declared.service_keys.ServiceKey.{ServiceKey}
use Rattle.krb_msgs.specs.declared.ap_exchange.ApOpened.{ApOpened}
use Rattle.krb_msgs.proofs.OpenedLemmas.{opened_times_fit}
use Rattle.chpw_serve.specs.Holding.{IsReplyTime}
use Rattle.chpw_messages.specs.Opening.{seal_of}

-- a number that isn't less than another
not_less : (a b : ℤ) → not (int_lt a b) ≡ true → b ≤ℤ a
not_less a b h = grind (arith, ints)

abbrev IsTime : ℤ → Type 0
IsTime t = (negsuc 62167219199 ≤ℤ t) × (t ≤ℤ pos 253402300799)

written : (t : ℤ) → is_writable t ≡ true → IsTime t
written t h =
    let both = and_true (not (int_lt t (negsuc 62167219199))) (not (int_lt (pos 253402300799) t)) h in
    (not_less t (negsuc 62167219199) both.0, not_less (pos 253402300799) t both.1)

time_in_years : (t : ℤ) → is_in_range kerberos_time t ≡ true → IsTime t
unfolding time_of
time_in_years t h = elim (same_or_not (is_writable t)) [
  | inl e ↦ written t e
  | inr e ↦ let none = rw e at h in cc
]

micros_below : (n : ℕ) → is_in_range microseconds (pos n) ≡ true → n < 1000000
micros_below n h =
    let both = and_true (not (int_lt (pos n) (pos 0))) (not (int_lt (pos 999999) (pos n))) h in
    let le = not_less (pos 999999) (pos n) both.1 in
    omega (arith, ints)

pub reply_times : (local : IpAddr) (realm : List ℕ) (keys : List ServiceKey) (bytes : List ℕ) (peer : IpAddr) (a : ApOpened)
    → OpensAp realm keys bytes peer (Ok a) → IsReplyTime (seal_of local a)
reply_times local realm keys bytes peer a h =
    let fit = opened_times_fit realm keys bytes peer a h in
    let years = time_in_years a.ctime.0 fit.0 in
    (years.0, years.1, micros_below a.cusec.0 fit.1)
