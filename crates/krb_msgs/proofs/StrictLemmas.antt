-- What strict messages come to.
use Rattle.std.proofs.Common.{◌≡◌, ℕ, List, true, false, Option, Result, Ok, Err, refl, sym, ◌∙◌, subst, inl, inr}
use Rattle.std.specs.Prelude.{◌⊎◌}
use Rattle.krb_keys.specs.Keys.{IsProtocolKey}
use Rattle.krb_keys.specs.KeyUsages.{usage_krb_priv}
use Rattle.krb_keys.specs.declared.key.Key.{Key}
use Rattle.krb_codec.specs.declared.numbers.SeqNumber.{SeqNumber}
use Rattle.krb_der.specs.Types.{krb_priv, enc_krb_priv_part}
use Rattle.krb_der.specs.Values.{krb_priv_value, enc_krb_priv_part_value}
use Rattle.krb_der.specs.declared.krb_priv.KrbPriv.{KrbPriv}
use Rattle.krb_der.specs.declared.krb_priv.EncKrbPrivPart.{EncKrbPrivPart}
use Rattle.krb_msgs.specs.Checks.{met, unmet, goes_on, stops}
use Rattle.krb_msgs.specs.Parts.{OpensPart, Reads}
use Rattle.krb_msgs.specs.PrivateMessages.{IsPrivate, OpensPriv, meets}
use Rattle.krb_msgs.specs.StrictLaws.{HasPart, LoosePrivsAreRefused, OtherPrivsOpenAlike, StrictPrivsOpen}
use Rattle.krb_msgs.specs.declared.private_message.Strictness.TheVariants.{Lenient, Strict}
use Rattle.krb_msgs.specs.declared.fault.PrivFault.{PrivFault}
use Rattle.krb_msgs.specs.declared.fault.PrivFault.TheVariants as fault
use Rattle.krb_msgs.proofs.AnswerLemmas.{ok_err, ok_is}
use Rattle.krb_msgs.proofs.InverseLemmas.{krb_priv_apart, priv_part_apart}
use Rattle.krb_msgs.proofs.OneAnswerLemmas.{one_part, one_read}

pub strict_privs_open : StrictPrivsOpen
unfolding OpensPriv
strict_privs_open local subkey seq_number bytes answer (stops f h is) = inl (stops f h is)
strict_privs_open local subkey seq_number bytes answer (goes_on m h (unmet wrong is)) = inl (goes_on m h (unmet wrong is))
strict_privs_open local subkey seq_number bytes answer (goes_on m h (met right (stops f k is))) = inl (goes_on m h (met right (stops f k is)))
strict_privs_open local subkey seq_number bytes answer (goes_on m h (met right (goes_on part k (unmet wrong is)))) =
    inl (goes_on m h (met right (goes_on part k (unmet wrong is))))
strict_privs_open local subkey seq_number bytes answer (goes_on m h (met right (goes_on part k (met follows (met strict is))))) =
    inl (goes_on m h (met right (goes_on part k (met follows (met refl is)))))
strict_privs_open local subkey seq_number bytes answer (goes_on m h (met right (goes_on part k (met follows (unmet loose is))))) = inr is

pub other_privs_open_alike : OtherPrivsOpenAlike
unfolding OpensPriv
other_privs_open_alike local subkey seq_number bytes answer all = (to_lenient, to_strict)
  where
    to_lenient : OpensPriv Strict local subkey seq_number bytes answer → OpensPriv Lenient local subkey seq_number bytes answer
    to_lenient (stops f h is) = stops f h is
    to_lenient (goes_on m h (unmet wrong is)) = goes_on m h (unmet wrong is)
    to_lenient (goes_on m h (met right (stops f k is))) = goes_on m h (met right (stops f k is))
    to_lenient (goes_on m h (met right (goes_on part k (unmet wrong is)))) = goes_on m h (met right (goes_on part k (unmet wrong is)))
    to_lenient (goes_on m h (met right (goes_on part k (met follows (met strict is))))) =
        goes_on m h (met right (goes_on part k (met follows (met refl is))))
    to_lenient (goes_on m h (met right (goes_on part k (met follows (unmet loose is))))) = absurd (loose (all part (m, h, right, k)))

    to_strict : OpensPriv Lenient local subkey seq_number bytes answer → OpensPriv Strict local subkey seq_number bytes answer
    to_strict (stops f h is) = stops f h is
    to_strict (goes_on m h (unmet wrong is)) = goes_on m h (unmet wrong is)
    to_strict (goes_on m h (met right (stops f k is))) = goes_on m h (met right (stops f k is))
    to_strict (goes_on m h (met right (goes_on part k (unmet wrong is)))) = goes_on m h (met right (goes_on part k (unmet wrong is)))
    to_strict (goes_on m h (met right (goes_on part k (met follows (met lenient is))))) =
        goes_on m h (met right (goes_on part k (met follows (met (all part (m, h, right, k)) is))))
    to_strict (goes_on m h (met right (goes_on part k (met follows (unmet never is))))) = absurd (never refl)

-- ---- the message and its part are those that the checks find

abbrev SealedIn : Key → KrbPriv → Result EncKrbPrivPart PrivFault → Type 0
SealedIn subkey m r =
    OpensPart enc_krb_priv_part enc_krb_priv_part_value subkey usage_krb_priv m.enc_part fault.NotSealed fault.Malformed r

abbrev ReadAs : List ℕ → Result KrbPriv PrivFault → Type 0
ReadAs bytes r = Reads krb_priv krb_priv_value bytes fault.Malformed r

read_once : (bytes : List ℕ) (one other : Result KrbPriv PrivFault) → ReadAs bytes one → ReadAs bytes other → one ≡ other
read_once bytes = one_read krb_priv krb_priv_value bytes fault.Malformed refl krb_priv_apart

sealed_once : (subkey : Key) (m : KrbPriv) (one other : Result EncKrbPrivPart PrivFault) → IsProtocolKey subkey
    → SealedIn subkey m one → SealedIn subkey m other → one ≡ other
sealed_once subkey m one other is_key h k =
    one_part enc_krb_priv_part enc_krb_priv_part_value subkey usage_krb_priv m.enc_part fault.NotSealed
    fault.Malformed refl priv_part_apart is_key one other h k

same_message : (subkey : Key) (bytes : List ℕ) (part : EncKrbPrivPart) (has : HasPart subkey bytes part) (m : KrbPriv)
    → ReadAs bytes (Ok m) → has.0 ≡ m
same_message subkey bytes part has m h = ok_is has.0 m (read_once bytes (Ok has.0) (Ok m) has.1 h)

its_part : (subkey : Key) (bytes : List ℕ) (part : EncKrbPrivPart) (has : HasPart subkey bytes part) (m : KrbPriv)
    → ReadAs bytes (Ok m) → IsPrivate m × SealedIn subkey m (Ok part)
its_part subkey bytes part has m h =
    let same = same_message subkey bytes part has m h in
    (subst IsPrivate same has.2, subst (λ (x : KrbPriv). SealedIn subkey x (Ok part)) same has.3)

pub loose_privs_are_refused : LoosePrivsAreRefused
unfolding OpensPriv
loose_privs_are_refused local subkey seq_number bytes part answer is_key has loose (stops f h is) =
    absurd (ok_err (read_once bytes (Ok has.0) (Err f) has.1 h))
loose_privs_are_refused local subkey seq_number bytes part answer is_key has loose (goes_on m h (unmet wrong is)) =
    absurd (wrong (its_part subkey bytes part has m h).0)
loose_privs_are_refused local subkey seq_number bytes part answer is_key has loose (goes_on m h (met right (stops f k is))) =
    absurd (ok_err (sealed_once subkey m (Ok part) (Err f) is_key (its_part subkey bytes part has m h).1 k))
loose_privs_are_refused local subkey seq_number bytes part answer is_key has loose (goes_on m h (met right (goes_on p k (unmet wrong is)))) =
    inl is
loose_privs_are_refused local subkey seq_number bytes part answer is_key has loose (goes_on m h (met right (goes_on p k (met follows (met strict is))))) =
    let same = ok_is part p (sealed_once subkey m (Ok part) (Ok p) is_key (its_part subkey bytes part has m h).1 k) in
    let not_strict : meets Strict local seq_number p ≡ false = subst (λ (x : EncKrbPrivPart). meets Strict local seq_number x ≡ false) same loose in
    absurd (let no : true ≡ false = sym strict ∙ not_strict in cc)
loose_privs_are_refused local subkey seq_number bytes part answer is_key has loose (goes_on m h (met right (goes_on p k (met follows (unmet wrong is))))) =
    inr is
