-- Which of the service's keys a ticket is sealed under (RFC 4120 section 3.2.3).
use Rattle.std.specs.Prelude.{ℕ, ◌==◌, ◌&&◌, Bool, ℤ, List, [], ◌∷◌, Option, Some, None, option_map, nat_lt, if◌then◌else◌}
use Rattle.std.specs.Ordering.{int_eq}
use Rattle.std.specs.List.{find}
use Rattle.krb_keys.specs.Keys.{etype_of, number_of}
use Rattle.krb_keys.specs.declared.key.Key.{Key}
use Rattle.krb_msgs.specs.declared.service_keys.ServiceKey.{ServiceKey}

abbrev pub is_of_etype : ℤ → ServiceKey → Bool
is_of_etype etype k = int_eq (number_of (etype_of k.key)) etype

-- the highest kvno among the keys of an encryption type
abbrev pub highest_kvno : ℤ → List ServiceKey → ℕ
highest_kvno etype [] = 0
highest_kvno etype (k ∷ ks) =
    if is_of_etype etype k && nat_lt (highest_kvno etype ks) k.kvno then k.kvno
    else highest_kvno etype ks

-- the kvno that the ticket names, otherwise the highest
abbrev pub wanted_kvno : ℤ → Option ℕ → List ServiceKey → ℕ
wanted_kvno etype None ks = highest_kvno etype ks
wanted_kvno etype (Some kvno) ks = kvno

abbrev pub is_wanted : ℤ → ℕ → ServiceKey → Bool
is_wanted etype kvno k = is_of_etype etype k && (k.kvno == kvno)

-- the first key of that encryption type and kvno
abbrev pub service_key : List ServiceKey → ℤ → Option ℕ → Option Key
service_key ks etype kvno =
    option_map (λ (k : ServiceKey). k.key)
    (find (λ (k : ServiceKey). is_wanted etype (wanted_kvno etype kvno ks) k) ks)
