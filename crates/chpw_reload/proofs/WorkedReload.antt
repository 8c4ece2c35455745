-- Reloads, computed: a principal that the new file lacks, one that it adds, another depth; other keys of a name.
use Rattle.std.proofs.Common.{◌≡◌, ℕ, [], ◌∷◌, ◌++◌, take, true, false, Some, refl}
use Rattle.std.specs.Prelude.{codes, pos}
use Rattle.std.specs.Fmt.{decimal}
use Rattle.chpw_rules.specs.declared.policy.Policy.{Policy}
use Rattle.chpw_rules.specs.declared.config.Config.{Config}
use Rattle.chpw_rules.specs.Fitting.{config_fits}
use Rattle.chpw_table.specs.declared.request.RequestId.{RequestId}
use Rattle.chpw_table.specs.State.{State, keys_held, is_used, kept_count, new_count, opening_of}
use Rattle.chpw_table.specs.Restoring.{with_kept_key}
use Rattle.chpw_table.proofs.Worked.{alice, bob, admin, our_realm, key_bytes, key_row, configured}
use Rattle.chpw_journal.specs.declared.fault.RestoreFault.TheVariants.{UnknownPrincipal}
use Rattle.chpw_reload.specs.declared.fault.ReloadFault.TheVariants.{Realm, Journal, Keys}
use Rattle.chpw_reload.specs.Next.{settings_of, lacked, next_config, next_state}
use Rattle.chpw_reload.specs.Comparing.{AreNewest}
use Rattle.chpw_reload.specs.Reasons.{fault_after, fault_text}

abbrev policy_of : ℕ → ℕ → Policy
policy_of depth iterations = record { min_length = 6; min_classes = 2; depth = depth; iterations = iterations; set_needs_initial = false }

abbrev seen : RequestId
seen = record { crealm = our_realm; client = alice; ctime = pos 990; cusec = 0 }

-- the desk that was closed: depth 2, alice has changed her key once, and the count was raised to 8
abbrev closed : State
closed = record {
  fixed = record { realm = our_realm; policy = policy_of 2 4; rules = record { list = [] }; quiet_until = pos 300 };
  principals = record { name = alice; keys = key_row 2 4 0xa2 ∷ key_row 1 4 0xa1 ∷ [] } ∷ record { name = bob; keys = key_row 7 4 0xb7 ∷ [] } ∷ [];
  used = seen ∷ [];
  clock = pos 1000;
  broken = false;
  count = 8;
}

-- the new file: depth 1, alice as she began, no bob, a new admin
abbrev file : Config
file = configured (policy_of 1 5) [] (record { name = alice; keys = key_bytes 1 4 0xa1 ∷ [] } ∷ record { name = admin; keys = key_bytes 3 4 0xad ∷ [] } ∷ [])

-- with alice's change put back
abbrev renewed : State
renewed = with_kept_key alice (key_row 2 4 0xa2) (opening_of file (pos 0))

abbrev next : State
next = next_state (settings_of file) closed renewed

pub only_bob_is_lacked : lacked closed renewed ≡ bob ∷ []
only_bob_is_lacked = refl

pub next_fits : config_fits (next_config (settings_of file) closed renewed) ≡ true
next_fits = refl

pub alice_has_her_newest : keys_held next alice ≡ Some (key_row 2 4 0xa2 ∷ [])
alice_has_her_newest = refl

pub admin_is_new : keys_held next admin ≡ Some (key_row 3 4 0xad ∷ [])
admin_is_new = refl

pub bob_stays : keys_held next bob ≡ Some (key_row 7 4 0xb7 ∷ [])
bob_stays = refl

pub one_key_is_kept : kept_count next ≡ 1
one_key_is_kept = refl

pub count_stays_raised : new_count next ≡ 8
count_stays_raised = refl

pub id_stays_used : is_used next seen ≡ true
id_stays_used = refl

pub quiet_as_before : next.fixed.quiet_until ≡ pos 300
quiet_as_before = refl

pub clock_as_before : next.clock ≡ pos 1000
clock_as_before = refl

-- the newest alone is compared, since one is kept now
pub one_key_compared : AreNewest (take (kept_count renewed) (key_row 2 4 0xa2 ∷ key_row 1 4 0xa1 ∷ [])) (key_row 2 4 0xa2 ∷ [])
one_key_compared = refl

-- older keys may follow the newest that are held; a held one may not be missing
pub older_keys_come_back : AreNewest (key_row 2 4 0xa2 ∷ []) (key_row 2 4 0xa2 ∷ key_row 1 4 0xa1 ∷ [])
older_keys_come_back = refl

-- a file that lacks alice's first key, and so can't have her change
pub text_of_a_fault : fault_text (Journal (fault_after 2 (UnknownPrincipal 1))) ≡ codes "J3 at " ++ decimal 3
text_of_a_fault = refl

pub text_of_a_name : fault_text (Keys (record { parts = codes "kadmin" ∷ codes "changepw" ∷ [] })) ≡ codes "other keys of kadmin/changepw"
text_of_a_name = refl

pub text_of_a_realm : fault_text (Realm (codes "EXAMPLE.COM") (codes "OTHER")) ≡ codes "another realm: OTHER, not EXAMPLE.COM"
text_of_a_realm = refl
