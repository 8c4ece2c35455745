-- Compact journals, computed: a principal whose keys are others, one with the same, one that the opening lacks and one that is
-- held no more; a version that was lifted; a count that was raised, and one that wasn't; a base's bytes, and what puts it back.
use Rattle.std.proofs.Common.{◌≡◌, ℕ, List, [], ◌∷◌, take, drop, false, Some, None, refl}
use Rattle.std.specs.Prelude.{codes, pos}
use Rattle.chpw_table.specs.declared.table.Principal.{Principal}
use Rattle.chpw_table.specs.State.{State, keys_held, new_count}
use Rattle.chpw_table.specs.Updates.{blank_key}
use Rattle.chpw_table.proofs.Worked.{alice, bob, admin, our_realm, key_row}
use Rattle.chpw_record.specs.declared.record.KeyKind.TheVariants as kind
use Rattle.chpw_record.specs.declared.record.Record.TheVariants as record_of
use Rattle.chpw_record.specs.Records.{record_text}
use Rattle.chpw_journal.specs.JournalText.{with_record, restored}
use Rattle.chpw_journal.specs.Compact.{compacted, are_same_keys}

-- depth 3, with these principals and this count
abbrev state_of : List Principal → ℕ → State
state_of principals count = record {
  fixed = record {
    realm = our_realm;
    policy = record { min_length = 6; min_classes = 2; depth = 3; iterations = 4; set_needs_initial = false };
    rules = record { list = [] };
    quiet_until = pos 300;
  };
  principals = principals;
  used = [];
  clock = pos 1000;
  broken = false;
  count = count;
}

-- alice has changed her key three times, bob never; admin came in elsewhere; the count was raised to 8
abbrev opening : State
opening = state_of (record { name = alice; keys = key_row 1 4 0xa1 ∷ [] } ∷ record { name = bob; keys = key_row 7 4 0xb7 ∷ [] } ∷ []) 4

abbrev held : State
held = state_of (
    record { name = admin; keys = key_row 9 4 0xad ∷ [] }
    ∷ record { name = alice; keys = key_row 4 8 0xa4 ∷ key_row 3 4 0xa3 ∷ key_row 2 4 0xa2 ∷ [] }
    ∷ record { name = bob; keys = key_row 7 4 0xb7 ∷ [] }
    ∷ []
    ) 8

pub a_raise_and_alice : compacted opening held
    ≡ record_of.Raise 8
    ∷ record_of.Key kind.Base (record { name = alice; key = key_row 2 4 0xa2 })
    ∷ record_of.Key kind.Change (record { name = alice; key = key_row 3 4 0xa3 })
    ∷ record_of.Key kind.Change (record { name = alice; key = key_row 4 8 0xa4 })
    ∷ record_of.Key kind.Adopt (record { name = admin; key = key_row 9 4 0xad })
    ∷ []
a_raise_and_alice = refl

pub alice_is_back : keys_held (restored opening (compacted opening held)) alice ≡ keys_held held alice
alice_is_back = refl

pub bob_stays : keys_held (restored opening (compacted opening held)) bob ≡ Some (key_row 7 4 0xb7 ∷ [])
bob_stays = refl

pub admin_joins : keys_held (restored opening (compacted opening held)) admin ≡ Some (key_row 9 4 0xad ∷ [])
admin_joins = refl

pub count_is_back : new_count (restored opening (compacted opening held)) ≡ 8
count_is_back = refl

-- the count is no greater, admin is held no more, and alice has a key alone
pub lower_count_and_one_key : compacted held opening
    ≡ record_of.Key kind.Remove (record { name = admin; key = blank_key })
    ∷ record_of.Key kind.Base (record { name = alice; key = key_row 1 4 0xa1 })
    ∷ []
lower_count_and_one_key = refl

pub admin_is_none : keys_held (restored held (compacted held opening)) admin ≡ None
admin_is_none = refl

-- bob's version was lifted to 9, and then changed; what he had before is the base
abbrev lifted : State
lifted = state_of (
    record { name = alice; keys = key_row 1 4 0xa1 ∷ [] }
    ∷ record { name = bob; keys = key_row 10 4 0xba ∷ key_row 9 4 0xb9 ∷ key_row 7 4 0xb7 ∷ [] }
    ∷ []
    ) 4

pub a_version_further_on : compacted opening lifted
    ≡ record_of.Key kind.Base (record { name = bob; key = key_row 7 4 0xb7 })
    ∷ record_of.Key kind.Adopt (record { name = bob; key = key_row 9 4 0xb9 })
    ∷ record_of.Key kind.Change (record { name = bob; key = key_row 10 4 0xba })
    ∷ []
a_version_further_on = refl

pub bob_is_back : keys_held (restored opening (compacted opening lifted)) bob ≡ keys_held lifted bob
bob_is_back = refl

pub none_of_itself : compacted held held ≡ []
none_of_itself = refl

-- one bit of a key, its count, one key less
pub another_key : are_same_keys (key_row 1 4 0xa1 ∷ []) (key_row 1 4 0xa0 ∷ []) ≡ false
another_key = refl

pub another_count : are_same_keys (key_row 1 4 0xa1 ∷ []) (key_row 1 5 0xa1 ∷ []) ≡ false
another_count = refl

pub one_key_less : are_same_keys (key_row 2 4 0xa2 ∷ key_row 1 4 0xa1 ∷ []) (key_row 2 4 0xa2 ∷ []) ≡ false
one_key_less = refl

-- a base's bytes, but for the 48 of the keys: length, kind, kvno and iteration count, and the name
pub front_of_a_base : take 11 (record_text (record_of.Key kind.Base (record { name = alice; key = key_row 2 4096 0xa2 })))
    ≡ 0 ∷ 0x40 ∷ 3 ∷ 0 ∷ 0 ∷ 0 ∷ 2 ∷ 0 ∷ 0 ∷ 0x10 ∷ 0 ∷ []
front_of_a_base = refl

pub end_of_a_base : drop 59 (record_text (record_of.Key kind.Base (record { name = alice; key = key_row 2 4096 0xa2 }))) ≡ 1 ∷ 5 ∷ codes "alice"
end_of_a_base = refl

-- put back where three keys were held
pub base_alone : keys_held (with_record (record_of.Key kind.Base (record { name = alice; key = key_row 9 4 0xa9 })) held) alice ≡ Some (key_row 9 4 0xa9 ∷ [])
base_alone = refl
