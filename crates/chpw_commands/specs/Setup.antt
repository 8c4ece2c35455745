-- The lines of a drill script before `open`: realm, policy, rule, principal.
use Rattle.std.specs.Prelude.{ℕ, ◌-◌, Bool, true, false, ◌&&◌, nat_le, if◌then◌else◌, List, [], ◌∷◌, length}
use Rattle.std.specs.Prelude.{replicate, Option, Some, None, option_map, ℤ, pos, negsuc, bytes_eq, codes}
use Rattle.chpw_rules.specs.declared.config.KeyBytes.{KeyBytes}
use Rattle.chpw_rules.specs.declared.config.PrincipalRow.{PrincipalRow}
use Rattle.chpw_rules.specs.declared.name.Name.{Name}
use Rattle.chpw_rules.specs.declared.policy.Policy.{Policy}
use Rattle.chpw_rules.specs.declared.rules.Rule.{Rule}
use Rattle.chpw_rules.specs.Limits.{is_in, min_lengths, min_class_counts, depths, iteration_counts, kvnos, key_counts}
use Rattle.chpw_rules.specs.Names.{name_of}
use Rattle.chpw_commands.specs.declared.drill.words.CountedKey.{CountedKey}
use Rattle.chpw_commands.specs.Words.{◌>>=◌, keep_if, number_in, counted_key, each_of}

-- yes|no
unfoldable pub choice_of : List ℕ → Option Bool
choice_of word =
    if bytes_eq word (codes "yes") then Some true
    else if bytes_eq word (codes "no") then Some false
    else None

-- MIN_LENGTH MIN_CLASSES DEPTH ITERATIONS yes|no
unfoldable pub policy_of : List (List ℕ) → Option Policy
policy_of (length ∷ classes ∷ depth ∷ iterations ∷ set ∷ []) = do
  min_length ← number_in min_lengths length
  min_classes ← number_in min_class_counts classes
  depth ← number_in depths depth
  iterations ← number_in iteration_counts iterations
  set_needs_initial ← choice_of set
  Some (record {
    min_length = min_length;
    min_classes = min_classes;
    depth = depth;
    iterations = iterations;
    set_needs_initial = set_needs_initial;
  })
policy_of _ = None

-- TARGET|*
unfoldable pub rule_target : List ℕ → Option (Option Name)
rule_target word =
    if bytes_eq word (codes "*") then Some None
    else option_map (λ name. Some name) (name_of word)

-- ACTOR TARGET|*
unfoldable pub rule_of : List (List ℕ) → Option Rule
rule_of (actor ∷ target ∷ []) = do
  actor ← name_of actor
  target ← rule_target target
  Some (record { actor = actor; target = target })
rule_of _ = None

-- both keys of one byte, 16 of etype 17 and 32 of etype 18
abbrev pub key_under : ℕ → CountedKey → KeyBytes
key_under kvno k = record {
  kvno = kvno;
  iterations = k.count;
  aes128 = replicate 16 k.byte;
  aes256 = replicate 32 k.byte;
}

-- versions go down from the first
abbrev pub numbered : ℕ → List CountedKey → List KeyBytes
numbered kvno [] = []
numbered kvno (k ∷ ks) = key_under kvno k ∷ numbered (kvno - 1) ks

-- NAME KVNO COUNT:KEY .. (newest first, KVNO of the first); the last version is at least 1
unfoldable pub principal_of : List (List ℕ) → Option PrincipalRow
principal_of (name ∷ kvno ∷ keys) = do
  newest ← number_in kvnos kvno
  keys ← each_of counted_key keys
  keys ← keep_if (is_in key_counts (length keys) && nat_le (length keys) newest) keys
  name ← name_of name
  Some (record { name = name; keys = numbered newest keys })
principal_of _ = None
