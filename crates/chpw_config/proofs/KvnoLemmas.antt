-- Version numbers that go down.
use Rattle.std.proofs.Common.{◌≡◌, ℕ, ◌-◌, ◌<◌, true, List, [], ◌∷◌, ◌++◌, length, get_or, refl, arith}
use Rattle.std.specs.Prelude.{nat_lt}
use native.Mathlib.Numerals.{unary_clauses}
use Rattle.std.proofs.lemmas.Bool.{and_parts}
use Rattle.chpw_rules.specs.declared.config.KeyBytes.{KeyBytes}
use Rattle.chpw_rules.specs.Fitting.{descend_from, kvnos_descend}
use Rattle.chpw_config.specs.Rows.{comes_after}

-- the version number is held against the last key's
pub comes_after_last : (before : List KeyBytes) (kvno : ℕ) (d : KeyBytes) → 0 < length before
    → comes_after before kvno ≡ nat_lt kvno (get_or before (length before - 1) d).kvno
comes_after_last [] kvno d h = absurd (omega arith)
comes_after_last (newer ∷ []) kvno d h = refl
comes_after_last (_ ∷ newer ∷ keys) kvno d h = simp unary_clauses (simp unary_clauses at (comes_after_last (newer ∷ keys) kvno d (omega arith)))

-- one more key, its version number less than the last
descend_more : (newer : KeyBytes) (keys : List KeyBytes) (key : KeyBytes) → descend_from newer.kvno keys ≡ true
    → comes_after (newer ∷ keys) key.kvno ≡ true → descend_from newer.kvno (keys ++ key ∷ []) ≡ true
descend_more newer [] key down after = rw after
descend_more newer (next ∷ keys) key down after =
    let (here, rest) = and_parts (nat_lt next.kvno newer.kvno) (descend_from next.kvno keys) down in
    rw (here, descend_more next keys key rest after)

pub kvnos_descend_more : (keys : List KeyBytes) (key : KeyBytes) → kvnos_descend keys ≡ true
    → comes_after keys key.kvno ≡ true → kvnos_descend (keys ++ key ∷ []) ≡ true
kvnos_descend_more [] key down after = refl
kvnos_descend_more (first ∷ keys) key down after = descend_more first keys key down after
