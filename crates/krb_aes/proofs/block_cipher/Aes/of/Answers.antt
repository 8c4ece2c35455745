use Rattle.std.proofs.Common.{ℕ, ◌+◌, ◌*◌, ◌<◌, ◌≤◌, length, take, inl, inr, sym, ap, subst, ◌∙◌, arith}
use Rattle.std.proofs.lemmas.List.Elements.{All-from_get_or, All-same}
use Rattle.krb_aes.specs.KeyExpansion.{rounds_of, key_expansion}
use Rattle.krb_aes.specs.EquivalentInverse.{IsKeyExpansionEic}
use Rattle.krb_aes.proofs.ScheduleLemmas.{key_lengths, key_of_schedule}
use Rattle.krb_aes.proofs.block_cipher.Aes.of.Goals as goal

pub invariant_of-result : goal.invariant_of-result
invariant_of-result c =
    let key = c.args.key.now in
    let le : length key ≤ 16 * (rounds_of (length key) + 1) = elim (key_lengths (length key) c.requires) [ inl l ↦ omega arith | inr l ↦ omega arith ] in
    let front = key_of_schedule key c.key_expansion-words.result (16 * (rounds_of (length key) + 1)) le c.key_expansion-words.ensures in (
      c.requires,
      All-same (λ (x : ℕ). x < 256) (take (length key) c.key_expansion-words.result) key front
          (All-from_get_or (λ (x : ℕ). x < 256) key 0 (λ k h. let f = c.type_inv.key k in omega arith)),
      c.key_expansion-words.ensures ∙ ap key_expansion (sym front),
      subst (λ (n : ℕ). IsKeyExpansionEic c.key_expansion_eic.result c.key_expansion-words.result n) c.round_count.ensures c.key_expansion_eic.ensures,
    )

pub returns : goal.returns
returns c =
    let key = c.args.key.now in
    let le : length key ≤ 16 * (rounds_of (length key) + 1) = elim (key_lengths (length key) c.requires) [ inl l ↦ omega arith | inr l ↦ omega arith ] in
    record { value = key_of_schedule key c.key_expansion-words.result (16 * (rounds_of (length key) + 1)) le c.key_expansion-words.ensures }
