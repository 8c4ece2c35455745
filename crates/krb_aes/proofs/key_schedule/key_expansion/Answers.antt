use Rattle.std.proofs.Common.{◌≡◌, ℕ, ◌+◌, ◌-◌, ◌*◌, ◌/◌, ◌≤◌, length, take, inl, inr, refl, sym, ap, ◌∙◌, arith}
use Rattle.std.proofs.lemmas.List.{length-append, length-drop, length-take}
use Rattle.krb_aes.specs.KeyExpansion.{expanded, rounds_of}
use Rattle.krb_aes.proofs.ScheduleLemmas.{key_lengths, key_written, word_written}
use Rattle.krb_aes.proofs.key_schedule.key_expansion.Goals as goal

pub loop-i-init : goal.loop-i-init
loop-i-init c =
    let len : length c.args.key.now ≤ 240 = elim (key_lengths (length c.args.key.now) c.requires) [ inl l ↦ omega arith | inr l ↦ omega arith ] in (
      rw c.copy_from_slice.ensures.after (simp (length-append, length-drop) (omega arith)),
      key_written c.args.key.now _ _ c.requires c.copy_from_slice.ensures.after,
    )

pub loop-i-preserved : goal.loop-i-preserved
loop-i-preserved c =
    let words = c.loop-i.words in
    let i = c.loop-i.i in
    let nk = length c.args.key.now / 4 in
    let key = key_lengths (length c.args.key.now) c.requires in
    let pos : 1 ≤ nk = elim key [ inl l ↦ omega arith | inr l ↦ omega arith ] in
    let fits : 4 * i + 4 ≤ 240 = elim key [ inl l ↦ omega arith | inr l ↦ omega arith ] in
    let copied = c.copy_from_slice-in-loop-i.ensures.after in
    let four : length c.copy_from_slice-in-loop-i.new.self ≡ 4 = c.copy_from_slice-in-loop-i.ensures.len ∙ simp (length-take, length-drop) (omega arith) in (
      simp (length-append, length-take, length-drop) (omega arith),
      word_written c.args.key.now words _ nk i _ refl pos (omega arith) (omega arith) c.loop-i.invariant.1 (copied
          ∙ c.xor_into.ensures.value ∙ rw (c.word_at-word.ensures, c.key_step.ensures, c.word_at.ensures) refl) four,
    )

pub returns : goal.returns
returns c =
    let key = c.args.key.now in
    let n : 4 * c.loop-i.i ≡ 16 * (rounds_of (length key) + 1) = omega arith in
    let m : c.loop-i.i - length key / 4 ≡ 4 * (rounds_of (length key) + 1) - length key / 4 = omega arith in
    ap (λ (k : ℕ). take k c.loop-i.words) (sym n) ∙ c.loop-i.invariant.1 ∙ ap (expanded key) m
