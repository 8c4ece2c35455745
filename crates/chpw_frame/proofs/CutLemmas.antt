-- A stream has one cut.
use Rattle.std.proofs.Common.{◌≡◌, ℕ, zero, suc, ◌+◌, ◌≤◌, ◌<◌, List, [], ◌∷◌, ◌++◌, length, take, drop}
use Rattle.std.proofs.Common.{refl, sym, ◌∙◌, ap, subst, arith, length-drop, append_assoc, inl, inr}
use Rattle.std.specs.Prelude.{All}
use Rattle.std.specs.Int.{to_be_bytes, w32}
use Rattle.std.proofs.lemmas.Nat.{be_bytes_4}
use Rattle.std.proofs.lemmas.Bool.{cases_lt}
use Rattle.std.proofs.lemmas.List.{take-append-drop, length-take-le}
use Rattle.std.proofs.lemmas.List.Elements.{All-take, All-drop}
use Rattle.chpw_frame.specs.Stream.{Piece, message, ended, cut_off, too_long, next_piece, after_piece, stated_length, sent, longest}
use Rattle.chpw_frame.specs.Cuts.{End, between, within_length, within_message, before_too_long, IsLeft, Cuts}
use Rattle.chpw_frame.specs.Laws.{CutOnce}
use Rattle.chpw_frame.proofs.FramingLemmas.{bytes_at}
use Rattle.chpw_frame.proofs.PieceLemmas.{sent_is_next, is_cut_off, is_cut_short, is_too_long}

-- what comes next where the stream ends so
next_at : End → Piece
next_at between = ended
next_at within_length = cut_off
next_at within_message = cut_off
next_at before_too_long = too_long

next_of_left : (end : End) (rest : List ℕ) → IsLeft end rest → next_piece rest ≡ next_at end
unfolding next_at
next_of_left between rest h = ap next_piece h
next_of_left within_length rest h = is_cut_off rest h.0 h.1
next_of_left within_message rest h = is_cut_short rest h.0 h.1 h.2
next_of_left before_too_long rest h = is_too_long rest h.0 h.1

not_a_message : (end : End) (bytes : List ℕ) → next_at end ≡ message bytes → ⊥
unfolding next_at
not_a_message between bytes h = cc
not_a_message end bytes h = cc

-- two ends of one stream
same_end : (one other : End) (rest : List ℕ) → IsLeft one rest → IsLeft other rest → other ≡ one
same_end between between rest h g = refl
same_end within_length within_length rest h g = refl
same_end within_message within_message rest h g = refl
same_end before_too_long before_too_long rest h g = refl
same_end between other rest h g = absurd (omega (arith, ap length h))
same_end one between rest h g = absurd (omega (arith, ap length g))
same_end one other rest h g = absurd (omega arith)

-- what comes next in a stream that begins with a message
next_is : (stream one rest : List ℕ) → length one ≤ longest → stream ≡ sent one ++ rest → next_piece stream ≡ message one
next_is stream one rest fits is = ap next_piece is ∙ (sent_is_next one rest fits).0

rest_is : (stream one rest : List ℕ) → length one ≤ longest → stream ≡ sent one ++ rest → rest ≡ after_piece (message one) stream
rest_is stream one rest fits is = sym (ap (after_piece (message one)) is ∙ (sent_is_next one rest fits).1)

-- two cuts of one stream
same_cut : (stream : List ℕ) (ones others : List (List ℕ)) (one other : End) → Cuts stream ones one → Cuts stream others other → (others ≡ ones) × (other ≡ one)
same_cut stream [] [] one other h g = (refl, same_end one other stream h g)
same_cut stream [] (m ∷ ms) one other h g = absurd (not_a_message one m (sym (next_of_left one stream h) ∙ next_is stream m g.0 g.1 g.2))
same_cut stream (m ∷ ms) [] one other h g = absurd (not_a_message other m (sym (next_of_left other stream g) ∙ next_is stream m h.0 h.1 h.2))
same_cut stream (m ∷ ms) (n ∷ ns) one other h g =
    let e : message n ≡ message m = sym (next_is stream n g.0 g.1 g.2) ∙ next_is stream m h.0 h.1 h.2 in
    let is : n ≡ m = cc in
    let rest : g.0 ≡ h.0 = rest_is stream n g.0 g.1 g.2 ∙ (ap (λ (k : List ℕ). after_piece (message k) stream) is ∙ sym (rest_is stream m h.0 h.1 h.2)) in
    let both = same_cut h.0 ms ns one other h.3 (subst (λ (zs : List ℕ). Cuts zs ns other) rest g.3) in
    let same : ns ≡ ms = both.0 in
    (cc, both.1)

IsCut : List ℕ → Type 0
IsCut stream = (messages : List (List ℕ)) × (end : End) × Cuts stream messages end

-- a stream whose first message is whole
begins : (stream : List ℕ) → All (λ b. b < 256) stream → 4 ≤ length stream → stated_length stream ≤ longest → 4 + stated_length stream ≤ length stream
    → stream ≡ sent (take (stated_length stream) (drop 4 stream)) ++ drop (stated_length stream) (drop 4 stream)
begins stream small some fits there =
    let n : ℕ = stated_length stream in
    let rest : List ℕ = drop 4 stream in
    let four : length (take 4 stream) ≡ 4 = length-take-le 4 stream some in
    let size : length (take n rest) ≡ n = length-take-le n rest (omega (arith, length-drop 4 stream)) in
    let head : to_be_bytes w32 (length (take n rest)) ≡ take 4 stream = be_bytes_4 (take 4 stream)
    (length (take n rest)) four (bytes_at (take 4 stream) (All-take (λ b. b < 256) 4 stream small)) size in
    sym (ap (λ (zs : List ℕ). (zs ++ take n rest) ++ drop n rest) head
    ∙ (append_assoc (take 4 stream) (take n rest) (drop n rest)
    ∙ (ap (λ (zs : List ℕ). take 4 stream ++ zs) (take-append-drop n rest) ∙ take-append-drop 4 stream)))

-- a stream is cut where shorter ones are
cut_on : (stream : List ℕ) → All (λ b. b < 256) stream → ((rest : List ℕ) → All (λ b. b < 256) rest → length rest < length stream → IsCut rest) → IsCut stream
unfolding IsCut
cut_on [] small shorter = ([], between, refl)
cut_on (x ∷ xs) small shorter =
    let stream : List ℕ = x ∷ xs in
    let n : ℕ = stated_length stream in
    let rest : List ℕ = drop n (drop 4 stream) in
    elim (cases_lt (length stream) 4) [
      | inl few ↦ ([], within_length, (omega arith, few))
      | inr four ↦ elim (cases_lt longest n) [
        | inl long ↦ ([], before_too_long, (four, long))
        | inr fits ↦ elim (cases_lt (length stream) (4 + n)) [
          | inl short ↦ ([], within_message, (four, fits, short))
          | inr there ↦
              let size : length (take n (drop 4 stream)) ≡ n = length-take-le n (drop 4 stream) (omega (arith, length-drop 4 stream)) in
              let less : length rest < length stream = omega (arith, length-drop n (drop 4 stream), length-drop 4 stream) in
              let more = shorter rest (All-drop (λ b. b < 256) n (drop 4 stream) (All-drop (λ b. b < 256) 4 stream small)) less in
              (take n (drop 4 stream) ∷ more.0, more.1, (rest, omega (arith, size), begins stream small four fits there, more.2))
        ]
      ]
    ]

cut_of : (n : ℕ) (stream : List ℕ) → All (λ b. b < 256) stream → length stream < n → IsCut stream
cut_of zero stream small h = absurd (omega arith)
cut_of (suc n) stream small h = cut_on stream small (λ rest bytes less. cut_of n rest bytes (omega arith))

pub cut_once : CutOnce
unfolding IsCut
cut_once stream small =
    let cut = cut_of (suc (length stream)) stream small (omega arith) in
    (cut.0, cut.1, cut.2, λ others other g. same_cut stream cut.0 others cut.1 other cut.2 g)
