-- What a stream of words gives, word after word.
use Rattle.std.proofs.Common.{◌≡◌, ℕ, ◌+◌, ◌%◌, ◌^◌, List, [], ◌∷◌, length, map, refl, ◌∙◌, ap, subst}
use Rattle.std.specs.List.{range_with_len}
use Rattle.std.proofs.Math.Nat.{mod-add-mod}
use Rattle.rand_chacha.specs.ChaCha.{word_at}
use Rattle.chpw_serve.specs.InTurn.{InTurn}
use Rattle.chpw_serve.specs.WordStreams.{WordStream, gives_word, stream_start, GivesFromTheFirst}

-- from a place on
from_place : (key : List ℕ) (stream n place : ℕ) (words : List ℕ) (t : WordStream) → place ≡ n % 2 ^ 68
    → InTurn gives_word (record { key = key; stream = stream; place = place }) words t
    → words ≡ map (λ p. word_at 10 key stream (p % 2 ^ 68)) (range_with_len n (length words))
from_place key stream n place [] t e h = refl
from_place key stream n place (w ∷ ws) t e h =
    ap (λ x. x ∷ ws) (h.1.0 ∙ ap (word_at 10 key stream) e)
    ∙ ap (λ xs. word_at 10 key stream (n % 2 ^ 68) ∷ xs)
    (from_place key stream (n + 1) ((place + 1) % 2 ^ 68) ws t (ap (λ p. (p + 1) % 2 ^ 68) e ∙ mod-add-mod n (2 ^ 68) 1)
    (subst (λ s. InTurn gives_word s ws t) h.1.1 h.2))

pub from_the_first : (key : List ℕ) (stream : ℕ) → GivesFromTheFirst key stream (stream_start key stream)
from_the_first key stream words t h = from_place key stream 0 0 words t refl h
