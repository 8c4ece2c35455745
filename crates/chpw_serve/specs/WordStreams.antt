-- The words of ChaCha20 (RFC 8439 section 2.3, with a stream number of 64 bits), by their place.
use Rattle.std.specs.Prelude.{◌≡◌, ℕ, ◌+◌, ◌%◌, ◌^◌, List, length, map}
use Rattle.std.specs.List.{range_with_len}
use Rattle.rand_chacha.specs.ChaCha.{word_at}
use Rattle.chpw_serve.specs.InTurn.{InTurn}

-- the key's eight words, the stream, and the place of the next word
pub record WordStream : Type 0 where
  pub key : List ℕ
  pub stream : ℕ
  pub place : ℕ

abbrev pub stream_start : List ℕ → ℕ → WordStream
stream_start key stream = record { key = key; stream = stream; place = 0 }

-- the next word of 20 rounds, and the stream after it, which begins again after 2 ^ 68 words
abbrev pub gives_word : WordStream → ℕ → WordStream → Type 0
gives_word s word t = (word ≡ word_at 10 s.key s.stream s.place) × (t ≡ record s { place = (s.place + 1) % 2 ^ 68 })

-- the first words of a key's stream
abbrev pub first_words : List ℕ → ℕ → ℕ → List ℕ
first_words key stream count = map (λ place. word_at 10 key stream (place % 2 ^ 68)) (range_with_len 0 count)

-- whatever is drawn from here on is the key's stream from its first word on
abbrev pub GivesFromTheFirst : List ℕ → ℕ → WordStream → Type 0
GivesFromTheFirst key stream s = (words : List ℕ) (t : WordStream) → InTurn gives_word s words t → words ≡ first_words key stream (length words)
