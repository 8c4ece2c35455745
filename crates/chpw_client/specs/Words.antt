-- The random words of a request.
use Rattle.std.specs.Prelude.{ℕ, List, ◌++◌}
use Rattle.krb_keys.specs.declared.key.Key.{Key}
use Rattle.krb_keys.specs.declared.key.Key.TheVariants.{Aes256}
use Rattle.krb_msgs.specs.Making.{word_bytes}
use Rattle.chpw_client.specs.declared.drawing.RequestWords.{RequestWords}

-- in the order in which they are drawn
abbrev pub words_of : RequestWords → List ℕ
words_of w = w.session ++ (w.subkey ++ (w.ticket ++ (w.authenticator ++ w.private)))

abbrev pub drawn_key : List ℕ → Key
drawn_key words = Aes256 (word_bytes words)
