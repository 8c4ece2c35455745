use Rattle.std.proofs.Common.{◌≡◌, ◌++◌, map, drop}
use Rattle.std.specs.Option.{option_map}
use Rattle.chpw_commands.specs.Words.{counted_key, each_of}
use Rattle.chpw_commands.proofs.drill.words.counted_keys.Given as goal

abbrev pub invariant-loop-word : goal.invariant-loop-word
invariant-loop-word l =
    option_map (λ ys. l.keys.items ++ ys) (each_of counted_key (map (λ w. w.now) (drop l.word-index l.words)))
    ≡ each_of counted_key (map (λ w. w.now) l.words)
