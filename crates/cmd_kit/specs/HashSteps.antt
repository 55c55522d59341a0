-- The steps of `hash`.
use Rattle.std.specs.Prelude.{ℕ, List}
use Rattle.number_files.specs.Grammar.{numbers_of}
use Rattle.cmd_kit.specs.HashEnds.{hash_end}
use Rattle.cmd_kit.specs.Starts.{params_steps}
use Rattle.cmd_kit.specs.Steps.{Steps, reading, ending}

-- the longest file of numbers
abbrev pub most_numbers_bytes : ℕ
most_numbers_bytes = 262144

abbrev pub numbers_steps : List ℕ → List ℕ → Steps
numbers_steps name constants = reading name most_numbers_bytes (λ bytes. ending (hash_end constants name (numbers_of bytes)))

abbrev pub hash_steps : List ℕ → List ℕ → Steps
hash_steps params numbers = params_steps params (numbers_steps numbers)
