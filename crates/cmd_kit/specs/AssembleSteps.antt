-- The steps of `assemble`.
use Rattle.std.specs.Prelude.{ℕ, List, Option}
use Rattle.cmd_kit.specs.Starts.{params_steps, source_steps, kernel_steps}
use Rattle.cmd_kit.specs.Steps.{Steps, assembly, ending}

abbrev pub assemble_steps : List ℕ → List ℕ → Option (List ℕ) → Steps
assemble_steps params source kernel =
    params_steps params (λ constants. source_steps source (λ text. kernel_steps kernel (λ k. ending (assembly constants text k))))
