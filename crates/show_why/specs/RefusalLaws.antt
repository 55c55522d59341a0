-- A refusal does not depend on the permutation's constants: where digests stand, only their count is seen.
use Rattle.std.specs.Prelude.{◌≡◌, ◌≢◌, ℕ, List, length, Option, Err}
use Rattle.vm_field.specs.Limits.{number_of_constants}
use Rattle.masm_link.specs.declared.refusal.AsmError.{AsmError}
use Rattle.masm_link.specs.declared.refusal.AsmError.TheVariants.{Memory}
use Rattle.masm_link.specs.Assembling.{Assembles}
use Rattle.masm_link.specs.Libraries.{LibraryProcedure}

abbrev pub RefusalsKnowNoConstants : Type 0
RefusalsKnowNoConstants =
    (constants others : List ℕ) (library : List LibraryProcedure) (text : List ℕ) (kernel : Option (List ℕ)) (refusal : AsmError)
    → length constants ≡ number_of_constants → length others ≡ number_of_constants → refusal ≢ Memory
    → Assembles constants library text kernel (Err refusal) → Assembles others library text kernel (Err refusal)
