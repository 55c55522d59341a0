-- What is found of a source decides how the steps of `why` go on.
use Rattle.std.proofs.Common.{◌≡◌, ◌≢◌, ℕ, List, codes, length, Option, Some, None, option_map, Ok, Err, is_some, refl}
use Rattle.vm_field.specs.Limits.{number_of_constants}
use Rattle.block_tree.specs.declared.program.Program.{Program}
use Rattle.masm_link.specs.Laws.{OneProgram}
use Rattle.masm_link.specs.declared.refusal.AsmError.TheVariants.{Bad, Memory}
use Rattle.std_u64.specs.Libraries.{u64_library}
use Rattle.vm_io.specs.Shelf.{ShelfState}
use Rattle.cmd_kit.specs.Outcomes.{EndsIn, EndsThere, Loads, SaysStatus}
use Rattle.cmd_kit.specs.SourceEnds.{AssemblesFiles, name_of_place}
use Rattle.cmd_kit.specs.Starts.{kernel_steps, source_steps}
use Rattle.cmd_kit.specs.Steps.{SourceFile, SourceRefusal, Steps, asking, refusal, stop}
use Rattle.cmd_kit.specs.declared.outcome.Outcome.{Outcome}
use Rattle.cmd_kit.specs.declared.status.Status.TheVariants as status
use Rattle.cmd_kit.proofs.ServingLemmas.{goes_past_finding, says_comes, work_ends}
use Rattle.show_why.specs.RefusalLaws.{RefusalsKnowNoConstants}
use Rattle.show_why.specs.WhySteps.{refused_text, text_of_place, told, why_steps}

module _ (constants : List ℕ) (source : SourceFile) (kernel : Option SourceFile) (o : Outcome) (many : length constants ≡ number_of_constants)
    (moved : RefusalsKnowNoConstants) where
  abbrev texts : Option (List ℕ)
  texts = option_map (λ k. k.text) kernel

  abbrev Ended : ShelfState → Type 0
  Ended s = EndsIn (Some (asking (refusal source kernel) (told source kernel))) o s s

  -- a source that is assembled is refused under no constants
  pub assembled_ends : OneProgram → (program : Program) → AssemblesFiles constants source kernel (Ok program)
      → SaysStatus o status.Ok (codes "assembled\n") → (s : ShelfState) → Ended s
  assembled_ends one program is says s =
      goes_past_finding (refusal source kernel) (told source kernel) None s
      (λ others few e some wrong.
      some (one constants u64_library source.text texts program (Err e) is
      (moved others constants u64_library source.text texts e few many some wrong)))
      o s (work_ends (stop status.Ok (codes "assembled\n")) o s (says_comes status.Ok (codes "assembled\n") o refl says))

  bad_is_some : (r : SourceRefusal) → Bad r.in_kernel r.line r.column r.cause ≢ Memory
  bad_is_some r e = cc

  -- one that is refused is refused so under all constants
  pub refused_ends : (r : SourceRefusal) → AssemblesFiles constants source kernel (Err (Bad r.in_kernel r.line r.column r.cause))
      → SaysStatus o status.Source
      (refused_text (name_of_place r.in_kernel source kernel) (text_of_place r.in_kernel source kernel) (is_some kernel) r)
      → (s : ShelfState) → Ended s
  refused_ends r is says s =
      let line = refused_text (name_of_place r.in_kernel source kernel) (text_of_place r.in_kernel source kernel) (is_some kernel) r in
      goes_past_finding (refusal source kernel) (told source kernel) (Some r) s
      (λ others few. moved constants others u64_library source.text texts _ many few (bad_is_some r) is)
      o s (work_ends (stop status.Source line) o s (says_comes status.Source line o refl says))

-- the files of `why`, read one after another
module _ (source : List ℕ) (name : Option (List ℕ)) (text : SourceFile) (old mid new : ShelfState) (o : Outcome)
    (loads : Loads (source_steps source) text old mid) where
  abbrev asked_of : SourceFile → Option SourceFile → Steps
  asked_of file k = asking (refusal file k) (told file k)

  pub ends_at_kernel : EndsThere (kernel_steps name) o mid new → EndsIn (Some (why_steps source name)) o old new
  ends_at_kernel ends = loads (λ file. kernel_steps name (asked_of file)) o new (ends (asked_of text))

  pub ends_told : (kernel : Option SourceFile) → Loads (kernel_steps name) kernel mid new → EndsIn (Some (asked_of text kernel)) o new new
      → EndsIn (Some (why_steps source name)) o old new
  ends_told kernel found ends = loads (λ file. kernel_steps name (asked_of file)) o new (found (asked_of text) o new ends)
