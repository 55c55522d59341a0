-- The syntax trees in which a program's instructions are looked up, told by the files of its source and of its kernel.
use Rattle.std.specs.Prelude.{◌≡◌, ℕ, Bool, true, false, List, [], length, Option, None, Result, Ok, Err, unwrap_or}
use Rattle.std.specs.Option.{option_map}
use Rattle.masm_link.specs.Assembling.{reads}
use Rattle.masm_link.specs.Libraries.{with_library}
use Rattle.masm_link.specs.declared.refusal.AsmError.{AsmError}
use Rattle.masm_places.specs.Texts.{Texts}
use Rattle.masm_tree.specs.Trees.{Source}
use Rattle.masm_tree.specs.Views.{source_of}
use Rattle.cmd_kit.specs.Steps.{SourceFile}
use Rattle.std_u64.specs.Libraries.{u64_library}
use Rattle.show_trace.specs.declared.scenes.Scenes.{Scenes}

-- what was read; of a text that is refused there is nothing
abbrev pub tree_read : Result Source AsmError → Source
tree_read (Ok source) = source
tree_read (Err refusal) = record { consts = []; procs = []; main = None }

-- The trees of a source and of a kernel. The library's procedures stand behind the source's own; a kernel has no library.
abbrev pub texts_read : Source → Option Source → Texts
texts_read source kernel = record {
  program = (with_library u64_library source).procs;
  own = length source.procs;
  main = source.main;
  kernel = unwrap_or (option_map (λ k. k.procs) kernel) [];
}

abbrev pub source_texts : SourceFile → Option SourceFile → Texts
source_texts source kernel = texts_read (tree_read (reads false source.text)) (option_map (λ k. tree_read (reads true k.text)) kernel)

-- a text reads as a tree
abbrev pub IsRead : Bool → List ℕ → Type 0
IsRead is_kernel text = (source : Source) × (reads is_kernel text ≡ Ok source)

-- the trees as the code holds them
abbrev pub texts_held : Scenes → Texts
texts_held scenes = record {
  program = (source_of scenes.program).procs;
  own = scenes.own;
  main = (source_of scenes.program).main;
  kernel = unwrap_or (option_map (λ ast. (source_of ast).procs) scenes.kernel) [];
}
