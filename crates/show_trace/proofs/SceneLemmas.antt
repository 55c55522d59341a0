-- The texts of what has a program are read, and a kernel's tree that is lent is the one that is held.
use Rattle.std.proofs.Common.{◌≡◌, ℕ, true, false, List, Option, Some, None, Ok, Bor, ap}
use Rattle.std.specs.Option.{IfSome, option_copied, option_map}
use Rattle.block_tree.specs.declared.program.Program.{Program}
use Rattle.masm_flat.specs.Lists.{Exported}
use Rattle.masm_link.specs.Assembling.{Assembles, KernelExports, assembled, no_kernel, of_kernel}
use Rattle.masm_link.specs.Libraries.{LibraryProcedure}
use Rattle.masm_places.specs.Texts.{texts_of}
use Rattle.masm_tree.specs.declared.tree.Ast.{Ast}
use Rattle.cmd_kit.specs.Sources.{file_of}
use Rattle.cmd_kit.specs.Steps.{SourceFile}
use Rattle.cmd_kit.specs.declared.source.SourceFile as held
use Rattle.show_trace.specs.Scenes.{IsRead, texts_held}
use Rattle.show_trace.specs.declared.scenes.Scenes.{Scenes}

kernel_is_read : (constants : List ℕ) (kernel : Option (List ℕ)) (exports : List Exported) → KernelExports constants kernel exports
    → IfSome kernel (IsRead true)
kernel_is_read constants _ _ no_kernel = tt
kernel_is_read constants _ _ (of_kernel text exports links) = (links.source, links.read)

pub both_are_read : (constants : List ℕ) (library : List LibraryProcedure) (text : List ℕ) (kernel : Option (List ℕ)) (program : Program)
    → Assembles constants library text kernel (Ok program) → IsRead false text × IfSome kernel (IsRead true)
both_are_read constants library text kernel program (assembled exports own block _ k links is) =
    ((links.source, links.read), kernel_is_read constants kernel exports k)

-- the kernel that the code holds is read
pub kernel_texts : (kernel : Option (Bor held.SourceFile))
    → IfSome (option_map (λ (k : SourceFile). k.text) (option_map (λ k. file_of k.now) kernel)) (IsRead true)
    → IfSome kernel (λ k. IsRead true k.now.text)
kernel_texts None h = tt
kernel_texts (Some k) h = h

pub lent_texts : (scenes : Scenes) (lent : Option (Bor Ast)) → option_copied lent ≡ scenes.kernel
    → texts_of scenes.program scenes.own lent ≡ texts_held scenes
lent_texts scenes None is = ap (λ (k : Option Ast). texts_held (record scenes { kernel = k })) is
lent_texts scenes (Some k) is = ap (λ (k : Option Ast). texts_held (record scenes { kernel = k })) is
