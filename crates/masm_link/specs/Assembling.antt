-- What the assembler answers for a source and a kernel, told by their bytes, with a library (docs/ASSEMBLY.md).
use Rattle.std.specs.Prelude.{◌≡◌, ℕ, Bool, true, false, List, [], ◌∷◌, ◌++◌, fold, map, Option, Some, None, Result, Ok, Err, bytes_eq, if◌then◌else◌}
use Rattle.std.specs.List.{list_any}
use Rattle.block_tree.specs.declared.exports.Export.{Export}
use Rattle.block_tree.specs.declared.program.Program.{Program}
use Rattle.block_tree.specs.Trees.{tree_digest}
use Rattle.block_tree.specs.TreeView.{tree_of}
use Rattle.masm_lex.specs.declared.list.Token.{Token}
use Rattle.masm_lex.specs.declared.refusal.LexError.{LexError}
use Rattle.masm_lex.specs.declared.refusal.LexError.TheVariants as lexing
use Rattle.masm_lex.specs.Tokens.{lexed}
use Rattle.masm_parse.specs.declared.refusal.ParseError.{ParseError}
use Rattle.masm_parse.specs.declared.refusal.ParseError.TheVariants as parsing
use Rattle.masm_tree.specs.declared.tree.Position.{Position}
use Rattle.masm_parse.specs.Machine.{parsed}
use Rattle.masm_tree.specs.Trees.{Source}
use Rattle.masm_flat.specs.Blocks.{Block, seen_as, as_tree}
use Rattle.masm_flat.specs.Lists.{Exported, Outside, outside_of}
use Rattle.masm_names.specs.declared.refusal.LinkCause.{LinkCause}
use Rattle.masm_names.specs.Least.{IsLeast}
use Rattle.masm_link.specs.declared.refusal.AsmCause.TheVariants.{Lexical}
use Rattle.masm_link.specs.declared.refusal.AsmError.{AsmError}
use Rattle.masm_link.specs.declared.refusal.AsmError.TheVariants.{Bad, Memory}
use Rattle.masm_link.specs.Causes.{parse_cause, link_cause}
use Rattle.masm_link.specs.Libraries.{LibraryProcedure, with_library}
use Rattle.masm_link.specs.Refusals.{RefusesAt, Links}

abbrev pub lex_refusal : Bool → LexError → AsmError
lex_refusal is_kernel (lexing.Bad line column) = Bad is_kernel line column Lexical
lex_refusal is_kernel lexing.Memory = Memory

abbrev pub parse_refusal : Bool → ParseError → AsmError
parse_refusal is_kernel (parsing.Bad line column cause) = Bad is_kernel line column (parse_cause cause)
parse_refusal is_kernel parsing.Memory = Memory

abbrev pub link_refusal : Bool → Position → LinkCause → AsmError
link_refusal is_kernel at cause = Bad is_kernel at.line at.column (link_cause cause)

abbrev pub read_parsed : Bool → Result Source ParseError → Result Source AsmError
read_parsed is_kernel (Ok source) = Ok source
read_parsed is_kernel (Err refusal) = Err (parse_refusal is_kernel refusal)

abbrev pub read_tokens : Bool → List ℕ → Result (List Token) LexError → Result Source AsmError
read_tokens is_kernel text (Ok tokens) = read_parsed is_kernel (parsed is_kernel text tokens)
read_tokens is_kernel text (Err refusal) = Err (lex_refusal is_kernel refusal)

-- the syntax tree of a source, a kernel's or a program's, or its first refusal by the rules of tokens and of the grammar
unfoldable pub reads : Bool → List ℕ → Result Source AsmError
reads is_kernel text = read_tokens is_kernel text (lexed text)

-- a source is refused: it is not read, or it is read and then refused, with the library's procedures behind its own
pub data Refuses (is_kernel : Bool) (library : List LibraryProcedure) (text : List ℕ) (out : Outside) : AsmError → Type 0 where
  unread : (refusal : AsmError) → reads is_kernel text ≡ Err refusal → Refuses is_kernel library text out refusal
  unlinked : (source : Source) (at : Position) (cause : LinkCause) → reads is_kernel text ≡ Ok source
      → IsLeast (RefusesAt (with_library library source) out) at cause → Refuses is_kernel library text out (link_refusal is_kernel at cause)

-- a source links, with the library's procedures behind its own, to the blocks of its exports and to that of the body between
-- begin and end
pub record LinksText (is_kernel : Bool) (library : List LibraryProcedure) (text : List ℕ) (out : Outside) (exports : List Exported)
    (main : Option Block) : Type 0 where
  pub source : Source
  pub read : reads is_kernel text ≡ Ok source
  pub links : Links (with_library library source) out exports main

-- what a kernel that is not refused exports; it has no library
pub data KernelExports (constants : List ℕ) : Option (List ℕ) → List Exported → Type 0 where
  no_kernel : KernelExports constants None []
  of_kernel : (text : List ℕ) (exports : List Exported) → LinksText true [] text (outside_of constants []) exports None
      → KernelExports constants (Some text) exports

-- words that came before are left out
abbrev pub add_word : List (List ℕ) → List ℕ → List (List ℕ)
add_word words word = if list_any (λ w. bytes_eq w word) words then words else words ++ word ∷ []

abbrev pub without_repeats : List (List ℕ) → List (List ℕ)
without_repeats words = fold add_word [] words

abbrev pub export_digest : List ℕ → Exported → List ℕ
export_digest constants e = tree_digest constants (seen_as as_tree e.block)

abbrev pub export_of : List ℕ → Exported → Export
export_of constants e = record { name = e.name; digest = export_digest constants e }

-- the program of a block, where a kernel exports these procedures
pub record IsProgram (constants : List ℕ) (procedures : List Exported) (block : Block) (program : Program) : Type 0 where
  pub tree : tree_of program.tree ≡ seen_as as_tree block
  pub exports : program.exports ≡ map (export_of constants) procedures
  pub kernel : program.kernel ≡ without_repeats (map (export_digest constants) procedures)

-- What is answered for a source with a library, and a kernel: the program, or the first refusal, that of the kernel first.
pub data Assembles (constants : List ℕ) (library : List LibraryProcedure) (text : List ℕ)
    : Option (List ℕ) → Result Program AsmError → Type 0 where
  assembled : {kernel : Option (List ℕ)} (exports own : List Exported) (block : Block) (program : Program) → KernelExports constants kernel exports
      → LinksText false library text (outside_of constants exports) own (Some block) → IsProgram constants exports block program
      → Assembles constants library text kernel (Ok program)
  kernel_refused : (kernel : List ℕ) (refusal : AsmError) → Refuses true [] kernel (outside_of constants []) refusal
      → Assembles constants library text (Some kernel) (Err refusal)
  refused : {kernel : Option (List ℕ)} (exports : List Exported) (refusal : AsmError) → KernelExports constants kernel exports
      → Refuses false library text (outside_of constants exports) refusal → Assembles constants library text kernel (Err refusal)
  no_memory : {kernel : Option (List ℕ)} → Assembles constants library text kernel (Err Memory)
