-- The first parts of tokens that the grammar knows.
use Rattle.std.specs.Prelude.{ℕ, ◌+◌, ◌*◌, ◌%◌, Bool, true, false, if◌then◌else◌, List, [], ◌∷◌, length, slice_index, Option, Some, None, bytes_eq, codes}
use Rattle.masm_tree.specs.declared.keyword.Keyword.{Keyword}
use Rattle.masm_tree.specs.declared.keyword.Keyword.TheVariants as keywords

abbrev pub text_of_keyword : Keyword → List ℕ
text_of_keyword keywords.Const = codes "const"
text_of_keyword keywords.Proc = codes "proc"
text_of_keyword keywords.Export = codes "export"
text_of_keyword keywords.Begin = codes "begin"
text_of_keyword keywords.If = codes "if"
text_of_keyword keywords.Else = codes "else"
text_of_keyword keywords.While = codes "while"
text_of_keyword keywords.Repeat = codes "repeat"
text_of_keyword keywords.Exec = codes "exec"
text_of_keyword keywords.Call = codes "call"
text_of_keyword keywords.Syscall = codes "syscall"
text_of_keyword keywords.ProcRef = codes "procref"
text_of_keyword keywords.DynExec = codes "dynexec"
text_of_keyword keywords.End = codes "end"

-- every keyword
unfoldable pub every_keyword : List Keyword
every_keyword =
    keywords.Const ∷ keywords.Proc ∷ keywords.Export ∷ keywords.Begin ∷ keywords.If ∷ keywords.Else ∷ keywords.While
    ∷ keywords.Repeat ∷ keywords.Exec ∷ keywords.Call ∷ keywords.Syscall ∷ keywords.ProcRef
    ∷ keywords.DynExec ∷ keywords.End ∷ []

-- the first of these keywords that has the text
abbrev pub first_keyword : List Keyword → List ℕ → Option Keyword
first_keyword [] text = None
first_keyword (keyword ∷ more) text =
    if bytes_eq (text_of_keyword keyword) text then Some keyword else first_keyword more text

-- the keyword that has the text
unfoldable pub keyword_of : List ℕ → Option Keyword
keyword_of text = first_keyword every_keyword text

-- How the keyword of a text is looked up: by a number below 32 that no two keywords share.
unfoldable pub slot : List ℕ → ℕ
slot text = (slice_index text 0 + slice_index text 1 + 4 * (length text % 32)) % 32

-- whether no kernel may have it
abbrev pub is_kept_from_kernels : Keyword → Bool
is_kept_from_kernels keywords.Const = false
is_kept_from_kernels keywords.Proc = false
is_kept_from_kernels keywords.Export = false
is_kept_from_kernels keywords.Begin = true
is_kept_from_kernels keywords.If = false
is_kept_from_kernels keywords.Else = false
is_kept_from_kernels keywords.While = false
is_kept_from_kernels keywords.Repeat = false
is_kept_from_kernels keywords.Exec = false
is_kept_from_kernels keywords.Call = true
is_kept_from_kernels keywords.Syscall = true
is_kept_from_kernels keywords.ProcRef = true
is_kept_from_kernels keywords.DynExec = true
is_kept_from_kernels keywords.End = false
