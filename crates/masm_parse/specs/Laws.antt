-- What each tree that the parser gives is.
use Rattle.std.specs.Prelude.{◌≡◌, ℕ, Bool, List, Ok}
use Rattle.masm_lex.specs.declared.list.Token.{Token}
use Rattle.masm_tree.specs.Forms.{SourceIsInForm}
use Rattle.masm_tree.specs.Locals.{SourceFits}
use Rattle.masm_tree.specs.Trees.{Source}
use Rattle.masm_parse.specs.Machine.{parsed}

-- each instruction is in form, and each procedure has at most 65,535 locals
abbrev pub TreesAreInForm : Type 0
TreesAreInForm =
    (kernel : Bool) (text : List ℕ) (tokens : List Token) (source : Source) → parsed kernel text tokens ≡ Ok source → SourceIsInForm source

-- each local that an instruction names is one of its procedure's
abbrev pub LocalsFit : Type 0
LocalsFit = (kernel : Bool) (text : List ℕ) (tokens : List Token) (source : Source) → parsed kernel text tokens ≡ Ok source → SourceFits source
