-- The parser as a machine that reads one token at a time.
use Rattle.std.specs.Prelude.{ℕ, Bool, true, false, ◌&&◌, nat_le, if◌then◌else◌, List, [], ◌∷◌, ◌++◌, length, Option, Some, None, Result, Ok, Err}
use Rattle.std.specs.Option.{option_map}
use Rattle.masm_reading.specs.declared.constant.Const.{Const}
use Rattle.masm_lex.specs.declared.cursor.Cursor.{Cursor}
use Rattle.masm_lex.specs.declared.list.Token.{Token}
use Rattle.masm_lex.specs.Tokens.{place_after, text_of}
use Rattle.masm_tree.specs.declared.refusal.Cause.{Cause}
use Rattle.masm_tree.specs.declared.refusal.Cause.TheVariants as causes
use Rattle.masm_parse.specs.declared.refusal.ParseError.{ParseError}
use Rattle.masm_parse.specs.declared.refusal.ParseError.TheVariants.{Bad}
use Rattle.masm_tree.specs.declared.tree.Position.{Position}
use Rattle.masm_tree.specs.declared.terminal.Role.{Role}
use Rattle.masm_tree.specs.declared.terminal.Role.TheVariants as roles
use Rattle.masm_tree.specs.declared.terminal.Header.{Header}
use Rattle.masm_tree.specs.declared.terminal.Terminal.{Terminal}
use Rattle.masm_tree.specs.declared.terminal.Terminal.TheVariants as terminals
use Rattle.masm_tree.specs.declared.terminal.Symbol.{Symbol}
use Rattle.masm_tree.specs.Causes.{is_early}
use Rattle.masm_tree.specs.Classify.{Context, no_context, known_after, classify}
use Rattle.masm_tree.specs.Terminals.{may_begin, is_opening}
use Rattle.masm_tree.specs.Trees.{Body, Empty, Leaf_then, If_then, While_then, Repeat_then, Procedure, Source, append}

-- a statement that is open: the statements before it, and for an else its first body
pub data OpenStatement : Type 0 where
  In_if : (at : Position) (before : Body) → OpenStatement
  In_else : (at : Position) (before first : Body) → OpenStatement
  In_while : (at : Position) (before : Body) → OpenStatement
  In_repeat : (at : Position) (times : ℕ) (before : Body) → OpenStatement

-- What the machine holds: the procedures so far; the header of an open one, what is open in it, the innermost first, and
-- the statements of the innermost body; the body of begin where that has ended.
pub data Configuration : Type 0 where
  Top : (procs : List Procedure) → Configuration
  Inside : (procs : List Procedure) (header : Header) (opens : List OpenStatement) (body : Body) → Configuration
  Behind : (procs : List Procedure) (main : Procedure) → Configuration

abbrev pub is_export : Role → Bool
is_export roles.Proc = false
is_export roles.Export = true
is_export roles.Main = false

abbrev pub procedure : Header → Body → Procedure
procedure header body =
    record {
      name = header.name;
      locals = header.locals;
      exported = is_export header.role;
      body = body;
      line = header.at.line;
      column = header.at.column;
    }

-- the statements behind the end of what was open
abbrev pub reduce : OpenStatement → Body → Body
reduce (In_if at before) body = append before (If_then at body Empty Empty)
reduce (In_else at before first) body = append before (If_then at first body Empty)
reduce (In_while at before) body = append before (While_then at body Empty)
reduce (In_repeat at times before) body = append before (Repeat_then at times body Empty)

-- the configuration behind the end of a procedure, or of begin
abbrev pub closed : List Procedure → Role → Procedure → Configuration
closed procs roles.Proc done = Top (procs ++ done ∷ [])
closed procs roles.Export done = Top (procs ++ done ∷ [])
closed procs roles.Main done = Behind procs done

-- a token inside a procedure
abbrev pub shift_else : List Procedure → Header → List OpenStatement → Body → Option Configuration
shift_else procs header (In_if at before ∷ opens) body = Some (Inside procs header (In_else at before body ∷ opens) Empty)
shift_else procs header [] body = None
shift_else procs header (In_else at before first ∷ opens) body = None
shift_else procs header (In_while at before ∷ opens) body = None
shift_else procs header (In_repeat at times before ∷ opens) body = None

abbrev pub shift_end : List Procedure → Header → List OpenStatement → Body → Option Configuration
shift_end procs header [] body = Some (closed procs header.role (procedure header body))
shift_end procs header (o ∷ opens) body = Some (Inside procs header opens (reduce o body))

abbrev pub shift_inside : List Procedure → Header → List OpenStatement → Body → Terminal → Option Configuration
shift_inside procs header opens body (terminals.Const c) = None
shift_inside procs header opens body (terminals.Header other) = None
shift_inside procs header opens body (terminals.Leaf at leaf) = Some (Inside procs header opens (append body (Leaf_then at leaf Empty)))
shift_inside procs header opens body (terminals.If at) = Some (Inside procs header (In_if at body ∷ opens) Empty)
shift_inside procs header opens body terminals.Else = shift_else procs header opens body
shift_inside procs header opens body (terminals.While at) = Some (Inside procs header (In_while at body ∷ opens) Empty)
shift_inside procs header opens body (terminals.Repeat at times) = Some (Inside procs header (In_repeat at times body ∷ opens) Empty)
shift_inside procs header opens body terminals.End = shift_end procs header opens body

-- a token where no procedure is open
abbrev pub shift_top : Bool → List Procedure → Terminal → Option Configuration
shift_top kernel procs (terminals.Const c) = Some (Top procs)
shift_top kernel procs (terminals.Header header) = if may_begin kernel header.role then Some (Inside procs header [] Empty) else None
shift_top kernel procs (terminals.Leaf at leaf) = None
shift_top kernel procs (terminals.If at) = None
shift_top kernel procs terminals.Else = None
shift_top kernel procs (terminals.While at) = None
shift_top kernel procs (terminals.Repeat at times) = None
shift_top kernel procs terminals.End = None

-- the configuration behind a token, or none where the token does not fit
abbrev pub shift : Bool → Configuration → Terminal → Option Configuration
shift kernel (Top procs) terminal = shift_top kernel procs terminal
shift kernel (Inside procs header opens body) terminal = shift_inside procs header opens body terminal
shift kernel (Behind procs main) terminal = None

-- a token that is neither a constant nor a header
abbrev pub shift_statement : Configuration → Terminal → Option Configuration
shift_statement (Top procs) terminal = None
shift_statement (Inside procs header opens body) terminal = shift_inside procs header opens body terminal
shift_statement (Behind procs main) terminal = None

-- how many statements are open
abbrev pub depth_of : Configuration → ℕ
depth_of (Top procs) = 0
depth_of (Inside procs header opens body) = length opens
depth_of (Behind procs main) = 0

-- the machine's configuration with what is known of the next token
pub record Parse : Type 0 where
  pub context : Context
  pub configuration : Configuration

abbrev pub start : Parse
start = record { context = no_context; configuration = Top [] }

abbrev pub advance : Bool → Parse → Terminal → Option Parse
advance kernel r terminal =
    option_map (λ s. record { context = known_after r.context terminal; configuration = s }) (shift kernel r.configuration terminal)

-- The first cause that stands: that of the token by itself, Syntax where it does not fit, TooDeep where it stands too
-- deep.
abbrev pub settled : Option Cause → Bool → Option Parse → Result Parse Cause
settled None deep None = Err causes.Syntax
settled None deep (Some now) = if deep then Err causes.TooDeep else Ok now
settled (Some cause) deep None = Err (if is_early cause then cause else causes.Syntax)
settled (Some cause) deep (Some now) = Err cause

-- whether the token would be the 257th that is open
abbrev pub is_too_deep : Configuration → Terminal → Bool
is_too_deep configuration terminal = is_opening terminal && nat_le 256 (depth_of configuration)

unfoldable pub moved : Bool → Parse → Symbol → Result Parse Cause
moved kernel r symbol = settled symbol.fault (is_too_deep r.configuration symbol.terminal) (advance kernel r symbol.terminal)

abbrev pub at_of : Token → Position
at_of token = record { line = token.line; column = token.column }

unfoldable pub step : Bool → List ℕ → Parse → Token → Result Parse Cause
step kernel source r token = moved kernel r (classify kernel r.context (at_of token) (text_of source token))

-- the tree where the source may end here; else it ends early
abbrev pub ends_early : Cursor → Result Source ParseError
ends_early end = Err (Bad end.line end.column causes.Syntax)

abbrev pub ended : Bool → Cursor → List Const → Configuration → Result Source ParseError
ended true end consts (Top procs) = Ok (record { consts = consts; procs = procs; main = None })
ended false end consts (Behind procs main) = Ok (record { consts = consts; procs = procs; main = Some main })
ended kernel end consts (Inside procs header opens body) = ends_early end
ended false end consts (Top procs) = ends_early end
ended true end consts (Behind procs main) = ends_early end

abbrev pub parse_from : Bool → List ℕ → Parse → List Token → Result Source ParseError
parse_from kernel source r [] = ended kernel (place_after source) r.context.consts r.configuration
parse_from kernel source r (token ∷ tokens) =
    elim (step kernel source r token) [
      | Ok now ↦ parse_from kernel source now tokens
      | Err cause ↦ Err (Bad token.line token.column cause)
    ]

-- the tree of a source with these tokens, or its first refusal
unfoldable pub parsed : Bool → List ℕ → List Token → Result Source ParseError
parsed kernel source tokens = parse_from kernel source start tokens
