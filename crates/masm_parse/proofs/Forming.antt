-- What the parser holds is in form.
use Rattle.masm_parse.proofs.Words.{◌≡◌, ℕ, ◌≤◌, Bool, true, false, cond, List, [], ◌∷◌, ◌++◌, Option, Some, None, Result, Ok, Err, subst, option_map}
use Rattle.masm_parse.proofs.Words.{AllByRecursion, Const, Token, Cursor, place_after, text_of, Cause, Header, Role, Symbol, Terminal, known_after, may_begin}
use Rattle.masm_parse.proofs.Words.{Body, Empty, Leaf_then, If_then, While_then, Repeat_then, Procedure, Source, append, ParseError, Bad, OpenStatement}
use Rattle.masm_parse.proofs.Words.{In_if, In_else, In_while, In_repeat, Configuration, Top, Inside, Behind, Parse, start, reduce, closed, procedure, shift}
use Rattle.masm_parse.proofs.Words.{settled, moved, at_of, step, ended, parse_from, parsed}
use Rattle.masm_tree.specs.declared.terminal.Role.TheVariants as roles
use Rattle.masm_tree.specs.declared.terminal.Terminal.TheVariants as terminals
use Rattle.masm_tree.specs.Forms.{BodyIsInForm, ProcedureIsInForm, SourceIsInForm}
use Rattle.masm_tree.proofs.TerminalForms.{TerminalIsInForm, form-classified}
use Rattle.masm_parse.specs.Laws.{TreesAreInForm}
use Rattle.masm_parse.proofs.Fitting.{same_tree}

form-append : (b c : Body) → BodyIsInForm b → BodyIsInForm c → BodyIsInForm (append b c)
form-append Empty c h k = k
form-append (Leaf_then at leaf rest) c h k = (h.0, form-append rest c h.1 k)
form-append (If_then at first second rest) c h k = (h.0, h.1, form-append rest c h.2 k)
form-append (While_then at body rest) c h k = (h.0, form-append rest c h.1 k)
form-append (Repeat_then at times body rest) c h k = (h.0, form-append rest c h.1 k)

abbrev OpenIsInForm : OpenStatement → Type 0
OpenIsInForm (In_if at before) = BodyIsInForm before
OpenIsInForm (In_else at before first) = BodyIsInForm before × BodyIsInForm first
OpenIsInForm (In_while at before) = BodyIsInForm before
OpenIsInForm (In_repeat at times before) = BodyIsInForm before

form-reduce : (o : OpenStatement) (b : Body) → OpenIsInForm o → BodyIsInForm b → BodyIsInForm (reduce o b)
form-reduce (In_if at before) b h k = form-append before (If_then at b Empty Empty) h (k, tt, tt)
form-reduce (In_else at before first) b h k = form-append before (If_then at first b Empty) h.0 (h.1, k, tt)
form-reduce (In_while at before) b h k = form-append before (While_then at b Empty) h (k, tt)
form-reduce (In_repeat at times before) b h k = form-append before (Repeat_then at times b Empty) h (k, tt)

-- what is held of a configuration
abbrev ConfigurationIsInForm : Configuration → Type 0
ConfigurationIsInForm (Top procs) = AllByRecursion ProcedureIsInForm procs
ConfigurationIsInForm (Inside procs header opens body) =
    AllByRecursion ProcedureIsInForm procs × (header.locals ≤ 65535) × AllByRecursion OpenIsInForm opens × BodyIsInForm body
ConfigurationIsInForm (Behind procs main) = AllByRecursion ProcedureIsInForm procs × ProcedureIsInForm main

form-snoc : (procs : List Procedure) (p : Procedure) → AllByRecursion ProcedureIsInForm procs → ProcedureIsInForm p
    → AllByRecursion ProcedureIsInForm (procs ++ p ∷ [])
form-snoc [] p h k = (k, tt)
form-snoc (q ∷ procs) p h k = (h.0, form-snoc procs p h.1 k)

form-closed : (procs : List Procedure) (role : Role) (p : Procedure) → AllByRecursion ProcedureIsInForm procs → ProcedureIsInForm p
    → ConfigurationIsInForm (closed procs role p)
form-closed procs roles.Proc p h k = form-snoc procs p h k
form-closed procs roles.Export p h k = form-snoc procs p h k
form-closed procs roles.Main p h k = (h, k)

abbrev ConfigurationIsInFormIf : Option Configuration → Type 0
ConfigurationIsInFormIf None = Unit {0}
ConfigurationIsInFormIf (Some s) = ConfigurationIsInForm s

form-begun : (procs : List Procedure) (h : Header) (may : Bool) → AllByRecursion ProcedureIsInForm procs → h.locals ≤ 65535
    → ConfigurationIsInFormIf (cond may (Some (Inside procs h [] Empty)) None)
form-begun procs h true k few = (k, few, tt, tt)
form-begun procs h false k few = tt

form-shift : (kernel : Bool) (s : Configuration) (terminal : Terminal) → ConfigurationIsInForm s → TerminalIsInForm terminal
    → ConfigurationIsInFormIf (shift kernel s terminal)
form-shift kernel (Top procs) (terminals.Const c) h k = h
form-shift kernel (Top procs) (terminals.Header header) h k = form-begun procs header (may_begin kernel header.role) h k
form-shift kernel (Inside procs header opens body) (terminals.Leaf at leaf) h k =
    (h.0, h.1, h.2, form-append body (Leaf_then at leaf Empty) h.3 (k, tt))
form-shift kernel (Inside procs header opens body) (terminals.If at) h k = (h.0, h.1, (h.3, h.2), tt)
form-shift kernel (Inside procs header opens body) (terminals.While at) h k = (h.0, h.1, (h.3, h.2), tt)
form-shift kernel (Inside procs header opens body) (terminals.Repeat at times) h k = (h.0, h.1, (h.3, h.2), tt)
form-shift kernel (Inside procs header (In_if at before ∷ opens) body) terminals.Else h k = (h.0, h.1, ((h.2.0, h.3), h.2.1), tt)
form-shift kernel (Inside procs header [] body) terminals.End h k = form-closed procs header.role (procedure header body) h.0 (h.1, h.3)
form-shift kernel (Inside procs header (o ∷ opens) body) terminals.End h k = (h.0, h.1, h.2.1, form-reduce o body h.2.0 h.3)
form-shift kernel s terminal h k = tt

abbrev ParseIsInFormOption : Option Parse → Type 0
ParseIsInFormOption None = Unit {0}
ParseIsInFormOption (Some r) = ConfigurationIsInForm r.configuration

abbrev ParseIsInFormIf : Result Parse Cause → Type 0
ParseIsInFormIf (Ok r) = ConfigurationIsInForm r.configuration
ParseIsInFormIf (Err cause) = Unit {0}

form-advanced : (r : Parse) (terminal : Terminal) (s : Option Configuration) → ConfigurationIsInFormIf s
    → ParseIsInFormOption (option_map (λ s. record { context = known_after r.context terminal; configuration = s }) s)
form-advanced r terminal None h = tt
form-advanced r terminal (Some s) h = h

form-settled : (fault : Option Cause) (deep : Bool) (now : Option Parse) → ParseIsInFormOption now → ParseIsInFormIf (settled fault deep now)
form-settled None deep None h = tt
form-settled None true (Some now) h = tt
form-settled None false (Some now) h = h
form-settled (Some cause) deep None h = tt
form-settled (Some cause) deep (Some now) h = tt

form-moved : (kernel : Bool) (r : Parse) (symbol : Symbol) → ConfigurationIsInForm r.configuration
    → TerminalIsInForm symbol.terminal → ParseIsInFormIf (moved kernel r symbol)
unfolding moved
form-moved kernel r symbol h k =
    form-settled symbol.fault _ _ (form-advanced r symbol.terminal (shift kernel r.configuration symbol.terminal)
    (form-shift kernel r.configuration symbol.terminal h k))

form-step : (kernel : Bool) (source : List ℕ) (r : Parse) (token : Token) → ConfigurationIsInForm r.configuration
    → ParseIsInFormIf (step kernel source r token)
unfolding step
form-step kernel source r token h = form-moved kernel r _ h (form-classified kernel r.context (at_of token) (text_of source token))

form-ended : (kernel : Bool) (configuration : Configuration) (end : Cursor) (consts : List Const) (source : Source)
    → ConfigurationIsInForm configuration → ended kernel end consts configuration ≡ Ok source → SourceIsInForm source
form-ended true (Top procs) end consts source h e = subst SourceIsInForm (same_tree _ source e) (record { procs = h; main = tt })
form-ended false (Behind procs main) end consts source h e = subst SourceIsInForm (same_tree _ source e) (record { procs = h.0; main = h.1 })
form-ended true (Inside procs header opens body) end consts source h e = cc
form-ended true (Behind procs main) end consts source h e = cc
form-ended false (Top procs) end consts source h e = cc
form-ended false (Inside procs header opens body) end consts source h e = cc

form-later : (s : Result Parse Cause) (token : Token) (rest : Parse → Result Source ParseError) (source : Source) → ParseIsInFormIf s
    → ((now : Parse) → ConfigurationIsInForm now.configuration → rest now ≡ Ok source → SourceIsInForm source)
    → elim s as (λ _. Result Source ParseError) [ Ok now ↦ rest now | Err cause ↦ Err (Bad token.line token.column cause) ]
    ≡ Ok source → SourceIsInForm source
form-later (Ok now) token rest source k h e = h now k e
form-later (Err cause) token rest source k h e = cc

form-parsed : (kernel : Bool) (text : List ℕ) (r : Parse) (tokens : List Token) (source : Source)
    → ConfigurationIsInForm r.configuration → parse_from kernel text r tokens ≡ Ok source → SourceIsInForm source
form-parsed kernel text r [] source h is = form-ended kernel r.configuration (place_after text) r.context.consts source h is
form-parsed kernel text r (token ∷ tokens) source h is =
    form-later (step kernel text r token) token (λ now. parse_from kernel text now tokens) source (form-step kernel text r token h)
    (λ now k e. form-parsed kernel text now tokens source k e) is

pub trees_are_in_form : TreesAreInForm
unfolding parsed
trees_are_in_form kernel text tokens source is = form-parsed kernel text start tokens source tt is
