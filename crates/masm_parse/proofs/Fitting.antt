-- Each local that is named in what the parser holds is one of its procedure's.
use Rattle.masm_parse.proofs.Words.{◌≡◌, ℕ, Bool, true, false, cond, List, [], ◌∷◌, ◌++◌, Option, Some, None, Result, Ok, Err, refl, sym, ap, subst}
use Rattle.masm_parse.proofs.Words.{option_map, AllByRecursion, Const, Token, Cursor, place_after, text_of, Cause, Header, Role, Symbol, Terminal, Context}
use Rattle.masm_parse.proofs.Words.{known_after, may_begin, Body, Empty, Leaf_then, If_then, While_then, Repeat_then, Procedure, Source, append, ParseError}
use Rattle.masm_parse.proofs.Words.{Bad, OpenStatement, In_if, In_else, In_while, In_repeat, Configuration, Top, Inside, Behind, Parse, start, reduce, closed}
use Rattle.masm_parse.proofs.Words.{procedure, shift, settled, moved, at_of, step, ended, parse_from, parsed}
use Rattle.masm_tree.specs.declared.terminal.Role.TheVariants as roles
use Rattle.masm_tree.specs.declared.terminal.Terminal.TheVariants as terminals
use Rattle.masm_tree.specs.Locals.{HasLocals, ProcedureFits, SourceFits}
use Rattle.masm_tree.proofs.TerminalLocals.{TerminalFits, SymbolFits, fits-symbol}

fits-append : (locals : ℕ) (b c : Body) → HasLocals locals b → HasLocals locals c → HasLocals locals (append b c)
fits-append locals Empty c h k = k
fits-append locals (Leaf_then at leaf rest) c h k = (h.0, fits-append locals rest c h.1 k)
fits-append locals (If_then at first second rest) c h k = (h.0, h.1, fits-append locals rest c h.2 k)
fits-append locals (While_then at body rest) c h k = (h.0, fits-append locals rest c h.1 k)
fits-append locals (Repeat_then at times body rest) c h k = (h.0, fits-append locals rest c h.1 k)

abbrev pub OpenFits : ℕ → OpenStatement → Type 0
OpenFits locals (In_if at before) = HasLocals locals before
OpenFits locals (In_else at before first) = HasLocals locals before × HasLocals locals first
OpenFits locals (In_while at before) = HasLocals locals before
OpenFits locals (In_repeat at times before) = HasLocals locals before

fits-reduce : (locals : ℕ) (o : OpenStatement) (b : Body) → OpenFits locals o → HasLocals locals b → HasLocals locals (reduce o b)
fits-reduce locals (In_if at before) b h k = fits-append locals before (If_then at b Empty Empty) h (k, tt, tt)
fits-reduce locals (In_else at before first) b h k = fits-append locals before (If_then at first b Empty) h.0 (h.1, k, tt)
fits-reduce locals (In_while at before) b h k = fits-append locals before (While_then at b Empty) h (k, tt)
fits-reduce locals (In_repeat at times before) b h k = fits-append locals before (Repeat_then at times b Empty) h (k, tt)

-- what is held of a configuration, where the procedure that began last has so many locals
abbrev pub ConfigurationFits : ℕ → Configuration → Type 0
ConfigurationFits locals (Top procs) = AllByRecursion ProcedureFits procs
ConfigurationFits locals (Inside procs header opens body) =
    AllByRecursion ProcedureFits procs × (header.locals ≡ locals) × AllByRecursion (OpenFits locals) opens × HasLocals locals body
ConfigurationFits locals (Behind procs main) = AllByRecursion ProcedureFits procs × ProcedureFits main

fits-snoc : (procs : List Procedure) (p : Procedure) → AllByRecursion ProcedureFits procs → ProcedureFits p
    → AllByRecursion ProcedureFits (procs ++ p ∷ [])
fits-snoc [] p h k = (k, tt)
fits-snoc (q ∷ procs) p h k = (h.0, fits-snoc procs p h.1 k)

fits-closed : (locals : ℕ) (procs : List Procedure) (role : Role) (p : Procedure) → AllByRecursion ProcedureFits procs
    → ProcedureFits p → ConfigurationFits locals (closed procs role p)
fits-closed locals procs roles.Proc p h k = fits-snoc procs p h k
fits-closed locals procs roles.Export p h k = fits-snoc procs p h k
fits-closed locals procs roles.Main p h k = (h, k)

abbrev pub ConfigurationFitsIf : ℕ → Option Configuration → Type 0
ConfigurationFitsIf locals None = Unit {0}
ConfigurationFitsIf locals (Some s) = ConfigurationFits locals s

fits-begun : (procs : List Procedure) (h : Header) (may : Bool) → AllByRecursion ProcedureFits procs
    → ConfigurationFitsIf h.locals (cond may (Some (Inside procs h [] Empty)) None)
fits-begun procs h true k = (k, refl, tt, tt)
fits-begun procs h false k = tt

abbrev pub locals_after : ℕ → Terminal → ℕ
locals_after locals (terminals.Header header) = header.locals
locals_after locals terminal = locals

fits-shift : (kernel : Bool) (locals : ℕ) (s : Configuration) (terminal : Terminal) → ConfigurationFits locals s
    → TerminalFits locals terminal → ConfigurationFitsIf (locals_after locals terminal) (shift kernel s terminal)
fits-shift kernel locals (Top procs) (terminals.Const c) h k = h
fits-shift kernel locals (Top procs) (terminals.Header header) h k = fits-begun procs header (may_begin kernel header.role) h
fits-shift kernel locals (Inside procs header opens body) (terminals.Leaf at leaf) h k =
    (h.0, h.1, h.2, fits-append locals body (Leaf_then at leaf Empty) h.3 (k, tt))
fits-shift kernel locals (Inside procs header opens body) (terminals.If at) h k = (h.0, h.1, (h.3, h.2), tt)
fits-shift kernel locals (Inside procs header opens body) (terminals.While at) h k = (h.0, h.1, (h.3, h.2), tt)
fits-shift kernel locals (Inside procs header opens body) (terminals.Repeat at times) h k = (h.0, h.1, (h.3, h.2), tt)
fits-shift kernel locals (Inside procs header (In_if at before ∷ opens) body) terminals.Else h k = (h.0, h.1, ((h.2.0, h.3), h.2.1), tt)
fits-shift kernel locals (Inside procs header [] body) terminals.End h k =
    fits-closed locals procs header.role (procedure header body) h.0 (subst (λ n. HasLocals n body) (sym h.1) h.3)
fits-shift kernel locals (Inside procs header (o ∷ opens) body) terminals.End h k = (h.0, h.1, h.2.1, fits-reduce locals o body h.2.0 h.3)
fits-shift kernel locals s terminal h k = tt

-- what is held of a reader
abbrev pub ParseFits : Parse → Type 0
ParseFits r = ConfigurationFits r.context.locals r.configuration

abbrev pub ParseFitsOption : Option Parse → Type 0
ParseFitsOption None = Unit {0}
ParseFitsOption (Some r) = ParseFits r

abbrev pub ParseFitsIf : Result Parse Cause → Type 0
ParseFitsIf (Ok r) = ParseFits r
ParseFitsIf (Err cause) = Unit {0}

-- known_after keeps the count of locals, but at a header
known-locals : (context : Context) (terminal : Terminal) → (known_after context terminal).locals ≡ locals_after context.locals terminal
known-locals context (terminals.Header header) = refl
known-locals context (terminals.Const c) = refl
known-locals context terminal = refl

fits-advanced : (kernel : Bool) (r : Parse) (terminal : Terminal) (s : Option Configuration)
    → ConfigurationFitsIf (locals_after r.context.locals terminal) s
    → ParseFitsOption (option_map (λ s. record { context = known_after r.context terminal; configuration = s }) s)
fits-advanced kernel r terminal None h = tt
fits-advanced kernel r terminal (Some s) h = subst (λ n. ConfigurationFits n s) (sym (known-locals r.context terminal)) h

fits-settled : (fault : Option Cause) (deep : Bool) (now : Option Parse) → (fault ≡ None → ParseFitsOption now) → ParseFitsIf (settled fault deep now)
fits-settled None deep None h = tt
fits-settled None true (Some now) h = tt
fits-settled None false (Some now) h = h refl
fits-settled (Some cause) deep None h = tt
fits-settled (Some cause) deep (Some now) h = tt

fits-moved : (kernel : Bool) (r : Parse) (symbol : Symbol) → ParseFits r → SymbolFits r.context.locals symbol → ParseFitsIf (moved kernel r symbol)
unfolding moved
fits-moved kernel r symbol h k =
    fits-settled symbol.fault _ _ (λ fine. fits-advanced kernel r symbol.terminal (shift kernel r.configuration symbol.terminal)
    (fits-shift kernel r.context.locals r.configuration symbol.terminal h (k fine)))

fits-step : (kernel : Bool) (source : List ℕ) (r : Parse) (token : Token) → ParseFits r → ParseFitsIf (step kernel source r token)
unfolding step
fits-step kernel source r token h = fits-moved kernel r _ h (fits-symbol kernel r.context (at_of token) (text_of source token))

value_or : Source → Result Source ParseError → Source
value_or other (Ok source) = source
value_or other (Err e) = other

pub same_tree : (a b : Source) → ◌≡◌ {A = Result Source ParseError} (Ok a) (Ok b) → a ≡ b
unfolding value_or
same_tree a b e = ap (value_or a) e

fits-ended : (kernel : Bool) (locals : ℕ) (configuration : Configuration) (end : Cursor) (consts : List Const) (source : Source)
    → ConfigurationFits locals configuration → ended kernel end consts configuration ≡ Ok source → SourceFits source
fits-ended true locals (Top procs) end consts source h e = subst SourceFits (same_tree _ source e) (record { procs = h; main = tt })
fits-ended false locals (Behind procs main) end consts source h e = subst SourceFits (same_tree _ source e) (record { procs = h.0; main = h.1 })
fits-ended true locals (Inside procs header opens body) end consts source h e = cc
fits-ended true locals (Behind procs main) end consts source h e = cc
fits-ended false locals (Top procs) end consts source h e = cc
fits-ended false locals (Inside procs header opens body) end consts source h e = cc

-- the reading of the other tokens, behind a step
fits-later : (s : Result Parse Cause) (token : Token) (rest : Parse → Result Source ParseError) (source : Source) → ParseFitsIf s
    → ((now : Parse) → ParseFits now → rest now ≡ Ok source → SourceFits source)
    → elim s as (λ _. Result Source ParseError) [ Ok now ↦ rest now | Err cause ↦ Err (Bad token.line token.column cause) ]
    ≡ Ok source → SourceFits source
fits-later (Ok now) token rest source k h e = h now k e
fits-later (Err cause) token rest source k h e = cc

fits-parsed : (kernel : Bool) (text : List ℕ) (r : Parse) (tokens : List Token) (source : Source) → ParseFits r
    → parse_from kernel text r tokens ≡ Ok source → SourceFits source
fits-parsed kernel text r [] source h is = fits-ended kernel r.context.locals r.configuration (place_after text) r.context.consts source h is
fits-parsed kernel text r (token ∷ tokens) source h is =
    fits-later (step kernel text r token) token (λ now. parse_from kernel text now tokens) source (fits-step kernel text r token h)
    (λ now k e. fits-parsed kernel text now tokens source k e) is

pub locals-fit : (kernel : Bool) (text : List ℕ) (tokens : List Token) (source : Source) → parsed kernel text tokens ≡ Ok source → SourceFits source
unfolding parsed
locals-fit kernel text tokens source is = fits-parsed kernel text start tokens source tt is
