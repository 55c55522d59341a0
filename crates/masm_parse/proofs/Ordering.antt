-- Each tree is in the order of its source.
use Rattle.masm_parse.proofs.Words.{◌≡◌, ℕ, Bool, true, false, List, [], ◌∷◌, ◌++◌, map, Option, Some, None, Result, Ok, Err, IfOk, ap, sym, subst, ◌∙◌, inl}
use Rattle.masm_parse.proofs.Words.{inr, append_assoc, append-nil, map-append, AllByRecursion, option_map, Cursor, Token, place_after, text_of, lexed, Cause}
use Rattle.masm_parse.proofs.Words.{ParseError, Bad, Terminal, Symbol, Position, constants, const_positions, terminal_positions, Configuration, Top, Inside}
use Rattle.masm_parse.proofs.Words.{Behind, Parse, start, shift, settled, moved, at_of, step, ended, parse_from, parsed, Procedure, Source, position_of}
use Rattle.masm_parse.proofs.Words.{Context, known_after, classify}
use Rattle.answers.specs.Gives.{Gives}
use Rattle.masm_lex.specs.Order.{Ascends, Precedes}
use Rattle.masm_lex.proofs.Ascending.{tokens_ascend}
use Rattle.masm_tree.specs.declared.terminal.Terminal.TheVariants as terminals
use Rattle.masm_tree.specs.declared.tree.Ast.{Ast}
use Rattle.masm_parse.specs.Order.{StandsBefore, body_positions, procedure_positions, main_positions, IsInOrder, TreesAreInOrder, ProceduresAscend}
use Rattle.masm_tree.specs.Views.{source_of}
use Rattle.masm_parse.specs.Views.{refusal_in}
use Rattle.masm_parse.proofs.Fitting.{same_tree}
use Rattle.masm_parse.proofs.Positions.{procs_positions, configuration_positions, HasPositions, positions_shifted}
use Rattle.masm_tree.proofs.TerminalPositions.{AreAt, IsAt, at-symbol}

-- an element less
each_less : (P : Position → Type 0) (xs ys : List Position) (y : Position) → AllByRecursion P (xs ++ y ∷ ys) → AllByRecursion P (xs ++ ys)
each_less P [] ys y h = h.1
each_less P (x ∷ xs) ys y h = (h.0, each_less P xs ys y h.1)

ascends_less : (xs ys : List Position) (y : Position) → Ascends StandsBefore (xs ++ y ∷ ys) → Ascends StandsBefore (xs ++ ys)
ascends_less [] ys y h = h.1
ascends_less (x ∷ xs) ys y h = (each_less (StandsBefore x) xs ys y h.0, ascends_less xs ys y h.1)

-- the places so far, and what a token adds to them
goes_on : (xs ps ys : List Position) (at : Position) → AreAt at ps → Ascends StandsBefore (xs ++ at ∷ ys) → Ascends StandsBefore ((xs ++ ps) ++ ys)
goes_on xs ps ys at (inl none) h =
    subst (λ zs. Ascends StandsBefore (zs ++ ys)) (sym (ap (λ qs. xs ++ qs) none ∙ append-nil xs)) (ascends_less xs ys at h)
goes_on xs ps ys at (inr one) h =
    subst (Ascends StandsBefore) (sym (ap (λ qs. (xs ++ qs) ++ ys) one ∙ append_assoc xs (at ∷ []) ys)) h

abbrev pub positions_of : List Token → List Position
positions_of tokens = map at_of tokens

-- what the parser holds, and the tokens that are left
pub record Going (r : Parse) (tokens : List Token) : Type 0 where
  pub consts : Ascends StandsBefore (const_positions r.context.consts ++ positions_of tokens)
  pub procs : Ascends StandsBefore (configuration_positions r.configuration ++ positions_of tokens)

const_positions_after : (context : Context) (terminal : Terminal)
    → const_positions (known_after context terminal).consts ≡ const_positions context.consts ++ const_positions (constants (terminal ∷ []))
const_positions_after context (terminals.Const c) = map-append _ context.consts (c ∷ [])
const_positions_after context terminal = sym (append-nil (const_positions context.consts))

abbrev pub GoingOption : Option Parse → List Token → Type 0
GoingOption None tokens = Unit {0}
GoingOption (Some r) tokens = Going r tokens

abbrev pub GoingIf : Result Parse Cause → List Token → Type 0
GoingIf (Ok r) tokens = Going r tokens
GoingIf (Err cause) tokens = Unit {0}

advanced : (r : Parse) (token : Token) (tokens : List Token) (terminal : Terminal) (o : Option Configuration) → IsAt (at_of token) terminal
    → HasPositions o (configuration_positions r.configuration ++ terminal_positions terminal) → Going r (token ∷ tokens)
    → GoingOption (option_map (λ s. record { context = known_after r.context terminal; configuration = s }) o) tokens
advanced r token tokens terminal None at places h = tt
advanced r token tokens terminal (Some s) at places h = record {
  consts =
      subst (λ zs. Ascends StandsBefore (zs ++ positions_of tokens)) (sym (const_positions_after r.context terminal))
      (goes_on (const_positions r.context.consts) (const_positions (constants (terminal ∷ []))) (positions_of tokens) (at_of token)
      at.consts h.consts);
  procs =
      subst (λ zs. Ascends StandsBefore (zs ++ positions_of tokens)) (sym places)
      (goes_on (configuration_positions r.configuration) (terminal_positions terminal) (positions_of tokens) (at_of token) at.procs h.procs);
}

going_settled : (fault : Option Cause) (deep : Bool) (now : Option Parse) (tokens : List Token) → GoingOption now tokens
    → GoingIf (settled fault deep now) tokens
going_settled None deep None tokens h = tt
going_settled None true (Some now) tokens h = tt
going_settled None false (Some now) tokens h = h
going_settled (Some cause) deep None tokens h = tt
going_settled (Some cause) deep (Some now) tokens h = tt

going_moved : (kernel : Bool) (r : Parse) (token : Token) (tokens : List Token) (symbol : Symbol) → IsAt (at_of token) symbol.terminal
    → Going r (token ∷ tokens) → GoingIf (moved kernel r symbol) tokens
unfolding moved
going_moved kernel r token tokens symbol at h =
    going_settled symbol.fault _ _ tokens
    (advanced r token tokens symbol.terminal (shift kernel r.configuration symbol.terminal) at
    (positions_shifted kernel r.configuration symbol.terminal) h)

going_step : (kernel : Bool) (text : List ℕ) (r : Parse) (token : Token) (tokens : List Token) → Going r (token ∷ tokens)
    → GoingIf (step kernel text r token) tokens
unfolding step
going_step kernel text r token tokens h =
    going_moved kernel r token tokens (classify kernel r.context (at_of token) (text_of text token))
    (at-symbol kernel r.context (at_of token) (text_of text token)) h

ordered_end : (kernel : Bool) (context : Context) (configuration : Configuration) (end : Cursor) (source : Source)
    → Going (record { context = context; configuration = configuration }) []
    → ended kernel end context.consts configuration ≡ Ok source → IsInOrder source
ordered_end true context (Top procs) end source h e =
    subst IsInOrder (same_tree _ source e)
    (record { consts = subst (Ascends StandsBefore) (append-nil (const_positions context.consts)) h.consts; procs = h.procs })
ordered_end false context (Behind procs main) end source h e =
    subst IsInOrder (same_tree _ source e) (record {
      consts = subst (Ascends StandsBefore) (append-nil (const_positions context.consts)) h.consts;
      procs = subst (Ascends StandsBefore) (append-nil (procs_positions procs ++ procedure_positions main)) h.procs;
    })
ordered_end true context (Inside procs header opens body) end source h e = cc
ordered_end true context (Behind procs main) end source h e = cc
ordered_end false context (Top procs) end source h e = cc
ordered_end false context (Inside procs header opens body) end source h e = cc

-- the reading of the other tokens, behind a step
ordered_later : (s : Result Parse Cause) (token : Token) (tokens : List Token) (rest : Parse → Result Source ParseError) (source : Source)
    → GoingIf s tokens → ((now : Parse) → Going now tokens → rest now ≡ Ok source → IsInOrder source)
    → elim s as (λ _. Result Source ParseError) [ Ok now ↦ rest now | Err cause ↦ Err (Bad token.line token.column cause) ]
    ≡ Ok source → IsInOrder source
ordered_later (Ok now) token tokens rest source h k e = k now h e
ordered_later (Err cause) token tokens rest source h k e = cc

ordered : (kernel : Bool) (text : List ℕ) (r : Parse) (tokens : List Token) (source : Source) → Going r tokens
    → parse_from kernel text r tokens ≡ Ok source → IsInOrder source
ordered kernel text r [] source h e = ordered_end kernel r.context r.configuration (place_after text) source h e
ordered kernel text r (token ∷ tokens) source h e =
    ordered_later (step kernel text r token) token tokens (λ now. parse_from kernel text now tokens) source (going_step kernel text r token tokens h)
    (λ now k is. ordered kernel text now tokens source k is) e

-- the places of tokens ascend
each_position : (token : Token) (tokens : List Token) → AllByRecursion (Precedes token) tokens
    → AllByRecursion (StandsBefore (at_of token)) (positions_of tokens)
each_position token [] h = tt
each_position token (t ∷ tokens) h = (h.0.place, each_position token tokens h.1)

positions_ascend : (tokens : List Token) → Ascends Precedes tokens → Ascends StandsBefore (positions_of tokens)
positions_ascend [] h = tt
positions_ascend (token ∷ tokens) h = (each_position token tokens h.0, positions_ascend tokens h.1)

pub trees_are_in_order : TreesAreInOrder
unfolding parsed
trees_are_in_order kernel text tokens source read is =
    let ascend : Ascends StandsBefore (positions_of tokens) = positions_ascend tokens (tokens_ascend text tokens read) in
    ordered kernel text start tokens source (record { consts = ascend; procs = ascend }) is

pub given_in_order : (kernel : Bool) (text : List ℕ) (tokens : List Token) (answer : Result Ast ParseError) → lexed text ≡ Ok tokens
    → Gives source_of refusal_in answer (parsed kernel text tokens) → IfOk answer (λ ast. IsInOrder (source_of ast))
given_in_order kernel text tokens (Ok ast) read is = trees_are_in_order kernel text tokens (source_of ast) read is
given_in_order kernel text tokens (Err error) read is = tt

-- the places behind others
each_behind : (P : Position → Type 0) (xs ys : List Position) → AllByRecursion P (xs ++ ys) → AllByRecursion P ys
each_behind P [] ys h = h
each_behind P (x ∷ xs) ys h = each_behind P xs ys h.1

ascends_behind : (xs ys : List Position) → Ascends StandsBefore (xs ++ ys) → Ascends StandsBefore ys
ascends_behind [] ys h = h
ascends_behind (x ∷ xs) ys h = ascends_behind xs ys h.1

-- and those in front of others
each_before : (P : Position → Type 0) (xs ys : List Position) → AllByRecursion P (xs ++ ys) → AllByRecursion P xs
each_before P [] ys h = tt
each_before P (x ∷ xs) ys h = (h.0, each_before P xs ys h.1)

ascends_before : (xs ys : List Position) → Ascends StandsBefore (xs ++ ys) → Ascends StandsBefore xs
ascends_before [] ys h = tt
ascends_before (x ∷ xs) ys h = (each_before (StandsBefore x) xs ys h.0, ascends_before xs ys h.1)

-- the places of procedures without those of their statements
each_procedure : (P : Position → Type 0) (procs : List Procedure) → AllByRecursion P (procs_positions procs)
    → AllByRecursion P (map position_of procs)
each_procedure P [] h = tt
each_procedure P (p ∷ procs) h = (h.0, each_procedure P procs (each_behind P (body_positions p.body) (procs_positions procs) h.1))

procedures_ascend_in : (procs : List Procedure) → Ascends StandsBefore (procs_positions procs) → Ascends StandsBefore (map position_of procs)
procedures_ascend_in [] h = tt
procedures_ascend_in (p ∷ procs) h = (
  each_procedure (StandsBefore (position_of p)) procs (each_behind (StandsBefore (position_of p)) (body_positions p.body) (procs_positions procs) h.0),
  procedures_ascend_in procs (ascends_behind (body_positions p.body) (procs_positions procs) h.1),
)

pub procedures_ascend : ProceduresAscend
procedures_ascend source h =
    procedures_ascend_in source.procs (ascends_before (procs_positions source.procs) (main_positions source.main) h.procs)
