-- The places that what the parser holds has, and those that a token adds.
use Rattle.masm_parse.proofs.Words.{◌≡◌, Bool, true, false, cond, List, [], ◌∷◌, ◌++◌, Option, Some, None, refl, ap, sym, ◌∙◌, append_assoc, append-nil}
use Rattle.masm_parse.proofs.Words.{flat_map, Position, Role, Header, Terminal, Body, Empty, Leaf_then, If_then, While_then, Repeat_then, Procedure, append}
use Rattle.masm_parse.proofs.Words.{OpenStatement, In_if, In_else, In_while, In_repeat, Configuration, Top, Inside, Behind, procedure, reduce, closed, shift}
use Rattle.masm_parse.proofs.Words.{may_begin, terminal_positions}
use Rattle.masm_tree.specs.declared.terminal.Role.TheVariants as roles
use Rattle.masm_tree.specs.declared.terminal.Terminal.TheVariants as terminals
use Rattle.masm_parse.specs.Order.{body_positions, procedure_positions}

abbrev pub open_positions : OpenStatement → List Position
open_positions (In_if at before) = body_positions before ++ at ∷ []
open_positions (In_else at before first) = body_positions before ++ at ∷ body_positions first
open_positions (In_while at before) = body_positions before ++ at ∷ []
open_positions (In_repeat at times before) = body_positions before ++ at ∷ []

-- those of all open statements, of which the innermost is the first
abbrev pub opens_positions : List OpenStatement → List Position
opens_positions [] = []
opens_positions (o ∷ opens) = opens_positions opens ++ open_positions o

abbrev pub procs_positions : List Procedure → List Position
procs_positions procs = flat_map procedure_positions procs

abbrev pub configuration_positions : Configuration → List Position
configuration_positions (Top procs) = procs_positions procs
configuration_positions (Inside procs header opens body) = procs_positions procs ++ header.at ∷ (opens_positions opens ++ body_positions body)
configuration_positions (Behind procs main) = procs_positions procs ++ procedure_positions main

positions_append : (b c : Body) → body_positions (append b c) ≡ body_positions b ++ body_positions c
positions_append Empty c = refl
positions_append (Leaf_then at leaf rest) c = ap (λ ps. at ∷ ps) (positions_append rest c)
positions_append (If_then at first second rest) c =
    ap (λ ps. at ∷ (body_positions first ++ (body_positions second ++ ps))) (positions_append rest c)
    ∙ ap (λ ps. at ∷ ps) (sym (append_assoc (body_positions first) (body_positions second ++ body_positions rest) (body_positions c)
    ∙ ap (λ ps. body_positions first ++ ps) (append_assoc (body_positions second) (body_positions rest) (body_positions c))))
positions_append (While_then at body rest) c =
    ap (λ ps. at ∷ (body_positions body ++ ps)) (positions_append rest c)
    ∙ ap (λ ps. at ∷ ps) (sym (append_assoc (body_positions body) (body_positions rest) (body_positions c)))
positions_append (Repeat_then at times body rest) c =
    ap (λ ps. at ∷ (body_positions body ++ ps)) (positions_append rest c)
    ∙ ap (λ ps. at ∷ ps) (sym (append_assoc (body_positions body) (body_positions rest) (body_positions c)))

positions_reduced : (o : OpenStatement) (b : Body) → body_positions (reduce o b) ≡ open_positions o ++ body_positions b
positions_reduced (In_if at before) b = positions_append before (If_then at b Empty Empty) ∙ simp (append_assoc, append-nil)
positions_reduced (In_else at before first) b = positions_append before (If_then at first b Empty) ∙ simp (append_assoc, append-nil)
positions_reduced (In_while at before) b = positions_append before (While_then at b Empty) ∙ simp (append_assoc, append-nil)
positions_reduced (In_repeat at times before) b = positions_append before (Repeat_then at times b Empty) ∙ simp (append_assoc, append-nil)

procs_positions_push : (procs : List Procedure) (p : Procedure) → procs_positions (procs ++ p ∷ []) ≡ procs_positions procs ++ procedure_positions p
procs_positions_push [] p = append-nil (procedure_positions p)
procs_positions_push (q ∷ procs) p =
    ap (λ ps. procedure_positions q ++ ps) (procs_positions_push procs p)
    ∙ sym (append_assoc (procedure_positions q) (procs_positions procs) (procedure_positions p))

abbrev pub HasPositions : Option Configuration → List Position → Type 0
HasPositions None ps = Unit {0}
HasPositions (Some s) ps = configuration_positions s ≡ ps

positions_closed : (procs : List Procedure) (role : Role) (p : Procedure)
    → configuration_positions (closed procs role p) ≡ procs_positions procs ++ procedure_positions p
positions_closed procs roles.Proc p = procs_positions_push procs p
positions_closed procs roles.Export p = procs_positions_push procs p
positions_closed procs roles.Main p = refl

places_begun : (procs : List Procedure) (header : Header) (may : Bool)
    → HasPositions (cond may (Some (Inside procs header [] Empty)) None) (procs_positions procs ++ header.at ∷ [])
places_begun procs header true = refl
places_begun procs header false = tt

-- what a body that goes on, in a procedure, does to the places
longer : (f o b more : List Position) (at : Position) → f ++ at ∷ (o ++ (b ++ more)) ≡ (f ++ at ∷ (o ++ b)) ++ more
longer f o b more at = simp append_assoc

-- each shift adds the token's place
pub positions_shifted : (kernel : Bool) (s : Configuration) (t : Terminal)
    → HasPositions (shift kernel s t) (configuration_positions s ++ terminal_positions t)
positions_shifted kernel (Top procs) (terminals.Const c) = sym (append-nil (procs_positions procs))
positions_shifted kernel (Top procs) (terminals.Header header) = places_begun procs header (may_begin kernel header.role)
positions_shifted kernel (Inside procs header opens body) (terminals.Leaf at leaf) =
    ap (λ ps. procs_positions procs ++ header.at ∷ (opens_positions opens ++ ps)) (positions_append body (Leaf_then at leaf Empty))
    ∙ longer (procs_positions procs) (opens_positions opens) (body_positions body) (at ∷ []) header.at
positions_shifted kernel (Inside procs header opens body) (terminals.If at) =
    ap (λ ps. procs_positions procs ++ header.at ∷ ps) (append-nil (opens_positions opens ++ (body_positions body ++ at ∷ [])))
    ∙ longer (procs_positions procs) (opens_positions opens) (body_positions body) (at ∷ []) header.at
positions_shifted kernel (Inside procs header opens body) (terminals.While at) =
    ap (λ ps. procs_positions procs ++ header.at ∷ ps) (append-nil (opens_positions opens ++ (body_positions body ++ at ∷ [])))
    ∙ longer (procs_positions procs) (opens_positions opens) (body_positions body) (at ∷ []) header.at
positions_shifted kernel (Inside procs header opens body) (terminals.Repeat at times) =
    ap (λ ps. procs_positions procs ++ header.at ∷ ps) (append-nil (opens_positions opens ++ (body_positions body ++ at ∷ [])))
    ∙ longer (procs_positions procs) (opens_positions opens) (body_positions body) (at ∷ []) header.at
positions_shifted kernel (Inside procs header (In_if at before ∷ opens) body) terminals.Else = simp (append_assoc, append-nil)
positions_shifted kernel (Inside procs header [] body) terminals.End =
    positions_closed procs header.role (procedure header body) ∙ sym (append-nil (procs_positions procs ++ header.at ∷ body_positions body))
positions_shifted kernel (Inside procs header (o ∷ opens) body) terminals.End =
    ap (λ ps. procs_positions procs ++ header.at ∷ (opens_positions opens ++ ps)) (positions_reduced o body) ∙ simp (append_assoc, append-nil)
positions_shifted kernel s t = tt
