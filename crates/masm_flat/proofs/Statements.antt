-- The first statement of a body, and those behind it.
use Rattle.masm_flat.proofs.Words.{◌≡◌, ℕ, ◌+◌, ◌<◌, Bool, List, [], ◌∷◌, ◌++◌, length, drop, get_or, map, is_some, ◌||◌, refl, sym, ap, subst, ◌∙◌, append_assoc, arith, drop_more}
use Rattle.masm_flat.proofs.Words.{Stmt, Position, Body, Empty, Leaf_then, If_then, While_then, Repeat_then, expansion, stmt_view, body_of, Operation, Known}
use Rattle.masm_flat.proofs.Words.{flat_with, HasLocals, times, digest_items, uses_of, dynexecs_of}
use Rattle.std.proofs.Common.{slice_get}
use Rattle.std.proofs.lemmas.List.{append-nil}
use Rattle.masm_tree.specs.declared.tree.Stmt.TheOpen.{Stmt-F}
use Rattle.masm_tree.specs.declared.tree.Stmt.TheFolds.{fold_out-Stmt}
use Rattle.masm_tree.proofs.Mirror.{view-Instr, view-If, view-While, view-Repeat, view-Exec, view-Call, view-Syscall, view-ProcRef, view-DynExec}
use Rattle.masm_tree.specs.Views.{joined, add_step}
use Rattle.masm_flat.specs.Blocks.{View}

pub body_of_more : (s : Stmt) (ss : List Stmt) → body_of (s ∷ ss) ≡ stmt_view s (body_of ss)
unfolding body_of
body_of_more s ss = refl

-- what holds of each kind of statement holds of each statement
pub each : (P : (Body → Body) → Type 0) → ((f : Stmt-F (Body → Body)) → P (add_step f)) → (s : Stmt) → P (stmt_view s)
unfolding stmt_view
each P h s = subst P (sym (fold_out-Stmt (Body → Body) add_step s)) (h _)

-- how a statement is seen whose kind is known
pub shown : {s t : Stmt} {b : Body} → s ≡ t → stmt_view t Empty ≡ b → stmt_view s Empty ≡ b
shown is view = ap (λ s. stmt_view s Empty) is ∙ view

-- what is collected of a statement, and then of those behind it
abbrev Splits : {X : Type 0} → (Body → List X) → (Body → Body) → Type 0
Splits collect g = (rest : Body) → collect (g rest) ≡ collect (g Empty) ++ collect rest

padded : {X : Type 0} (xs ys : List X) → xs ++ ys ≡ (xs ++ []) ++ ys
padded xs ys = ap (λ zs. zs ++ ys) (sym (append-nil xs))

padded_two : {X : Type 0} (xs ys zs : List X) → xs ++ (ys ++ zs) ≡ (xs ++ (ys ++ [])) ++ zs
padded_two xs ys zs = ap (λ us. xs ++ us) (padded ys zs) ∙ sym (append_assoc xs (ys ++ []) zs)

module _ {A : Type 0} (v : View A) (known : Known A) (locals : ℕ) where
  flat-step : (f : Stmt-F (Body → Body)) → Splits (flat_with v known locals) (add_step f)
  flat-step (Stmt-F.Instr at instr) rest = padded (map Operation (expansion instr.name instr.numbers locals)) (flat_with v known locals rest)
  flat-step (Stmt-F.Repeat at n turn) rest = padded (times n (flat_with v known locals (joined turn.items))) (flat_with v known locals rest)
  flat-step (Stmt-F.Exec at name) rest = padded (known.list name) (flat_with v known locals rest)
  flat-step (Stmt-F.ProcRef at name) rest = padded (map Operation (digest_items (known.digest name))) (flat_with v known locals rest)
  flat-step other rest = refl

  pub flat-first : (s : Stmt) (rest : Body)
      → flat_with v known locals (stmt_view s rest) ≡ flat_with v known locals (stmt_view s Empty) ++ flat_with v known locals rest
  flat-first s rest = each (Splits (flat_with v known locals)) flat-step s rest

-- the uses of the first statement, and of those behind it
uses-step : (f : Stmt-F (Body → Body)) → Splits uses_of (add_step f)
uses-step (Stmt-F.If at first second) rest = padded_two (uses_of (joined first.items)) (uses_of (joined second.items)) (uses_of rest)
uses-step (Stmt-F.While at turn) rest = padded (uses_of (joined turn.items)) (uses_of rest)
uses-step (Stmt-F.Repeat at n turn) rest = padded (uses_of (joined turn.items)) (uses_of rest)
uses-step other rest = refl

pub uses-first : (s : Stmt) (rest : Body) → uses_of (stmt_view s rest) ≡ uses_of (stmt_view s Empty) ++ uses_of rest
uses-first s rest = each (Splits uses_of) uses-step s rest

-- the dynexecs of the first statement, and of those behind it
dynexecs-step : (f : Stmt-F (Body → Body)) → Splits dynexecs_of (add_step f)
dynexecs-step (Stmt-F.If at first second) rest =
    padded_two (dynexecs_of (joined first.items)) (dynexecs_of (joined second.items)) (dynexecs_of rest)
dynexecs-step (Stmt-F.While at turn) rest = padded (dynexecs_of (joined turn.items)) (dynexecs_of rest)
dynexecs-step (Stmt-F.Repeat at n turn) rest = padded (dynexecs_of (joined turn.items)) (dynexecs_of rest)
dynexecs-step other rest = refl

-- whether a body has one
abbrev pub is_dynamic : Body → Bool
is_dynamic b = is_some (slice_get (dynexecs_of b) 0)

pub some-append : (xs ys : List Position) → is_some (slice_get (xs ++ ys) 0) ≡ (is_some (slice_get xs 0) || is_some (slice_get ys 0))
some-append [] ys = refl
some-append (x ∷ xs) ys = refl

pub dynamic-first : (s : Stmt) (rest : Body) → is_dynamic (stmt_view s rest) ≡ (is_dynamic (stmt_view s Empty) || is_dynamic rest)
dynamic-first s rest =
    ap (λ xs. is_some (slice_get xs 0)) (each (Splits dynexecs_of) dynexecs-step s rest)
    ∙ some-append (dynexecs_of (stmt_view s Empty)) (dynexecs_of rest)

pub ruleset dynamic = (
  view-Instr,
  view-Exec,
  view-Call,
  view-Syscall,
  view-ProcRef,
  view-DynExec,
  view-If,
  view-While,
  view-Repeat,
  append-nil,
  some-append,
)

-- what is done, and then what is left, is the whole
pub go_on : {A : Type 0} (old new xs more rest total : List A) → new ≡ old ++ more → xs ≡ more ++ rest → old ++ xs ≡ total → new ++ rest ≡ total
go_on old new xs more rest total e f g = ap (λ n. n ++ rest) e ∙ append_assoc old more rest ∙ ap (λ r. old ++ r) (sym f) ∙ g

locals-step : (locals : ℕ) (f : Stmt-F (Body → Body)) (rest : Body) → HasLocals locals (add_step f rest)
    → HasLocals locals (add_step f Empty) × HasLocals locals rest
locals-step locals (Stmt-F.If at first second) rest h = ((h.0, h.1, tt), h.2)
locals-step locals other rest h = ((h.0, tt), h.1)

-- how many statements there are, those inside others too
abbrev pub weight : Body → ℕ
weight Empty = 0
weight (Leaf_then at leaf rest) = 1 + weight rest
weight (If_then at first second rest) = 1 + weight first + weight second + weight rest
weight (While_then at turn rest) = 1 + weight turn + weight rest
weight (Repeat_then at n turn rest) = 1 + weight turn + weight rest

weight-step : (f : Stmt-F (Body → Body)) (rest : Body) → weight (add_step f rest) ≡ weight (add_step f Empty) + weight rest
weight-step (Stmt-F.Instr at instr) rest = omega arith
weight-step other rest = omega arith

-- the statement at a place, and those behind it
pub record Next (body : List Stmt) (i : ℕ) (s : Stmt) : Type 0 where
  pub split : body_of (drop i body) ≡ stmt_view s (body_of (drop (i + 1) body))
  pub locals : (locals : ℕ) → HasLocals locals (body_of (drop i body))
      → HasLocals locals (stmt_view s Empty) × HasLocals locals (body_of (drop (i + 1) body))
  pub weights : weight (body_of (drop i body)) ≡ weight (stmt_view s Empty) + weight (body_of (drop (i + 1) body))

pub next : (body : List Stmt) (i : ℕ) {s : Stmt} → i < length body → s ≡ get_or body i s → Next body i s
next body i {s} below is =
    let behind = drop (i + 1) body in
    let here : drop i body ≡ s ∷ behind = drop_more body i s below ∙ ap (λ t. t ∷ behind) (sym is) in
    let split = ap body_of here ∙ body_of_more s behind in record {
      split = split;
      locals = λ locals h.
          each (λ g. (rest : Body) → HasLocals locals (g rest) → HasLocals locals (g Empty) × HasLocals locals rest) (locals-step locals) s
          (body_of behind) (subst (HasLocals locals) split h);
      weights = ap weight split ∙ each (λ g. (rest : Body) → weight (g rest) ≡ weight (g Empty) + weight rest) weight-step s (body_of behind);
    }

-- a body inside a statement, as it is lent, is lighter, and names no other locals
pub lighter : {s t : Stmt} {b : Body} {xs lent : List Stmt} → s ≡ t → stmt_view t Empty ≡ b → lent ≡ xs → weight (body_of xs) < weight b
    → weight (body_of lent) < weight (stmt_view s Empty)
lighter {s = s} {xs = xs} is view same less =
    subst (λ ys. weight (body_of ys) < weight (stmt_view s Empty)) (sym same) (subst (λ c. weight (body_of xs) < weight c) (sym (shown is view)) less)

pub inside : {s t : Stmt} {b : Body} {xs lent : List Stmt} (locals : ℕ) → s ≡ t → stmt_view t Empty ≡ b → lent ≡ xs
    → (HasLocals locals b → HasLocals locals (body_of xs)) → HasLocals locals (stmt_view s Empty) → HasLocals locals (body_of lent)
inside locals is view same within named =
    subst (λ ys. HasLocals locals (body_of ys)) (sym same) (within (subst (HasLocals locals) (shown is view) named))
