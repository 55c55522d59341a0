-- The first statement of a body, by its kind: what is passed there, and what starts.
use Rattle.std.proofs.Common.{◌≡◌, ℕ, ◌-◌, ◌<◌, ◌≤◌, List, [], ◌∷◌, length, take, drop, get_or, Some, None, Vec, Global, Bool, true, false, refl, ap, sym, subst, ◌∙◌, arith}
use Rattle.std.proofs.lemmas.List.{take_rest}
use Rattle.std.specs.Prelude.{if◌then◌else◌, Result, IfOk, OnOk}
use Rattle.masm_tree.specs.declared.tree.Stmt.{Stmt}
use Rattle.masm_tree.specs.declared.tree.Stmt.TheOpen.{Stmt-F}
use Rattle.masm_tree.specs.declared.tree.Stmt.TheFolds.{fold_out-Stmt}
use Rattle.masm_tree.specs.declared.tree.Stmt.TheVariants.{Instr, If, While, Repeat, Exec, Call, Syscall, ProcRef, DynExec}
use Rattle.masm_tree.specs.declared.tree.Position.{Position}
use Rattle.masm_tree.specs.Trees.{Body, Empty}
use Rattle.masm_tree.specs.Views.{add_step, stmt_view, body_of}
use Rattle.masm_tree.proofs.Mirror.{body_of_nil, view-Instr, view-If, view-While, view-Repeat, view-Exec, view-Call, view-Syscall, view-ProcRef, view-DynExec}
use Rattle.masm_instr.specs.Instructions.{Instruction}
use Rattle.vm_ops.specs.declared.op.Op.{Op}
use Rattle.vm_ops.specs.declared.op.Op.TheVariants as ops
use Rattle.masm_places.specs.declared.level.Part.TheVariants as parts
use Rattle.masm_places.specs.Texts.{Texts, found, found_in_kernel}
use Rattle.masm_places.specs.Pending.{Level, Walk, taken, first_at}
use Rattle.masm_places.specs.Silent.{lost, takes_up, executes, with_digest, repeats, passed}
use Rattle.masm_places.specs.Steps.{block_op, is_op, is_empty, inside, calls, chosen, enters, enters_by}

pub body_of_more : (s : Stmt) (ss : List Stmt) → body_of (s ∷ ss) ≡ stmt_view s (body_of ss)
unfolding body_of
body_of_more s ss = refl

full : (f : Stmt-F (Body → Body)) (rest : Body) → is_empty (add_step f rest) ≡ false
full (Stmt-F.Instr at instr) rest = refl
full (Stmt-F.If at one other) rest = refl
full (Stmt-F.While at turn) rest = refl
full (Stmt-F.Repeat at n turn) rest = refl
full (Stmt-F.Exec at name) rest = refl
full (Stmt-F.Call at name) rest = refl
full (Stmt-F.Syscall at name) rest = refl
full (Stmt-F.ProcRef at name) rest = refl
full (Stmt-F.DynExec at) rest = refl

pub is_empty-more : (s : Stmt) (ss : List Stmt) → is_empty (body_of (s ∷ ss)) ≡ false
unfolding body_of stmt_view
is_empty-more s ss =
    subst (λ g. is_empty (g (body_of ss)) ≡ false) (sym (fold_out-Stmt (Body → Body) add_step s)) (full _ (body_of ss))

pub is_empty-nil : is_empty (body_of []) ≡ true
is_empty-nil = ap is_empty body_of_nil

-- no statement, or a first one
pub none_left : (ss : List Stmt) → length ss < 1 → body_of ss ≡ Empty
none_left [] none = body_of_nil
none_left (s ∷ ss) none = absurd (omega arith)

pub one_left : (ss : List Stmt) (s : Stmt) → 1 ≤ length ss → s ≡ get_or ss 0 s
    → body_of ss ≡ stmt_view s (body_of (take (length ss - 1) (drop 1 ss)))
one_left [] s some is = absurd (omega arith)
one_left (first ∷ ss) s some is =
    body_of_more first ss ∙ ap (λ s. stmt_view s (body_of ss)) (sym is)
    ∙ ap (λ rest. stmt_view s (body_of rest)) (sym (take_rest (first ∷ ss) 1))

pub full_left : (ss : List Stmt) → 1 ≤ length ss → false ≡ is_empty (body_of ss)
full_left [] some = absurd (omega arith)
full_left (s ∷ ss) some = sym (is_empty-more s ss)

pub ruleset bodies = (body_of_nil, body_of_more, is_empty-more, is_empty-nil)

module _ (rest : Body) where
  pub block-Instr : (at : Position) (i : Instruction) → block_op (stmt_view (Instr at i) rest) ≡ None
  block-Instr at i = ap block_op (view-Instr at i rest)

  pub block-If : (at : Position) (xs ys : Vec Stmt Global) → block_op (stmt_view (If at xs ys) rest) ≡ Some ops.Split
  block-If at xs ys = ap block_op (view-If at xs ys rest)

  pub block-While : (at : Position) (xs : Vec Stmt Global) → block_op (stmt_view (While at xs) rest) ≡ Some ops.Loop
  block-While at xs = ap block_op (view-While at xs rest)

  pub block-Repeat : (at : Position) (n : ℕ) (xs : Vec Stmt Global) → block_op (stmt_view (Repeat at n xs) rest) ≡ None
  block-Repeat at n xs = ap block_op (view-Repeat at n xs rest)

  pub block-Exec : (at : Position) (name : List ℕ) → block_op (stmt_view (Exec at name) rest) ≡ None
  block-Exec at name = ap block_op (view-Exec at name rest)

  pub block-Call : (at : Position) (name : List ℕ) → block_op (stmt_view (Call at name) rest) ≡ Some ops.Call
  block-Call at name = ap block_op (view-Call at name rest)

  pub block-Syscall : (at : Position) (name : List ℕ) → block_op (stmt_view (Syscall at name) rest) ≡ Some ops.Syscall
  block-Syscall at name = ap block_op (view-Syscall at name rest)

  pub block-ProcRef : (at : Position) (name : List ℕ) → block_op (stmt_view (ProcRef at name) rest) ≡ None
  block-ProcRef at name = ap block_op (view-ProcRef at name rest)

  pub block-DynExec : (at : Position) → block_op (stmt_view (DynExec at) rest) ≡ Some ops.Dyn
  block-DynExec at = ap block_op (view-DynExec at rest)

pub ruleset block_ops = (block-Instr, block-If, block-While, block-Repeat, block-Exec, block-Call, block-Syscall, block-ProcRef, block-DynExec)

module _ (at : Position) (rest : Body) where
  pub at-Instr : (a : Position) (i : Instruction) → first_at at (stmt_view (Instr a i) rest) ≡ a
  at-Instr a i = ap (first_at at) (view-Instr a i rest)

  pub at-If : (a : Position) (xs ys : Vec Stmt Global) → first_at at (stmt_view (If a xs ys) rest) ≡ a
  at-If a xs ys = ap (first_at at) (view-If a xs ys rest)

  pub at-While : (a : Position) (xs : Vec Stmt Global) → first_at at (stmt_view (While a xs) rest) ≡ a
  at-While a xs = ap (first_at at) (view-While a xs rest)

  pub at-Repeat : (a : Position) (n : ℕ) (xs : Vec Stmt Global) → first_at at (stmt_view (Repeat a n xs) rest) ≡ a
  at-Repeat a n xs = ap (first_at at) (view-Repeat a n xs rest)

  pub at-Exec : (a : Position) (name : List ℕ) → first_at at (stmt_view (Exec a name) rest) ≡ a
  at-Exec a name = ap (first_at at) (view-Exec a name rest)

  pub at-Call : (a : Position) (name : List ℕ) → first_at at (stmt_view (Call a name) rest) ≡ a
  at-Call a name = ap (first_at at) (view-Call a name rest)

  pub at-Syscall : (a : Position) (name : List ℕ) → first_at at (stmt_view (Syscall a name) rest) ≡ a
  at-Syscall a name = ap (first_at at) (view-Syscall a name rest)

  pub at-ProcRef : (a : Position) (name : List ℕ) → first_at at (stmt_view (ProcRef a name) rest) ≡ a
  at-ProcRef a name = ap (first_at at) (view-ProcRef a name rest)

  pub at-DynExec : (a : Position) → first_at at (stmt_view (DynExec a) rest) ≡ a
  at-DynExec a = ap (first_at at) (view-DynExec a rest)

pub ruleset positions = (at-Instr, at-If, at-While, at-Repeat, at-Exec, at-Call, at-Syscall, at-ProcRef, at-DynExec)

module _ (texts : Texts) (w : Walk) (l : Level) (rest : Body) where
  pub pass-Instr : (at : Position) (i : Instruction) → passed texts w l (stmt_view (Instr at i) rest) ≡ Some (takes_up w (taken l at rest) i)
  pass-Instr at i = ap (passed texts w l) (view-Instr at i rest)

  pub pass-If : (at : Position) (xs ys : Vec Stmt Global) → passed texts w l (stmt_view (If at xs ys) rest) ≡ None
  pass-If at xs ys = ap (passed texts w l) (view-If at xs ys rest)

  pub pass-While : (at : Position) (xs : Vec Stmt Global) → passed texts w l (stmt_view (While at xs) rest) ≡ None
  pass-While at xs = ap (passed texts w l) (view-While at xs rest)

  pub pass-Repeat : (at : Position) (n : ℕ) (xs : Vec Stmt Global)
      → passed texts w l (stmt_view (Repeat at n xs) rest) ≡ Some (repeats w (taken l at rest) n (body_of xs.items))
  pass-Repeat at n xs = ap (passed texts w l) (view-Repeat at n xs rest)

  pub pass-Exec : (at : Position) (name : List ℕ)
      → passed texts w l (stmt_view (Exec at name) rest) ≡ Some (executes w (taken l at rest) (found texts l.origin name))
  pass-Exec at name = ap (passed texts w l) (view-Exec at name rest)

  pub pass-Call : (at : Position) (name : List ℕ) → passed texts w l (stmt_view (Call at name) rest) ≡ None
  pass-Call at name = ap (passed texts w l) (view-Call at name rest)

  pub pass-Syscall : (at : Position) (name : List ℕ) → passed texts w l (stmt_view (Syscall at name) rest) ≡ None
  pass-Syscall at name = ap (passed texts w l) (view-Syscall at name rest)

  pub pass-ProcRef : (at : Position) (name : List ℕ)
      → passed texts w l (stmt_view (ProcRef at name) rest) ≡ Some (with_digest w (taken l at rest))
  pass-ProcRef at name = ap (passed texts w l) (view-ProcRef at name rest)

  pub pass-DynExec : (at : Position) → passed texts w l (stmt_view (DynExec at) rest) ≡ None
  pass-DynExec at = ap (passed texts w l) (view-DynExec at rest)

pub ruleset passes = (pass-Instr, pass-If, pass-While, pass-Repeat, pass-Exec, pass-Call, pass-Syscall, pass-ProcRef, pass-DynExec)

module _ (texts : Texts) (top : ℕ) (w : Walk) (l : Level) (rest : Body) where
  pub start-Instr : (at : Position) (i : Instruction) → enters texts top w l (stmt_view (Instr at i) rest) ≡ lost w
  start-Instr at i = ap (enters texts top w l) (view-Instr at i rest)

  pub start-If : (at : Position) (xs ys : Vec Stmt Global) → enters texts top w l (stmt_view (If at xs ys) rest)
      ≡ inside w (taken l at rest) parts.Branch (chosen top (body_of xs.items) (body_of ys.items)) Empty
  start-If at xs ys = ap (enters texts top w l) (view-If at xs ys rest)

  pub start-While : (at : Position) (xs : Vec Stmt Global) → enters texts top w l (stmt_view (While at xs) rest)
      ≡ inside w (taken l at rest) parts.Turn (chosen top (body_of xs.items) Empty) (body_of xs.items)
  start-While at xs = ap (enters texts top w l) (view-While at xs rest)

  pub start-Repeat : (at : Position) (n : ℕ) (xs : Vec Stmt Global) → enters texts top w l (stmt_view (Repeat at n xs) rest) ≡ lost w
  start-Repeat at n xs = ap (enters texts top w l) (view-Repeat at n xs rest)

  pub start-Exec : (at : Position) (name : List ℕ) → enters texts top w l (stmt_view (Exec at name) rest) ≡ lost w
  start-Exec at name = ap (enters texts top w l) (view-Exec at name rest)

  pub start-Call : (at : Position) (name : List ℕ)
      → enters texts top w l (stmt_view (Call at name) rest) ≡ calls w (taken l at rest) (found texts l.origin name)
  start-Call at name = ap (enters texts top w l) (view-Call at name rest)

  pub start-Syscall : (at : Position) (name : List ℕ)
      → enters texts top w l (stmt_view (Syscall at name) rest) ≡ calls w (taken l at rest) (found_in_kernel texts name)
  start-Syscall at name = ap (enters texts top w l) (view-Syscall at name rest)

  pub start-ProcRef : (at : Position) (name : List ℕ) → enters texts top w l (stmt_view (ProcRef at name) rest) ≡ lost w
  start-ProcRef at name = ap (enters texts top w l) (view-ProcRef at name rest)

  pub start-DynExec : (at : Position)
      → enters texts top w l (stmt_view (DynExec at) rest) ≡ inside w (taken l at rest) parts.Dynamic Empty Empty
  start-DynExec at = ap (enters texts top w l) (view-DynExec at rest)

pub ruleset starts =
    (start-Instr, start-If, start-While, start-Repeat, start-Exec, start-Call, start-Syscall, start-ProcRef, start-DynExec, body_of_nil)

-- a block starts where the operation is the one that starts it
pub enters_by-same : (texts : Texts) (op : Op) (top : ℕ) (w : Walk) (l : Level) → is_op (block_op l.left) op ≡ true
    → enters_by texts op top w l ≡ enters texts top w l l.left
enters_by-same texts op top w l same = ap (λ (t : Bool). if t then enters texts top w l l.left else lost w) same

pub enters_by-other : (texts : Texts) (op : Op) (top : ℕ) (w : Walk) (l : Level) → is_op (block_op l.left) op ≡ false
    → enters_by texts op top w l ≡ lost w
enters_by-other texts op top w l other = ap (λ (t : Bool). if t then enters texts top w l l.left else lost w) other

-- the same with what is left told otherwise, and with what a walk comes to
pub passed_same : {E : Type 0} (texts : Texts) (w : Walk) (l : Level) (a b : Body) (r : Result Bool E) (v : Walk) → a ≡ b
    → IfOk r (λ moved. (if moved then Some v else None) ≡ passed texts w l b)
    → IfOk r (λ moved. (if moved then Some v else None) ≡ passed texts w l a)
passed_same texts w l a b r v same h =
    subst (λ (b : Body). IfOk r (λ moved. (if moved then Some v else None) ≡ passed texts w l b)) (sym same) h

pub comes_same : {A E : Type 0} (r : Result A E) (v a b : Walk) → a ≡ b → OnOk r (v ≡ b) → OnOk r (v ≡ a)
comes_same r v a b same h = subst (λ (b : Walk). OnOk r (v ≡ b)) (sym same) h
