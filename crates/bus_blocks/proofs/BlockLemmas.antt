-- What a row gives and asks of blocks, by its operation.
use Rattle.std.proofs.Common.{◌≡◌, ℕ, ◌==◌, Bool, true, false, cond, List, [], ◌∷◌, ◌++◌, Result, Ok, OnOk, refl, ap, sym, ◌∙◌, subst}
use Rattle.vm_field.specs.Signs.{◌⊞◌}
use Rattle.buses.specs.Counts.{Counted, once}
use Rattle.bus_kit.specs.Adding.{Tallied, IsCounted}
use Rattle.bus_kit.proofs.AddingLemmas.{none_counted}
use Rattle.air_kit.specs.Flags.{is_op, op_of}
use Rattle.air_kit.specs.MainTuples.{blocks_asked, blocks_given, child, children_asked, children_by, children_given, children_of, frame_cells, front, is_call_op, kind_of_end, kind_of_start, loops_asked, loops_given, no_frame}
use Rattle.vm_ops.specs.Codes.{is_start_op, kind_of}
use Rattle.vm_ops.specs.declared.kind.Kind.{Kind}
use Rattle.vm_ops.specs.declared.kind.Kind.TheVariants as kinds
use Rattle.vm_ops.specs.declared.op.Op.{Op}
use Rattle.vm_ops.specs.declared.op.Op.TheVariants as ops
use Rattle.vm_table.specs.MainColumns.{addr, h, w}

-- END starts no block
end_starts_none : (op : Op) → true ≡ is_op op ops.End → false ≡ is_start_op op
end_starts_none ops.End e = refl
end_starts_none op e = absurd (cc)

-- whether a kind is that of END
abbrev pub is_end_kind : Kind → Bool
is_end_kind kinds.Ordinary = false
is_end_kind kinds.Join = false
is_end_kind kinds.Split = false
is_end_kind kinds.Loop = false
is_end_kind kinds.Span = false
is_end_kind kinds.Call = false
is_end_kind kinds.Syscall = false
is_end_kind kinds.Dyn = false
is_end_kind kinds.End = true
is_end_kind kinds.Repeat = false
is_end_kind kinds.Respan = false
is_end_kind kinds.Halt = false

ended_by : (op : Op) → is_op op ops.End ≡ is_end_kind (kind_of op)
ended_by ops.End = refl
ended_by op = refl

-- the block of a row that starts one, and of one that ends one
abbrev pub started : Op → List ℕ → List ℕ → List ℕ
started op x y = addr y ∷ addr x ∷ kind_of_start op x ∷ cond (is_call_op op) (frame_cells x) no_frame

abbrev pub ended : List ℕ → List ℕ → List ℕ
ended x y = addr x ∷ addr y ∷ kind_of_end x ∷ cond (h x 6 ⊞ h x 7 == 1) (frame_cells y) no_frame

-- whether another block starts at a row
abbrev pub more_of : List ℕ → ℕ
more_of y = cond (is_start_op (op_of y)) 1 0

module _ {E : Type 0} (n : ℕ) (a b : Tallied) (r : Result (Unit {0}) E) (x y : List ℕ) where
  -- the bus of blocks, by the operation
  abbrev BlocksBy : Op → Type 0
  BlocksBy op = OnOk r (IsCounted n a b (cond (is_op op ops.End) (once (ended x y) ∷ []) []) (cond (is_start_op op) (once (started op x y) ∷ []) []))

  blocks_by : (op : Op) → op ≡ op_of x → BlocksBy op → OnOk r (IsCounted n a b (blocks_asked x y) (blocks_given x y))
  unfolding blocks_asked blocks_given
  blocks_by op is p = subst BlocksBy is p

  pub block_ends : (op : Op) (t : List ℕ) → op ≡ op_of x → true ≡ is_op op ops.End → t ≡ ended x y
      → OnOk r (IsCounted n a b (once t ∷ []) []) → OnOk r (IsCounted n a b (blocks_asked x y) (blocks_given x y))
  block_ends op t is holds tuple p = let fails = end_starts_none op holds in blocks_by op is (rw (← holds, ← fails, ← tuple) p)

  pub block_starts : (op : Op) (t : List ℕ) → op ≡ op_of x → false ≡ is_op op ops.End → true ≡ is_start_op op → t ≡ started op x y
      → OnOk r (IsCounted n a b [] (once t ∷ [])) → OnOk r (IsCounted n a b (blocks_asked x y) (blocks_given x y))
  block_starts op t is fails holds tuple p = blocks_by op is (rw (← fails, ← holds, ← tuple) p)

  -- the bus of children, by the kind
  abbrev ChildrenBy : Kind → Type 0
  ChildrenBy kind = OnOk r (IsCounted n a b (cond (is_end_kind kind) (child (addr y) (front x) (more_of y) ∷ []) []) (children_by kind x y))

  by_kind : (op : Op) (kind : Kind) → op ≡ op_of x → kind ≡ kind_of op → ChildrenBy kind
      → OnOk r (IsCounted n a b (children_asked x y) (children_given x y))
  unfolding children_asked children_given children_of
  by_kind op kind is of p =
      let q : ChildrenBy (kind_of (op_of x)) = subst ChildrenBy (of ∙ ap kind_of is) p in
      rw (ended_by (op_of x)) q

  -- those of a kind that is given
  pub children_given_by : (op : Op) (kind own : Kind) (cs : List Counted) → op ≡ op_of x → kind ≡ kind_of op → kind ≡ own → false ≡ is_end_kind own
      → cs ≡ children_by own x y
      → OnOk r (IsCounted n a b [] cs) → OnOk r (IsCounted n a b (children_asked x y) (children_given x y))
  children_given_by op kind own cs is of same fails given p = by_kind op own is (sym same ∙ of) (rw (← fails, ← given) p)

  -- a child of one
  pub child_given_by : (op : Op) (kind own : Kind) (t u : List ℕ) → op ≡ op_of x → kind ≡ kind_of op → kind ≡ own → false ≡ is_end_kind own → t ≡ u
      → once u ∷ [] ≡ children_by own x y
      → OnOk r (IsCounted n a b [] (once t ∷ [])) → OnOk r (IsCounted n a b (children_asked x y) (children_given x y))
  child_given_by op kind own t u is of same fails tuple given p =
      children_given_by op kind own (once t ∷ []) is of same fails (ap (λ k. once k ∷ []) tuple ∙ given) p

  pub child_ends : (op : Op) (kind : Kind) (t : List ℕ) (more : ℕ) → op ≡ op_of x → kind ≡ kind_of op → kind ≡ kinds.End
      → t ≡ addr y ∷ front x ++ more ∷ [] → more ≡ more_of y
      → OnOk r (IsCounted n a b (once t ∷ []) []) → OnOk r (IsCounted n a b (children_asked x y) (children_given x y))
  child_ends op kind t more is of same tuple behind p = by_kind op kinds.End is (sym same ∙ of) (rw (← behind, ← tuple) p)

  -- the bus of loops
  abbrev LoopsBy : Op → Type 0
  LoopsBy op =
      OnOk r (IsCounted n a b (cond (is_op op ops.Repeat) (once (addr x ∷ front x) ∷ []) [])
      (cond (is_op op ops.Loop) (record { tuple = addr y ∷ front x; count = w x 0 } ∷ []) []))

  loops_by : (op : Op) → op ≡ op_of x → LoopsBy op → OnOk r (IsCounted n a b (loops_asked x y) (loops_given x y))
  unfolding loops_asked loops_given
  loops_by op is p = subst LoopsBy is p

  pub loop_begins : (op : Op) (t : List ℕ) (k : ℕ) → op ≡ op_of x → op ≡ ops.Loop → t ≡ addr y ∷ front x → k ≡ w x 0
      → OnOk r (IsCounted n a b [] (record { tuple = t; count = k } ∷ [])) → OnOk r (IsCounted n a b (loops_asked x y) (loops_given x y))
  loop_begins op t k is same tuple times p = loops_by ops.Loop (sym same ∙ is) (rw (← tuple, ← times) p)

  pub loop_goes_on : (op : Op) (t : List ℕ) → op ≡ op_of x → op ≡ ops.Repeat → t ≡ addr x ∷ front x
      → OnOk r (IsCounted n a b (once t ∷ []) []) → OnOk r (IsCounted n a b (loops_asked x y) (loops_given x y))
  loop_goes_on op t is same tuple p = loops_by ops.Repeat (sym same ∙ is) (rw (← tuple) p)

-- The same where an operation has no tuple.
module _ (n : ℕ) (a : Tallied) (x y : List ℕ) (op : Op) (is : op ≡ op_of x) where
  pub no_block : false ≡ is_op op ops.End → false ≡ is_start_op op → IsCounted n a a (blocks_asked x y) (blocks_given x y)
  no_block e0 e1 = blocks_by {E = Unit {0}} n a a (Ok tt) x y op is (rw (← e0, ← e1) (none_counted n a))

  pub no_child : (kind own : Kind) → kind ≡ kind_of op → kind ≡ own → false ≡ is_end_kind own → [] ≡ children_by own x y
      → IsCounted n a a (children_asked x y) (children_given x y)
  no_child kind own of same e0 e1 = by_kind {E = Unit {0}} n a a (Ok tt) x y op own is (sym same ∙ of) (rw (← e0, ← e1) (none_counted n a))

  pub no_loop : false ≡ is_op op ops.Repeat → false ≡ is_op op ops.Loop → IsCounted n a a (loops_asked x y) (loops_given x y)
  no_loop e0 e1 = loops_by {E = Unit {0}} n a a (Ok tt) x y op is (rw (← e0, ← e1) (none_counted n a))

-- an operation that is not this one
pub not_loop : (op : Op) → (op ≡ ops.Loop → ⊥) → false ≡ is_op op ops.Loop
not_loop ops.Loop h = absurd (h refl)
not_loop op h = refl

pub not_repeat : (op : Op) → (op ≡ ops.Repeat → ⊥) → false ≡ is_op op ops.Repeat
not_repeat ops.Repeat h = absurd (h refl)
not_repeat op h = refl

pub not_end : (op : Op) → (op ≡ ops.End → ⊥) → false ≡ is_op op ops.End
not_end ops.End h = absurd (h refl)
not_end op h = refl
