-- The steps of the walk through a span.
use Rattle.sound_evidence.proofs.Words.{◌≡◌, ℕ, suc, ◌+◌, ◌^◌, ◌<◌, Bool, true, false, cond, List, [], ◌∷◌, ◌++◌, length, sym, ap, ◌∙◌, subst, arith, Op}
use Rattle.sound_evidence.proofs.Words.{constants_of, is_op, computation_at, eight, taken_by, Public, Trace, row_at, op_in, IsAt, own, op_named, Built}
use Rattle.sound_evidence.proofs.Words.{IsFound, IsWalkable, Takes, marked_of}
use Rattle.vm_ops.specs.declared.op.Op.TheVariants as ops
use Rattle.tree_merge.specs.Placed as placed
use Rattle.tree_merge.specs.declared.addr_tree.AddrTree.TheVariants as tree
use Rattle.sound_evidence.proofs.Marks.{marked_end, marked_respan, marked_takes}
use Rattle.sound_evidence.proofs.ReadRows.{own_small}
use Rattle.sound_evidence.proofs.Spanning.{Spanned, Spanning, span_begins, span_ends, span_goes_on, stands_in_table}
use Rattle.sound_evidence.proofs.Takings.{row_takes}

module _ (p : Public) (t : Trace) (readable : IsWalkable p t) where
  pub first_batch : (i : ℕ) → IsAt t.main i ops.Span → (batch : List ℕ) (begun : List (List ℕ)) → begun ≡ batch ∷ [] → batch ≡ eight (row_at t.main i)
      → Spanning t.main i (i + 1) begun
  first_batch i here batch begun is is_batch =
      subst (λ bs. Spanning t.main i (i + 1) bs) (sym (is ∙ ap (λ xs. xs ∷ []) is_batch))
      (span_begins (constants_of p.params) t.hasher t.main readable.facts.spans i here)

  pub row_within : (i a : ℕ) (begun : List (List ℕ)) → Spanning t.main i a begun → suc a < length t.main
  row_within i a begun spanning = stands_in_table t.main a spanning.end spanning.left spanning.stands

  pub read_within : (i a : ℕ) (begun : List (List ℕ)) → Spanning t.main i a begun → a < length t.main
  read_within i a begun spanning = let within = row_within i a begun spanning in omega (arith, within)

  -- of the operation that the walk sees in row a
  not_end : (op here : Op) (answer : Bool) → op ≡ marked_of here → answer ≡ is_op op ops.End → answer ≡ false → is_op here ops.End ≡ false
  not_end op here answer same is no_end = sym (marked_end here) ∙ ap (λ o. is_op o ops.End) (sym same) ∙ sym is ∙ no_end

  is_the_end : (op here : Op) (answer : Bool) → op ≡ marked_of here → answer ≡ is_op op ops.End → answer ≡ true → here ≡ ops.End
  is_the_end op here answer same is yes_end =
      op_named here ops.End (sym (marked_end here) ∙ ap (λ o. is_op o ops.End) (sym same) ∙ sym is ∙ yes_end)

  pub next_row : (i a : ℕ) (begun next : List (List ℕ)) (op : Op) (answer : Bool) → Spanning t.main i a begun
      → op ≡ marked_of (op_in t.main a) → answer ≡ is_op op ops.End → answer ≡ false
      → next ≡ cond (is_op op ops.Respan) (begun ++ eight (row_at t.main a) ∷ []) begun → Spanning t.main i (a + 1) next
  next_row i a begun next op answer spanning same is no_end is_next =
      subst (λ bs. Spanning t.main i (a + 1) bs)
      (sym (is_next ∙ ap (λ v. cond v (begun ++ eight (row_at t.main a) ∷ []) begun)
      (ap (λ o. is_op o ops.Respan) same ∙ marked_respan (op_in t.main a))))
      (span_goes_on t.main i a begun spanning (not_end op (op_in t.main a) answer same is no_end))

  ended : (i a : ℕ) (begun : List (List ℕ)) (op : Op) (answer : Bool) → (spanning : Spanning t.main i a begun)
      → op ≡ marked_of (op_in t.main a) → answer ≡ is_op op ops.End → answer ≡ true → Spanned t.main i a begun spanning
  ended i a begun op answer spanning same is yes_end = span_ends t.main i a begun spanning (is_the_end op (op_in t.main a) answer same is yes_end)

  pub span_small : (i a : ℕ) (begun : List (List ℕ)) (op : Op) (answer : Bool) → Spanning t.main i a begun
      → op ≡ marked_of (op_in t.main a) → answer ≡ is_op op ops.End → answer ≡ true → own t.main i < 2 ^ 32
  span_small i a begun op answer spanning same is yes_end =
      own_small p t readable i a (ended i a begun op answer spanning same is yes_end).closes

  pub span_found : (i a at : ℕ) (begun : List (List ℕ)) (op : Op) (answer : Bool) → IsAt t.main i ops.Span → Spanning t.main i a begun
      → op ≡ marked_of (op_in t.main a) → answer ≡ is_op op ops.End → answer ≡ true → at ≡ own t.main i
      → IsFound p t i (record { end = a; tree = tree.Span at begun })
  span_found i a at begun op answer here spanning same is yes_end at_is =
      let whole = ended i a begun op answer spanning same is yes_end in
      record {
        tree = subst (λ (n : ℕ). Built (constants_of p.params) (computation_at t.hasher) t.main i a (placed.Span n begun)) (sym at_is)
            (Built.span here whole.closes whole.are);
      }

  -- what row a takes from the tape
  pub row_taken : (i a : ℕ) (begun : List (List ℕ)) (op : Op) (before new : List ℕ) → Spanning t.main i a begun → op ≡ marked_of (op_in t.main a)
      → new ≡ before ++ taken_by op (row_at t.main (suc a)) → Takes t.main a (a + 1) before new
  row_taken i a begun op before new spanning same is =
      row_takes t.main a before new (row_within i a begun spanning)
      (is ∙ ap (λ (x : List ℕ). before ++ x)
      (ap (λ o. taken_by o (row_at t.main (suc a))) same ∙ marked_takes (op_in t.main a) (row_at t.main (suc a))))
