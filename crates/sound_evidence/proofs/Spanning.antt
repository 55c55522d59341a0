-- How far the rows of a span have been read.
use Rattle.sound_evidence.proofs.Words.{◌≡◌, ℕ, suc, ◌+◌, ◌<◌, true, false, cond, List, [], ◌∷◌, ◌++◌, length, refl, sym, ap, ◌∙◌, subst, add-one}
use Rattle.sound_evidence.proofs.Words.{append_assoc, append-nil, Op, input_of_batches, is_op, eight, row_at, op_in, never, off, Closes, IsAt}
use Rattle.vm_ops.specs.Codes.{is_ordinary_op}
use Rattle.vm_ops.specs.declared.item.Item.{Item}
use Rattle.vm_ops.specs.declared.op.Op.TheVariants as ops
use Rattle.sound_blocks.specs.Items.{AreItems}
use Rattle.sound_blocks.specs.Spans.{AreBatches, IsHashedAt, SpanFacts}

-- row r stands behind a batch: it is the END in row e, or RESPAN with the batches that are left
pub data Behind (rows : List (List ℕ)) (r e : ℕ) (left : List (List ℕ)) : Type 0 where
  ends : r ≡ e → IsAt rows r ops.End → left ≡ [] → Behind rows r e left
  more : IsAt rows r ops.Respan → AreBatches rows r e left → Behind rows r e left

-- row a stands in a batch, or behind its last operation
pub record StandsIn (rows : List (List ℕ)) (a e : ℕ) (left : List (List ℕ)) : Type 0 where
  pub behind_row : ℕ
  pub items : List Item
  pub are : AreItems rows a behind_row items
  pub behind : Behind rows behind_row e left

-- the rows of the span that starts in row i are read up to row a: these batches have begun
pub record Spanning (rows : List (List ℕ)) (i a : ℕ) (begun : List (List ℕ)) : Type 0 where
  pub end : ℕ
  pub batches : List (List ℕ)
  pub closes : Closes rows i end
  pub are : AreBatches rows i end batches
  pub left : List (List ℕ)
  pub batches_are : batches ≡ begun ++ left
  pub stands : StandsIn rows a end left

-- behind the row that begins a batch
record Begun (rows : List (List ℕ)) (i e : ℕ) (batches : List (List ℕ)) : Type 0 where
  pub left : List (List ℕ)
  pub batches_are : batches ≡ eight (row_at rows i) ∷ left
  pub stands : StandsIn rows (i + 1) e left

begun_by : (rows : List (List ℕ)) (i e : ℕ) (batches : List (List ℕ)) → AreBatches rows i e batches → Begun rows i e batches
begun_by rows i e batches (AreBatches.last q p batch closing) = record {
  left = [];
  batches_are = refl;
  stands = record { behind_row = e; items = batch.items; are = rw add-one batch.are; behind = Behind.ends refl closing refl };
}
begun_by rows i e batches (AreBatches.more q r p later batch respan rest) = record {
  left = later;
  batches_are = refl;
  stands = record { behind_row = r; items = batch.items; are = rw add-one batch.are; behind = Behind.more respan rest };
}

pub span_begins : (constants : List ℕ) (hasher rows : List (List ℕ)) → SpanFacts constants hasher rows → (i : ℕ) → IsAt rows i ops.Span
    → Spanning rows i (i + 1) (eight (row_at rows i) ∷ [])
span_begins constants hasher rows spans i here = go (spans.span i here)
  where
    go : (e : ℕ) × (batches : List (List ℕ)) × AreBatches rows i e batches × Closes rows i e
        × IsHashedAt constants hasher rows i e (input_of_batches batches) → Spanning rows i (i + 1) (eight (row_at rows i) ∷ [])
    go (e, batches, are, closes, hashed) =
        let b = begun_by rows i e batches are in
        record { end = e; batches = batches; closes = closes; are = are; left = b.left; batches_are = b.batches_are; stands = b.stands }

-- ---- row by row

ordinary_no_respan : (op : Op) → is_ordinary_op op ≡ true → is_op op ops.Respan ≡ false
ordinary_no_respan ops.Respan is = off is
ordinary_no_respan ops.Join is = off is
ordinary_no_respan op is = refl

ordinary_no_end : {A : Type 0} (op : Op) → is_ordinary_op op ≡ true → op ≡ ops.End → A
ordinary_no_end op is here = off (sym (ap is_ordinary_op here) ∙ is)

in_table : (rows : List (List ℕ)) (a r : ℕ) (items : List Item) → AreItems rows a r items → suc a < length rows
in_table rows a r items (AreItems.over q within no_item) = within
in_table rows a r items (AreItems.next q p later within is rest) = within

pub stands_in_table : (rows : List (List ℕ)) (a e : ℕ) (left : List (List ℕ)) → StandsIn rows a e left → suc a < length rows
stands_in_table rows a e left stands = in_table rows a stands.behind_row stands.items stands.are

module _ (rows : List (List ℕ)) (i a : ℕ) (begun : List (List ℕ)) (spanning : Spanning rows i a begun) where
  -- the batches that have begun behind row a
  abbrev pub begun_behind : List (List ℕ)
  begun_behind = cond (is_op (op_in rows a) ops.Respan) (begun ++ eight (row_at rows a) ∷ []) begun

  stay : is_op (op_in rows a) ops.Respan ≡ false → StandsIn rows (a + 1) spanning.end spanning.left → Spanning rows i (a + 1) begun_behind
  stay no_respan stands = rw no_respan (record {
    end = spanning.end;
    batches = spanning.batches;
    closes = spanning.closes;
    are = spanning.are;
    left = spanning.left;
    batches_are = spanning.batches_are;
    stands = stands;
  })

  begin : is_op (op_in rows a) ops.Respan ≡ true → Begun rows a spanning.end spanning.left → Spanning rows i (a + 1) begun_behind
  begin respan b = rw respan (record {
    end = spanning.end;
    batches = spanning.batches;
    closes = spanning.closes;
    are = spanning.are;
    left = b.left;
    batches_are = spanning.batches_are ∙ ap (λ bs. begun ++ bs) b.batches_are ∙ sym (append_assoc begun (eight (row_at rows a) ∷ []) b.left);
    stands = b.stands;
  })

  step_behind : (r : ℕ) → a ≡ r → is_op (op_in rows a) ops.End ≡ false → Behind rows r spanning.end spanning.left
      → Spanning rows i (a + 1) begun_behind
  step_behind r same no_end (Behind.ends is closing none) =
      never (sym (ap (λ o. is_op o ops.End) (ap (λ (m : ℕ). op_in rows m) same ∙ closing.is)) ∙ no_end)
  step_behind r same no_end (Behind.more respan are) =
      begin (ap (λ o. is_op o ops.Respan) (ap (λ (m : ℕ). op_in rows m) same ∙ respan.is))
      (begun_by rows a spanning.end spanning.left (subst (λ (m : ℕ). AreBatches rows m spanning.end spanning.left) (sym same) are))

  step_items : (r : ℕ) (items : List Item) → AreItems rows a r items → is_op (op_in rows a) ops.End ≡ false
      → Behind rows r spanning.end spanning.left → Spanning rows i (a + 1) begun_behind
  step_items r items (AreItems.over q within no_item) no_end behind = step_behind r refl no_end behind
  step_items r items (AreItems.next q p later within is rest) no_end behind =
      stay (ordinary_no_respan (op_in rows a) is) (record { behind_row = r; items = later; are = rw add-one rest; behind = behind })

  pub span_goes_on : is_op (op_in rows a) ops.End ≡ false → Spanning rows i (a + 1) begun_behind
  span_goes_on no_end =
      step_items spanning.stands.behind_row spanning.stands.items spanning.stands.are no_end spanning.stands.behind

  -- all batches of the span have begun, and its END is in row a
  pub record Spanned : Type 0 where
    pub closes : Closes rows i a
    pub are : AreBatches rows i a begun

  end_behind : (r : ℕ) → a ≡ r → op_in rows a ≡ ops.End → Behind rows r spanning.end spanning.left → Spanned
  end_behind r same here (Behind.ends is closing none) = record {
    closes = subst (λ (m : ℕ). Closes rows i m) (sym (same ∙ is)) spanning.closes;
    are = subst (λ bs. AreBatches rows i a bs) (spanning.batches_are ∙ ap (λ bs. begun ++ bs) none ∙ append-nil begun)
        (subst (λ (m : ℕ). AreBatches rows i m spanning.batches) (sym (same ∙ is)) spanning.are);
  }
  end_behind r same here (Behind.more respan are) =
      never (sym (ap (λ o. is_op o ops.Respan) (ap (λ (m : ℕ). op_in rows m) same ∙ respan.is)) ∙ ap (λ o. is_op o ops.Respan) here)

  end_items : (r : ℕ) (items : List Item) → AreItems rows a r items → op_in rows a ≡ ops.End
      → Behind rows r spanning.end spanning.left → Spanned
  end_items r items (AreItems.over q within no_item) here behind = end_behind r refl here behind
  end_items r items (AreItems.next q p later within is rest) here behind = ordinary_no_end (op_in rows a) is here

  pub span_ends : op_in rows a ≡ ops.End → Spanned
  span_ends here = end_items spanning.stands.behind_row spanning.stands.items spanning.stands.are here spanning.stands.behind
