-- Blocks and lists but for what their operations are: each operation a NOOP.
use Rattle.std.proofs.Common.{◌≡◌, ℕ, zero, suc, ◌+◌, max, List, [], ◌∷◌, ◌++◌, length, map, sum, refl, sym, ap, ap₂, ◌∙◌, arith}
use Rattle.std.proofs.lemmas.List.{length-append, length-map}
use Rattle.vm_ops.specs.declared.item.Item.{Item}
use Rattle.vm_ops.specs.declared.op.Op.TheVariants.{Noop}
use Rattle.vm_ops.specs.Items.{plain_item}
use Rattle.masm_flat.specs.Blocks.{Block, Blocks, Span, Join, Split, Loop, Call, Syscall, Dyn, no_block, block_before, Piece, Operation, Whole, View, as_height, as_operations, all_joined, block_of, blocks_behind, blocks_from, greatest, seen_all, seen_as, seen_piece, seen_pieces, span_before, whole, whole_of}
use Rattle.masm_flat.specs.Lists.{times, with_locals}
use Rattle.masm_flat.proofs.Flattened.{seen-block}

abbrev still : Item → Item
still item = plain_item Noop

abbrev pub as_blank : View Block
as_blank = record {
  span = λ items. Span (map still items);
  join = Join;
  split = Split;
  loop = Loop;
  call = Call;
  syscall = Syscall;
  dyn = λ targets. Dyn (blocks_from targets);
}

abbrev pub blank : Block → Block
blank b = seen_as as_blank b

-- a block and its blank one have as many operations, and are as high
mutual
  pub operations-blank : (b : Block) → seen_as as_operations (blank b) ≡ seen_as as_operations b
  operations-blank (Span items) = length-map items still
  operations-blank (Join a b) = ap₂ (λ x y. x + y) (operations-blank a) (operations-blank b)
  operations-blank (Split a b) = ap₂ (λ x y. x + y) (operations-blank a) (operations-blank b)
  operations-blank (Loop a) = operations-blank a
  operations-blank (Call a) = operations-blank a
  operations-blank (Syscall a) = operations-blank a
  operations-blank (Dyn targets) = ap (λ ns. 1 + sum ns) (operations-blanks targets)

  operations-blanks : (bs : Blocks) → seen_all as_operations (blocks_from (seen_all as_blank bs)) ≡ seen_all as_operations bs
  operations-blanks no_block = refl
  operations-blanks (block_before first more) = ap₂ (λ n ns. n ∷ ns) (operations-blank first) (operations-blanks more)

mutual
  pub height-blank : (b : Block) → seen_as as_height (blank b) ≡ seen_as as_height b
  height-blank (Span items) = refl
  height-blank (Join a b) = ap₂ (λ x y. 1 + max x y) (height-blank a) (height-blank b)
  height-blank (Split a b) = ap₂ (λ x y. 1 + max x y) (height-blank a) (height-blank b)
  height-blank (Loop a) = ap (λ x. 1 + x) (height-blank a)
  height-blank (Call a) = ap (λ x. 1 + x) (height-blank a)
  height-blank (Syscall a) = ap (λ x. 1 + x) (height-blank a)
  height-blank (Dyn targets) = ap (λ ns. 1 + greatest ns) (height-blanks targets)

  height-blanks : (bs : Blocks) → seen_all as_height (blocks_from (seen_all as_blank bs)) ≡ seen_all as_height bs
  height-blanks no_block = refl
  height-blanks (block_before first more) = ap₂ (λ n ns. n ∷ ns) (height-blank first) (height-blanks more)

abbrev quiet : Piece Block → Piece Block
quiet (Operation item) = Operation (still item)
quiet (Whole block) = Whole block

still-same : (xs ys : List Item) → length xs ≡ length ys → map still xs ≡ map still ys
still-same [] [] e = refl
still-same [] (y ∷ ys) e = absurd (omega (arith, e))
still-same (x ∷ xs) [] e = absurd (omega (arith, e))
still-same (x ∷ xs) (y ∷ ys) e = ap (λ zs. plain_item Noop ∷ zs) (still-same xs ys (omega (arith, e)))

before-quiet : (xs ys : List Item) (bs : List Block) → length xs ≡ length ys
    → span_before as_blank.span as_blank.join xs bs ≡ span_before as_blank.span as_blank.join ys bs
before-quiet [] [] bs e = refl
before-quiet [] (y ∷ ys) bs e = absurd (omega (arith, e))
before-quiet (x ∷ xs) [] bs e = absurd (omega (arith, e))
before-quiet (x ∷ xs) (y ∷ ys) bs e = ap (λ items. Span items ∷ bs) (still-same (x ∷ xs) (y ∷ ys) e)

behind-quiet : (xs ys : List Item) (pieces : List (Piece Block)) → length xs ≡ length ys
    → blocks_behind as_blank.span as_blank.join xs (map quiet pieces) ≡ blocks_behind as_blank.span as_blank.join ys pieces
behind-quiet xs ys [] e = before-quiet xs ys [] e
behind-quiet xs ys (Operation item ∷ pieces) e =
    behind-quiet (xs ++ still item ∷ []) (ys ++ item ∷ []) pieces
    (length-append xs (still item ∷ []) ∙ ap (λ n. n + 1) e ∙ sym (length-append ys (item ∷ [])))
behind-quiet xs ys (Whole block ∷ pieces) e =
    ap (λ bs. span_before as_blank.span as_blank.join xs (block ∷ bs)) (behind-quiet [] [] pieces refl) ∙ before-quiet xs ys _ e

whole-quiet : (pieces : List (Piece Block)) → whole as_blank (map quiet pieces) ≡ whole as_blank pieces
unfolding whole_of
whole-quiet pieces = ap (all_joined as_blank.span as_blank.join) (behind-quiet [] [] pieces refl)

-- a list but for what its operations are
abbrev pub mark : List (Piece Block) → List (Piece Block)
mark pieces = map quiet (seen_pieces blank pieces)

pub block-mark : (xs ys : List (Piece Block)) → mark xs ≡ mark ys → blank (block_of xs) ≡ blank (block_of ys)
block-mark xs ys e =
    seen-block as_blank xs ∙ sym (whole-quiet (seen_pieces blank xs)) ∙ ap (whole as_blank) e ∙ whole-quiet (seen_pieces blank ys)
    ∙ sym (seen-block as_blank ys)

mark-append : (xs ys : List (Piece Block)) → mark (xs ++ ys) ≡ mark xs ++ mark ys
mark-append [] ys = refl
mark-append (x ∷ xs) ys = ap (λ zs. quiet (seen_piece blank x) ∷ zs) (mark-append xs ys)

pub mark-both : (us vs xs ys : List (Piece Block)) → mark us ≡ mark vs → mark xs ≡ mark ys → mark (us ++ xs) ≡ mark (vs ++ ys)
mark-both us vs xs ys e f = mark-append us xs ∙ ap₂ (λ ps qs. ps ++ qs) e f ∙ sym (mark-append vs ys)

pub mark-operations : (xs ys : List Item) → length xs ≡ length ys → mark (map Operation xs) ≡ mark (map Operation ys)
mark-operations [] [] e = refl
mark-operations [] (y ∷ ys) e = absurd (omega (arith, e))
mark-operations (x ∷ xs) [] e = absurd (omega (arith, e))
mark-operations (x ∷ xs) (y ∷ ys) e = ap (λ zs. Operation (plain_item Noop) ∷ zs) (mark-operations xs ys (omega (arith, e)))

pub mark-times : (n : ℕ) (xs ys : List (Piece Block)) → mark xs ≡ mark ys → mark (times n xs) ≡ mark (times n ys)
mark-times zero xs ys e = refl
mark-times (suc n) xs ys e = mark-both xs ys (times n xs) (times n ys) e (mark-times n xs ys e)

pub mark-locals : (n : ℕ) (xs ys : List (Piece Block)) → mark xs ≡ mark ys → mark (with_locals n xs) ≡ mark (with_locals n ys)
mark-locals zero xs ys e = e
mark-locals (suc n) xs ys e = ap (λ zs. Operation (plain_item Noop) ∷ Operation (plain_item Noop) ∷ zs) (mark-both xs ys _ _ e refl)
