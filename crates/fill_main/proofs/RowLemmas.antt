-- A row is laid out part by part.
use Rattle.std.proofs.Common.{◌≡◌, ℕ, ◌+◌, ◌==◌, List, [], ◌∷◌, ◌++◌, length, take, slice_index, refl, sym, ap, ap₂, ◌∙◌}
use Rattle.std.proofs.Math.Seq.{take-length}
use Rattle.vm_field.specs.Field.{felt_inv}
use Rattle.vm_field.specs.Signs.{◌⊟◌}
use Rattle.vm_ops.specs.Codes.{is_ordinary_op}
use Rattle.vm_ops.specs.Values.{bit_of}
use Rattle.complete_rows.specs.Lines.{Line, code_bit, laid_out}
use Rattle.fill_requests.specs.Parts.{eight_of, four_of, sixteen_of, ten_of}

abbrev state_part : Line → List ℕ
state_part l =
    l.seen.clock ∷ l.seen.fmp ∷ l.seen.context ∷ bit_of l.seen.in_syscall
    ∷ slice_index l.seen.digest 0 ∷ slice_index l.seen.digest 1 ∷ slice_index l.seen.digest 2 ∷ slice_index l.seen.digest 3 ∷ []

abbrev block_part : Line → List ℕ
block_part l =
    l.address ∷ code_bit l.op 0 ∷ code_bit l.op 1 ∷ code_bit l.op 2 ∷ code_bit l.op 3 ∷ code_bit l.op 4 ∷ code_bit l.op 5 ∷ code_bit l.op 6 ∷ []

abbrev hash_part : Line → List ℕ
hash_part l =
    eight_of l.hash

abbrev batch_part : Line → List ℕ
batch_part l =
    bit_of (is_ordinary_op l.op) ∷ l.left ∷ l.place
    ∷ bit_of (l.in_use == 8) ∷ bit_of (l.in_use == 4) ∷ bit_of (l.in_use == 2) ∷ []

abbrev cells_part : Line → List ℕ
cells_part l =
    sixteen_of l.seen.cells

abbrev depth_part : Line → List ℕ
depth_part l =
    l.seen.depth ∷ l.key ∷ felt_inv (l.seen.depth ⊟ 16) ∷ l.ha ∷ l.seen.nesting ∷ []

abbrev witness_part : Line → List ℕ
witness_part l =
    four_of l.witnesses

abbrev limb_part : Line → List ℕ
limb_part l =
    ten_of l.limbs

laid : (l : Line)
    → ((((((([] ++ state_part l) ++ block_part l) ++ hash_part l) ++ batch_part l) ++ cells_part l) ++ depth_part l) ++ witness_part l)
    ++ limb_part l ≡ laid_out l
unfolding laid_out
laid l = refl

-- a part more, written behind those that fill the row up to a place
more : (place : ℕ) (row new before cells part : List ℕ) → take place row ≡ before
    → take (place + length cells) new ≡ take place row ++ cells
    → cells ≡ part
    → take (place + length part) new ≡ before ++ part
more place row new before cells part same written is =
    ap (λ (ys : List ℕ). take (place + length ys) new) (sym is) ∙ written ∙ ap₂ (λ (xs ys : List ℕ). xs ++ ys) same is

pub row-laid : (l : Line) (r1 r2 r3 r4 r5 r6 r7 r8 a b c d e f g h : List ℕ)
    → take (0 + length a) r1 ≡ a
    → take (8 + length b) r2 ≡ take 8 r1 ++ b
    → take (16 + length c) r3 ≡ take 16 r2 ++ c
    → take (24 + length d) r4 ≡ take 24 r3 ++ d
    → take (30 + length e) r5 ≡ take 30 r4 ++ e
    → take (46 + length f) r6 ≡ take 46 r5 ++ f
    → take (51 + length g) r7 ≡ take 51 r6 ++ g
    → take (55 + length h) r8 ≡ take 55 r7 ++ h
    → length r8 ≡ 65
    → a ≡ state_part l
    → b ≡ block_part l
    → c ≡ hash_part l
    → d ≡ batch_part l
    → e ≡ cells_part l
    → f ≡ depth_part l
    → g ≡ witness_part l
    → h ≡ limb_part l
    → r8 ≡ laid_out l
row-laid l r1 r2 r3 r4 r5 r6 r7 r8 a b c d e f g h e1 e2 e3 e4 e5 e6 e7 e8 whole ea eb ec ed ee ef eg eh =
    let j1 = more 0 [] r1 [] a _ refl e1 ea in
    let j2 = more 8 r1 r2 _ b _ j1 e2 eb in
    let j3 = more 16 r2 r3 _ c _ j2 e3 ec in
    let j4 = more 24 r3 r4 _ d _ j3 e4 ed in
    let j5 = more 30 r4 r5 _ e _ j4 e5 ee in
    let j6 = more 46 r5 r6 _ f _ j5 e6 ef in
    let j7 = more 51 r6 r7 _ g _ j6 e7 eg in
    let j8 = more 55 r7 r8 _ h _ j7 e8 eh in
    sym (take-length r8) ∙ ap (λ (n : ℕ). take n r8) whole ∙ j8 ∙ laid l
