-- The size of a body that has a list is that of the list, where the sizes of the procedures that it uses are.
use Rattle.std.proofs.Common.{◌≡◌, ℕ, zero, suc, ◌-◌, ◌≤◌, min, List, [], ◌∷◌, ◌++◌, length, map, sum, Some, refl, sym, ap, ap₂, subst, ◌∙◌, append_assoc, arith}
use Rattle.std.proofs.lemmas.List.{append-nil}
use Rattle.vm_ops.specs.declared.item.Item.{Item}
use Rattle.vm_field.specs.Field.{prime}
use Rattle.vm_field.specs.Limits.{number_of_constants}
use Rattle.vm_ops.specs.declared.op.Op.TheVariants.{FmpUpdate}
use Rattle.vm_ops.specs.Items.{plain_item}
use Rattle.masm_expand.specs.Expansion.{lit, expansion}
use Rattle.masm_tree.specs.Trees.{Body, Procedure, Source}
use Rattle.masm_flat.specs.declared.extent.Extent.{Extent}
use Rattle.masm_flat.specs.Blocks.{Block, Blocks, Span, Join, Split, Loop, Call, Syscall, Dyn, no_block, block_before, Piece, Operation, Whole, seen_as, seen_all, seen_pieces, block_of, blocks_from, as_operations, as_height, greatest}
use Rattle.masm_flat.specs.Lists.{Exported, Outside, ListOf, own, ListsOf, IsList, nothing, instr, exec, call, procref, syscall, dynexec, branches, loops, repeated, first_export, times, with_locals, block_digest, digest_items}
use Rattle.masm_flat.proofs.Digests.{four-items}
use Rattle.masm_flat.proofs.DynamicBodies.{DynexecsOnly}
use Rattle.masm_size.specs.Sizes.{Size, as_extent, size_of, run_of, both, times_size, extent_of, block_size, Known_sizes, size_onto, procedure_size}
use Rattle.masm_flat.proofs.Flattened.{seen-block, seen-append, seen-operations, seen-times}
use Rattle.masm_names.proofs.UsesOnly.{UsesOnly}
use Rattle.masm_names.specs.Uses.{target_names}
use Rattle.masm_size.proofs.Dispatches.{sum-cons}
use Rattle.masm_size.proofs.SizeLaws.{size-append, size-block, size-run, size-copies, IsSolid, IsSome_size, operations-whole, Agree, extent-whole, block-agree, block-over, block-over_two}

-- the extent of a block is its operations and its height, each up to a limit
abbrev IsTold : Block → Type 0
IsTold b =
    ((seen_as as_extent b).operations ≡ min (seen_as as_operations b) 524289) × ((seen_as as_extent b).height ≡ min (seen_as as_height b) 1025)

mutual
  told : (b : Block) → IsTold b
  told (Span items) = (refl, refl)
  told (Join a b) = let first = told a in let second = told b in (omega arith, omega arith)
  told (Split a b) = let first = told a in let second = told b in (omega arith, omega arith)
  told (Loop a) = let inner = told a in (omega arith, omega arith)
  told (Call a) = let inner = told a in (omega arith, omega arith)
  told (Syscall a) = let inner = told a in (omega arith, omega arith)
  told (Dyn targets) = let all = all_told targets in (omega arith, omega arith)

  all_told : (bs : Blocks)
      → (min (sum (map (λ (e : Extent). e.operations) (seen_all as_extent bs))) 524289 ≡ min (sum (seen_all as_operations bs)) 524289)
      × (min (greatest (map (λ (e : Extent). e.height) (seen_all as_extent bs))) 1025 ≡ min (greatest (seen_all as_height bs)) 1025)
  all_told no_block = (refl, refl)
  all_told (block_before first more) =
      let extents = sum-cons (seen_as as_extent first).operations (map (λ (e : Extent). e.operations) (seen_all as_extent more)) in
      let counts = sum-cons (seen_as as_operations first) (seen_all as_operations more) in
      let here = told first in
      let rest = all_told more in
      (omega arith, omega arith)

pub operations-block : (b : Block) → (seen_as as_extent b).operations ≡ min (seen_as as_operations b) 524289
operations-block b = (told b).0

pub height-block : (b : Block) → (seen_as as_extent b).height ≡ min (seen_as as_height b) 1025
height-block b = (told b).1

abbrev pub seen : List (Piece Block) → List (Piece Extent)
seen pieces = seen_pieces (seen_as as_extent) pieces

solid-append : (xs ys : List (Piece Extent)) → IsSolid xs → IsSolid ys → IsSolid (xs ++ ys)
solid-append [] ys h k = k
solid-append (Operation item ∷ xs) ys h k = solid-append xs ys h k
solid-append (Whole e ∷ xs) ys h k = (h.0, solid-append xs ys h.1 k)

solid-run : (items : List Item) → IsSolid (map Operation items)
solid-run [] = tt
solid-run (item ∷ items) = solid-run items

solid-times : (n : ℕ) (xs : List (Piece Extent)) → IsSolid xs → IsSolid (times n xs)
solid-times zero xs h = tt
solid-times (suc n) xs h = solid-append xs (times n xs) h (solid-times n xs h)

solid-run-before : (items : List Item) (xs : List (Piece Block)) → IsSolid (seen xs) → IsSolid (seen (map Operation items ++ xs))
solid-run-before items xs h =
    subst IsSolid (sym (seen-append as_extent (map Operation items) xs))
    (solid-append (seen (map Operation items)) (seen xs) (subst IsSolid (sym (seen-operations as_extent items)) (solid-run items)) h)

pub solid-locals : (n : ℕ) (xs : List (Piece Block)) → IsSolid (seen xs) → IsSolid (seen (with_locals n xs))
solid-locals zero xs h = h
solid-locals (suc n) xs h = subst IsSolid (sym (seen-append as_extent xs _)) (solid-append (seen xs) _ h tt)

pub some-whole : (xs : List (Piece Block)) → IsSolid (seen xs) → IsSome_size (seen_as as_extent (block_of xs))
some-whole xs h =
    let operations = ap (λ (e : Extent). e.operations) (seen-block as_extent xs) ∙ operations-whole (seen xs) h in
    (omega arith, omega arith, omega (arith, height-block (block_of xs)))

-- each block of the kernel has an operation
abbrev pub HasOperations : List Exported → Type 0
HasOperations kernel = (name : List ℕ) (block : Block) → first_export kernel name ≡ Some block → 1 ≤ seen_as as_operations block

module _ {source : Source} {out : Outside} (some : HasOperations out.exports) where
  mutual
    pub list-of-solid : {name : List ℕ} {ys : List (Piece Block)} → ListOf source out name ys → IsSolid (seen ys)
    list-of-solid (own name {p} {ys} found d) = solid-locals p.locals ys (list-solid d)

    pub list-solid : {locals : ℕ} {b : Body} {xs : List (Piece Block)} → IsList source out locals b xs → IsSolid (seen xs)
    list-solid nothing = tt
    list-solid {locals} (instr at i {xs} d) = solid-run-before (expansion i.name i.numbers locals) xs (list-solid d)
    list-solid (exec at name {ys} {xs} d f) =
        subst IsSolid (sym (seen-append as_extent ys xs)) (solid-append (seen ys) (seen xs) (list-of-solid d) (list-solid f))
    list-solid (call at name {ys} d f) =
        let whole = some-whole ys (list-of-solid d) in
        ((omega arith, omega arith, omega arith), list-solid f)
    list-solid (procref at name {ys} {xs} d f) = solid-run-before (digest_items (block_digest out.constants (block_of ys))) xs (list-solid f)
    list-solid (syscall at name {callee} found f) =
        let one = some name callee found in
        let is = operations-block callee in
        ((omega arith, omega arith, omega arith), list-solid f)
    list-solid (dynexec at ds f) = ((omega arith, omega arith, omega arith), list-solid f)
    list-solid (branches at {ys} {zs} a e f) =
        let first = some-whole ys (list-solid a) in
        let second = some-whole zs (list-solid e) in
        ((omega arith, omega arith, omega arith), list-solid f)
    list-solid (loops at {ys} d f) =
        let whole = some-whole ys (list-solid d) in
        ((omega arith, omega arith, omega arith), list-solid f)
    list-solid (repeated at n {ys} {xs} d f) =
        subst IsSolid (sym (seen-append as_extent (times n ys) xs))
        (solid-append (seen (times n ys)) (seen xs)
        (subst IsSolid (sym (seen-times as_extent n ys)) (solid-times n (seen ys) (list-solid d))) (list-solid f))

-- The given sizes are those of the lists of the source's procedures, the given extents those of the kernel's blocks, and that of
-- a dynexec's block is told by its targets.
pub record SizesFit (source : Source) (out : Outside) (P : List ℕ → Type 0) (D : Type 0) (known : Known_sizes) : Type 0 where
  pub size : (name : List ℕ) (ys : List (Piece Block)) → P name → ListOf source out name ys → known.size name ≡ size_of (seen ys)
  pub exported : (name : List ℕ) (block : Block) → first_export out.exports name ≡ Some block → known.exported name ≡ seen_as as_extent block
  pub dispatch : (lists : List (List (Piece Block))) → D → ListsOf source out (target_names source) lists
      → Agree known.dispatch (seen_as as_extent (Dyn (blocks_from (map block_of lists))))

module _ {source : Source} {out : Outside} (some : HasOperations out.exports) (count : length out.constants ≡ number_of_constants)
    (P R : List ℕ → Type 0) (D : Type 0) (known : Known_sizes) (fits : SizesFit source out P D known) where
  agree : {locals : ℕ} {b : Body} {xs : List (Piece Block)} → IsList source out locals b xs
      → Agree (extent_of (size_of (seen xs))) (seen_as as_extent (block_of xs))
  agree {xs} d = subst (Agree (extent_of (size_of (seen xs)))) (sym (seen-block as_extent xs)) (extent-whole (seen xs) (list-solid some d))

  agree-procedure : (name : List ℕ) (ys : List (Piece Block)) → P name → ListOf source out name ys
      → Agree (extent_of (known.size name)) (seen_as as_extent (block_of ys))
  agree-procedure name ys of d =
      subst (λ z. Agree (extent_of z) (seen_as as_extent (block_of ys))) (sym (fits.size name ys of d))
      (subst (Agree (extent_of (size_of (seen ys)))) (sym (seen-block as_extent ys)) (extent-whole (seen ys) (list-of-solid some d)))

  -- more behind a list, and the rest
  sized-more : (before more ys : List (Piece Extent)) (locals : ℕ) (b : Body) {z : Size} → z ≡ size_of more
      → size_onto known locals b (size_of (before ++ more)) ≡ size_of ((before ++ more) ++ ys)
      → size_onto known locals b (both (size_of before) z) ≡ size_of (before ++ (more ++ ys))
  sized-more before more ys locals b is rest =
      ap (size_onto known locals b) (ap (both (size_of before)) is ∙ sym (size-append before more)) ∙ rest ∙ ap size_of (append_assoc before more ys)

  -- the same for a block, for a run, and for another list
  sized-block : (before : List (Piece Extent)) (e f : Extent) (xs : List (Piece Block)) (locals : ℕ) (b : Body) → block_size f ≡ block_size e
      → size_onto known locals b (size_of (before ++ Whole e ∷ [])) ≡ size_of ((before ++ Whole e ∷ []) ++ seen xs)
      → size_onto known locals b (both (size_of before) (block_size f)) ≡ size_of (before ++ Whole e ∷ seen xs)
  sized-block before e f xs locals b same rest = sized-more before (Whole e ∷ []) (seen xs) locals b (same ∙ sym (size-block e)) rest

  sized-list : (before : List (Piece Extent)) (ys xs : List (Piece Block)) (more : List (Piece Extent)) (locals : ℕ) (b : Body) {z : Size}
      → seen ys ≡ more → z ≡ size_of more → size_onto known locals b (size_of (before ++ more)) ≡ size_of ((before ++ more) ++ seen xs)
      → size_onto known locals b (both (size_of before) z) ≡ size_of (before ++ seen (ys ++ xs))
  sized-list before ys xs more locals b are is rest =
      sized-more before more (seen xs) locals b is rest
      ∙ ap (λ zs. size_of (before ++ zs)) (ap (λ zs. zs ++ seen xs) (sym are) ∙ sym (seen-append as_extent ys xs))

  pub sized-is : (before : List (Piece Extent)) {locals : ℕ} {b : Body} {xs : List (Piece Block)} → IsList source out locals b xs
      → UsesOnly P R b → DynexecsOnly D b
      → size_onto known locals b (size_of before) ≡ size_of (before ++ seen xs)
  sized-is before nothing of on = ap size_of (sym (append-nil before))
  sized-is before {locals} (instr at i {b} {xs} d) of on =
      let items = expansion i.name i.numbers locals in
      sized-list before (map Operation items) xs (map Operation items) locals b (seen-operations as_extent items) (sym (size-run items)) (sized-is _ d of on)
  sized-is before {locals} (exec at name {b} {ys} {xs} d f) of on =
      sized-list before ys xs (seen ys) locals b refl (fits.size name ys of.0 d) (sized-is _ f of.1 on)
  sized-is before {locals} (call at name {b} {ys} {xs} d f) of on =
      let block = seen_as as_extent (block_of ys) in
      sized-block before (as_extent.call block) _ xs locals b (block-over (extent_of (known.size name)) block (agree-procedure name ys of.0 d))
      (sized-is _ f of.1 on)
  sized-is before {locals} (procref at name {b} {ys} {xs} d f) of on =
      let items = digest_items (block_digest out.constants (block_of ys)) in
      sized-list before (map Operation items) xs (map Operation items) locals b (seen-operations as_extent items)
      (ap run_of (sym (four-items out.constants (block_of ys) count)) ∙ sym (size-run items)) (sized-is _ f of.1 on)
  sized-is before {locals} (syscall at name {callee} {b} {xs} found f) of on =
      sized-block before (as_extent.syscall (seen_as as_extent callee)) _ xs locals b
      (ap (λ e. block_size (as_extent.syscall e)) (fits.exported name callee found)) (sized-is _ f of on)
  sized-is before {locals} (dynexec at {b} {lists} {xs} ds f) of on =
      let block = seen_as as_extent (Dyn (blocks_from (map block_of lists))) in
      sized-block before block _ xs locals b (block-agree known.dispatch block (fits.dispatch lists on.0 ds)) (sized-is _ f of on.1)
  sized-is before {locals} (branches at {a} {e} {b} {ys} {zs} {xs} d k f) of on =
      let first = seen_as as_extent (block_of ys) in
      let second = seen_as as_extent (block_of zs) in
      sized-block before (as_extent.split first second) _ xs locals b
      (ap₂ (λ u w. block_size (as_extent.split (extent_of u) (extent_of w))) (sized-is [] d of.0 on.0) (sized-is [] k of.1 on.1)
      ∙ block-over_two (extent_of (size_of (seen ys))) (extent_of (size_of (seen zs))) first second (agree d) (agree k)) (sized-is _ f of.2 on.2)
  sized-is before {locals} (loops at {a} {b} {ys} {xs} d f) of on =
      let turn = seen_as as_extent (block_of ys) in
      sized-block before (as_extent.loop turn) _ xs locals b
      (ap (λ u. block_size (as_extent.loop (extent_of u))) (sized-is [] d of.0 on.0)
      ∙ block-over (extent_of (size_of (seen ys))) turn (agree d)) (sized-is _ f of.1 on.1)
  sized-is before {locals} (repeated at n {a} {b} {ys} {xs} d f) of on =
      sized-list before (times n ys) xs (times n (seen ys)) locals b (seen-times as_extent n ys)
      (ap (times_size n) (sized-is [] d of.0 on.0) ∙ sym (size-copies n (seen ys))) (sized-is _ f of.1 on.1)

  locals-sized : (n : ℕ) (b : Body) (xs : List (Piece Block)) → IsList source out n b xs → UsesOnly P R b → DynexecsOnly D b
      → procedure_size known n b ≡ size_of (seen (with_locals n xs))
  locals-sized zero b xs d of on = sized-is [] d of on
  locals-sized (suc n) b xs d of on =
      let up : List Item = lit (suc n) ∷ plain_item FmpUpdate ∷ [] in
      let down : List Item = lit (prime - suc n) ∷ plain_item FmpUpdate ∷ [] in
      ap (λ z. both (size_onto known (suc n) b z) (run_of 2)) (ap (both (size_of [])) (sym (size-run up)) ∙ sym (size-append [] (map Operation up)))
      ∙ ap₂ both (sized-is (map Operation up) d of on) (sym (size-run down))
      ∙ sym (size-append (map Operation up ++ seen xs) (map Operation down))
      ∙ ap size_of (append_assoc (map Operation up) (seen xs) (map Operation down)
      ∙ ap (λ us. map Operation up ++ us) (sym (seen-append as_extent xs (map Operation down))))

  -- the size of a procedure's list
  pub procedure-sized : (p : Procedure) (xs : List (Piece Block)) → IsList source out p.locals p.body xs → UsesOnly P R p.body → DynexecsOnly D p.body
      → procedure_size known p.locals p.body ≡ size_of (seen (with_locals p.locals xs))
  procedure-sized p xs d of on = locals-sized p.locals p.body xs d of on
