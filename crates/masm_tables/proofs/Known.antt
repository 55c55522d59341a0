-- Tables of sizes and lists, as they are filled.
use Rattle.masm_tables.proofs.Words.{◌≡◌, ◌≢◌, ℕ, zero, suc, ◌+◌, ◌<◌, Bool, true, false, List, [], ◌∷◌, length, get_or, set, take, slice_get, Option, Some}
use Rattle.masm_tables.proofs.Words.{◌⊎◌, inl, inr, refl, sym, ap, subst, ◌∙◌, unwrap_or, Vec, Global, arith, eqb_tells, take_more, length-map, same_Some}
use Rattle.masm_tables.proofs.Words.{slice_get_read, Contains, AllByRecursion, option_map, tree_of, tree_digest, Position, Proc, Procedure, Source}
use Rattle.masm_tables.proofs.Words.{procedure_of, source_of, mapped, Names, place_at, IsClosed, IsUseOrder, dynexecs_of, first_place, KernelProc, Block}
use Rattle.masm_tables.proofs.Words.{as_tree, whole, flat_with, Extent, list_at, digest_at, dispatch_in, lists_known, size_at, sizes_known, Outside, ListOf}
use Rattle.masm_tables.proofs.Words.{own, IsList, with_locals, block_digest, as_extent, size_of, extent, nothing, size_view, procedure_size, pieces_of}
use Rattle.masm_tables.proofs.Words.{dynexecs_only, got_other, UsesOnly, AreExports, AreKnown, AreSizes, IsListAt, IsDigestAt, IsDispatch, Puts}
use Rattle.std.proofs.lemmas.List.Elements.{Contains-push_cases}
use Rattle.block_tree.specs.declared.tree.Tree as code
use Rattle.block_tree.specs.Trees as trees
use Rattle.vm_field.specs.Limits.{number_of_constants}
use Rattle.vm_field.specs.Machine.{zero_word}
use Rattle.masm_tree.specs.declared.tree.Ast.{Ast}
use Rattle.masm_expand.specs.Expansion.{lit}
use Rattle.vm_ops.specs.declared.op.Op.TheVariants.{FmpUpdate}
use Rattle.vm_ops.specs.Items.{plain_item}
use Rattle.masm_uses.specs.Plans.{NeedsIn}
use Rattle.masm_flat.specs.declared.piece.Piece as piece
use Rattle.masm_size.specs.declared.shape.Size as shape
use Rattle.masm_flat.specs.Blocks.{Piece, Operation, block_of, seen_as, seen_pieces}
use Rattle.masm_flat.proofs.Flattened.{Fits, flat-is, seen-append, seen-block}
use Rattle.masm_size.proofs.Sized.{SizesFit, HasOperations, procedure-sized}
use Rattle.masm_tables.proofs.Dispatches.{IsDispatchExtent}
use Rattle.masm_tables.proofs.Got.{got_same}
use Rattle.masm_tables.proofs.Put.{put_cases}
use Rattle.masm_tables.proofs.Closed.{Behind, uses_behind, uses_held}
use Rattle.masm_tables.proofs.Finding.{procedure_found, export_found}

-- one more place of a table
known_more : {T : Type 0} (source : Source) (out : Outside) (value : List (Piece Block) → T) (order : List ℕ)
    (k : ℕ) (old new : ℕ → T)
    → k < length order → AreKnown source out value (take k order) old → ((q : ℕ) → q ≢ get_or order k 0 → new q ≡ old q)
    → ((p : Procedure) (pieces : List (Piece Block)) → slice_get source.procs (get_or order k 0) ≡ Some p → IsList source out p.locals p.body pieces
    → new (get_or order k 0) ≡ value (with_locals p.locals pieces))
    → AreKnown source out value (take (k + 1) order) new
known_more source out value order k old new below known other here place p pieces has is d = elim (eqb_tells place (get_or order k 0)) [
  | inl same ↦ ap new same.1 ∙ here p pieces (sym (ap (slice_get source.procs) same.1) ∙ is) d
  | inr apart ↦
      other place apart.1
      ∙ known place p pieces (elim (Contains-push_cases (take k order) (get_or order k 0) place (subst (λ xs. Contains xs place)
      (take_more order k 0 below) has)) [
        | inl before ↦ before
        | inr this ↦ absurd (apart.1 (sym this))
      ]) is d
]

seen_locals : (n : ℕ) (xs : List (Piece Block)) → with_locals n (seen_pieces (seen_as as_tree) xs) ≡ seen_pieces (seen_as as_tree) (with_locals n xs)
seen_locals zero xs = refl
seen_locals (suc n) xs = ap (λ ys. Operation (lit (suc n)) ∷ Operation (plain_item FmpUpdate) ∷ ys) (sym (seen-append as_tree xs _))

pub all_at : {X : Type 0} (P : X → Type 0) (xs : List X) (k : ℕ) (x : X) → AllByRecursion P xs → slice_get xs k ≡ Some x → P x
all_at P [] k x h e = cc
all_at P (y ∷ xs) zero x h e = subst P (same_Some y x e) h.0
all_at P (y ∷ xs) (suc k) x h e = all_at P xs k x h.1 e

-- the procedure that is read at a place
pub read_here : (ast : Ast) (place : ℕ) (p : Proc) → place < length (source_of ast).procs → p ≡ get_or ast.procs.items place p
    → slice_get (source_of ast).procs place ≡ Some (procedure_of p)
read_here ast place p within is =
    let count = length-map ast.procs.items procedure_of in
    mapped procedure_of ast.procs.items place p (slice_get_read ast.procs.items (length ast.procs.items) place p refl (omega arith) is)

module _ (source : Source) (out : Outside) (kernel : List KernelProc) (are : AreExports out.exports kernel)
    (names : Names) (places : (name : List ℕ) → place_at names name ≡ first_place source.procs name) where
  -- what a table tells of procedures by their places it tells by their names
  by_name : {T : Type 0} (value : List (Piece Block) → T) (table : Option ℕ → T) {Done : ℕ → Type 0}
      → ((q : ℕ) → Done q → (p : Procedure) (ys : List (Piece Block)) → slice_get source.procs q ≡ Some p → IsList source out p.locals p.body ys
      → table (Some q) ≡ value (with_locals p.locals ys))
      → (name : List ℕ) (ys : List (Piece Block)) → Behind source.procs Done name → ListOf source out name ys
      → table (place_at names name) ≡ value ys
  by_name value table known name _ behind (own _ {p} {ys} found d) =
      let q = procedure_found source.procs name behind.0 behind.1 in
      ap table (places name ∙ behind.1) ∙ known behind.0 behind.2 p ys (q.1 ∙ ap Some (same_Some q.0 p (sym q.2 ∙ found))) d

  pub has_operations : HasOperations out.exports
  has_operations name block found = (export_found out.exports kernel are name block found).some

  -- a table of sizes tells the sizes by the names
  pub sizes_fit : (done : List ℕ) (sizes : List shape.Size) (dispatch : Extent) → AreSizes source out done sizes
      → SizesFit source out (Behind source.procs (Contains done)) (IsDispatchExtent source out dispatch) (sizes_known names sizes dispatch kernel)
  sizes_fit done sizes dispatch known = record {
    size = by_name (λ pieces. size_of (seen_pieces (seen_as as_extent) pieces)) (size_at sizes) (λ q has p ys is d. known q p ys has is d);
    exported = λ name block found.
        let e = export_found out.exports kernel are name block found in
        ap (λ o. unwrap_or (option_map (λ (p : KernelProc). p.extent) o) (extent 1 1)) e.found ∙ e.extent;
    dispatch = λ blocks is ds. is blocks ds;
  }

  -- tables of lists and of digests tell them by the names
  module _ (Held Known : ℕ → Type 0) (lists : List (Vec piece.Piece Global)) (digests : List (List ℕ)) (dispatch : Option code.Tree)
      (held : (q : ℕ) → Held q → IsListAt source out lists q) (known : (q : ℕ) → Known q → IsDigestAt source out digests q) where
    lists_fit : Fits as_tree source out (Behind source.procs Held) (Behind source.procs Known) (IsDispatch source out (dispatch_in dispatch))
        (lists_known names lists digests dispatch kernel)
    lists_fit = record {
      list = by_name (seen_pieces (seen_as as_tree)) (list_at lists) held;
      digest = by_name (λ ys. block_digest out.constants (block_of ys)) (digest_at digests) known;
      exported = λ name block found.
          let e = export_found out.exports kernel are name block found in
          ap (λ o. unwrap_or (option_map (λ (p : KernelProc). tree_of p.tree) o) (trees.Opaque zero_word)) e.found ∙ e.tree;
      dispatch = λ blocks is ds. is blocks ds;
    }

    -- the list of a procedure with its locals, where that of its body is known
    pub listed-is : (p : Procedure) (xs : List (Piece Block)) → IsList source out p.locals p.body xs
        → UsesOnly (Behind source.procs Held) (Behind source.procs Known) p.body
        → ((at : Position) → Contains (dynexecs_of p.body) at → IsDispatch source out (dispatch_in dispatch))
        → with_locals p.locals (flat_with as_tree (lists_known names lists digests dispatch kernel) p.locals p.body)
        ≡ seen_pieces (seen_as as_tree) (with_locals p.locals xs)
    listed-is p xs d of asked =
        let D = IsDispatch source out (dispatch_in dispatch) in
        ap (with_locals p.locals)
        (flat-is as_tree (Behind source.procs Held) (Behind source.procs Known) D (lists_known names lists digests dispatch kernel) lists_fit d of
        (dynexecs_only D p.body asked))
        ∙ seen_locals p.locals xs

  module _ (count : length out.constants ≡ number_of_constants) (closed_names : List (List ℕ)) (closed : IsClosed source closed_names)
      (order : List ℕ) (is : IsUseOrder source order) where
    pub sizes_more : (k : ℕ) (p : Procedure) (old new : List shape.Size) (size : shape.Size) (dispatch : Extent) → k < length order
        → slice_get source.procs (get_or order k 0) ≡ Some p → AreSizes source out (take k order) old
        → new ≡ set old (get_or order k 0) size → get_or order k 0 < length old
        → size_view size ≡ procedure_size (sizes_known names old dispatch kernel) p.locals p.body
        → ((at : Position) → Contains (dynexecs_of p.body) at → IsDispatchExtent source out dispatch) → AreSizes source out (take (k + 1) order) new
    sizes_more k p old new size dispatch below here known sets within is_size asked =
        let D = IsDispatchExtent source out dispatch in
        known_more source out (λ pieces. size_of (seen_pieces (seen_as as_extent) pieces)) order k (λ q. size_at old (Some q))
        (λ q. size_at new (Some q)) below known
        (λ q apart. ap (λ o. unwrap_or (option_map size_view o) nothing)
        (ap (λ xs. slice_get xs q) sets ∙ got_other old (get_or order k 0) q size apart))
        (λ q pieces there d.
        let same : p ≡ q = same_Some p q (sym here ∙ there) in
        let d' = subst (λ r. IsList source out r.locals r.body pieces) (sym same) d in
        ap (λ o. unwrap_or (option_map size_view o) nothing)
        (ap (λ xs. slice_get xs (get_or order k 0)) sets ∙ got_same old (get_or order k 0) size within)
        ∙ (is_size
        ∙ (procedure-sized has_operations count (Behind source.procs (Contains (take k order))) (Behind source.procs (Contains (take k order)))
        D (sizes_known names old dispatch kernel) (sizes_fit (take k order) old dispatch known) p pieces d'
        (uses_behind source closed_names closed order is k p below here) (dynexecs_only D p.body asked)
        ∙ ap (λ r. size_of (seen_pieces (seen_as as_extent) (with_locals r.locals pieces))) same)))

  -- A step of a plan: a list is built where the lists and digests that it needs are kept.
  module _ (closed_names : List (List ℕ)) (closed : IsClosed source closed_names) (place : ℕ) (p : Procedure)
      (here : slice_get source.procs place ≡ Some p) (lists : List (Vec piece.Piece Global)) (digests : List (List ℕ)) (dispatch : Option code.Tree)
      (needs : (q : ℕ) → NeedsIn source.procs false place q → IsListAt source out lists q)
      (refers : (q : ℕ) → NeedsIn source.procs true place q → IsDigestAt source out digests q)
      (asked : (at : Position) → Contains (dynexecs_of p.body) at → IsDispatch source out (dispatch_in dispatch)) where
    abbrev built : List (Piece trees.Tree)
    built = with_locals p.locals (flat_with as_tree (lists_known names lists digests dispatch kernel) p.locals p.body)

    pub built-is : (q : Procedure) (pieces : List (Piece Block)) → slice_get source.procs place ≡ Some q
        → IsList source out q.locals q.body pieces → built ≡ seen_pieces (seen_as as_tree) (with_locals q.locals pieces)
    built-is q pieces there d =
        let same : p ≡ q = same_Some p q (sym here ∙ there) in
        let d' = subst (λ r. IsList source out r.locals r.body pieces) (sym same) d in
        listed-is (IsListAt source out lists) (IsDigestAt source out digests) lists digests dispatch (λ r held. held) (λ r known. known)
        p pieces d'
        (uses_held source closed_names closed (IsListAt source out lists) (IsDigestAt source out digests) place p here needs refers) asked
        ∙ ap (λ r. seen_pieces (seen_as as_tree) (with_locals r.locals pieces)) same

-- A table behind a step that puts something at its place, or nothing.
module _ (source : Source) (out : Outside) (place : ℕ) {X T : Type 0} (table : Option X → T) (value : List (Piece Block) → T) where
  abbrev Tells : List X → ℕ → Type 0
  Tells xs q =
      (p : Procedure) (pieces : List (Piece Block)) → slice_get source.procs q ≡ Some p → IsList source out p.locals p.body pieces
      → table (slice_get xs q) ≡ value (with_locals p.locals pieces)

  pub table_step : {old new : List X} {wanted : Bool} {Is : X → Type 0} {Stays : ℕ → Type 0} → Puts wanted place Is Stays old new
      → ((x : X) → Is x → (p : Procedure) (pieces : List (Piece Block)) → slice_get source.procs place ≡ Some p
      → IsList source out p.locals p.body pieces → table (Some x) ≡ value (with_locals p.locals pieces))
      → (q : ℕ) → Stays q → Tells old q ⊎ ((q ≡ place) × (wanted ≡ true)) → Tells new q
  table_step {old = old} {new = new} {wanted = wanted} puts made q stays was = elim was [
    | inl known ↦ elim (put_cases puts q stays) [ inl same ↦ λ p pieces is d. ap table same ∙ known p pieces is d | inr at ↦ here at ]
    | inr at ↦ here at
  ]
    where
      here : (q ≡ place) × (wanted ≡ true) → Tells new q
      here at =
          let put = puts.put at.1 in
          subst (Tells new) (sym at.0) (λ p pieces is d. ap table put.1 ∙ made put.0 put.2 p pieces is d)

-- the same where the list of the step's procedure is put there, or the digest of its tree
module _ (source : Source) (out : Outside) (place : ℕ) (built : List (Piece trees.Tree))
    (is_built : (p : Procedure) (pieces : List (Piece Block)) → slice_get source.procs place ≡ Some p → IsList source out p.locals p.body pieces
    → built ≡ seen_pieces (seen_as as_tree) (with_locals p.locals pieces)) where
  pub list_step : {old new : List (Vec piece.Piece Global)} {wanted : Bool} {Stays : ℕ → Type 0}
      → Puts wanted place (λ (list : Vec piece.Piece Global). pieces_of list.items ≡ built) Stays old new
      → (q : ℕ) → Stays q → IsListAt source out old q ⊎ ((q ≡ place) × (wanted ≡ true)) → IsListAt source out new q
  list_step puts =
      table_step source out place (λ o. unwrap_or (option_map (λ (v : Vec piece.Piece Global). pieces_of v.items) o) [])
      (seen_pieces (seen_as as_tree)) puts (λ list is p pieces there d. is ∙ is_built p pieces there d)

  pub digest_step : {old new : List (List ℕ)} {wanted : Bool} {Stays : ℕ → Type 0}
      → Puts wanted place (λ digest. digest ≡ tree_digest out.constants (whole as_tree built)) Stays old new
      → (q : ℕ) → Stays q → IsDigestAt source out old q ⊎ ((q ≡ place) × (wanted ≡ true)) → IsDigestAt source out new q
  digest_step puts =
      table_step source out place (λ o. unwrap_or o zero_word) (λ ys. block_digest out.constants (block_of ys)) puts
      (λ digest is p pieces there d. is ∙ ap (tree_digest out.constants) (ap (whole as_tree) (is_built p pieces there d)
      ∙ sym (seen-block as_tree (with_locals p.locals pieces))))
