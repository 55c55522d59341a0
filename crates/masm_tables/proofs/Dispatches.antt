-- The blocks that a dynexec may run, by the places of their procedures.
use Rattle.masm_tables.proofs.Words.{◌≡◌, ℕ, ◌<◌, Bool, true, List, [], ◌∷◌, length, map, Some, Vec, Global, inl, inr, refl, sym, ap, ap₂, subst, ◌∙◌}
use Rattle.masm_tables.proofs.Words.{slice_get, same_Some, All, AllByRecursion, AllZip, Contains, filter, Procedure, Source, IsClosed, Use, uses_of}
use Rattle.masm_tables.proofs.Words.{all_uses, bodies_of, each_once, target_names, first_place, IsTarget, cons_cases, cons_here, refs_are_own, all_in}
use Rattle.masm_tables.proofs.Words.{Extent, Block, as_tree, whole, dispatch_of, list_at, Outside, ListOf, own, IsList, ListsOf, no_list, list_before}
use Rattle.masm_tables.proofs.Words.{with_locals, seen-targets, dispatch_extent, size_at, as_extent, extent_of, size_of, AreSizes, IsListAt, IsDispatch}
use Rattle.std.proofs.lemmas.List.Elements.{All-contains, All-contains_itself, All-filter, All-from_recursion, Contains-append_right, filter_passes}
use Rattle.block_tree.specs.Trees as trees
use Rattle.masm_flat.specs.declared.piece.Piece as piece
use Rattle.masm_flat.specs.Blocks.{Dyn, Piece, block_of, blocks_from, seen_as, seen_pieces}
use Rattle.masm_flat.proofs.Flattened.{seen-block}
use Rattle.masm_size.specs.declared.shape.Size as shape
use Rattle.masm_size.proofs.Dispatches.{agree-dyn}
use Rattle.masm_size.proofs.SizeLaws.{Agree, extent-whole}
use Rattle.masm_size.proofs.Sized.{HasOperations, list-solid, solid-locals}
use Rattle.masm_uses.proofs.UsedLemmas.{procedure_within, unmapped_in}
use Rattle.masm_tables.proofs.Closed.{own_leads}
use Rattle.masm_tables.proofs.Finding.{procedure_found}

-- the names that procrefs give

filtered : {X : Type 0} (p : X → Bool) (xs : List X) (x : X) → Contains (filter p xs) x → Contains xs x × (p x ≡ true)
filtered p xs x has = (
  All-contains (Contains xs) (filter p xs) x (All-filter p (Contains xs) xs (All-contains_itself xs)) has,
  All-contains (λ y. p y ≡ true) (filter p xs) x (filter_passes p xs) has,
)

once_in : (names : List (List ℕ)) (name : List ℕ) → Contains (each_once names) name → Contains names name
once_in [] name has = has
once_in (n ∷ names) name has = elim (cons_cases n _ name has) [
  | inl is ↦ subst (Contains (n ∷ names)) is (cons_here n names)
  | inr later ↦ Contains-append_right (n ∷ []) names name (once_in names name (filtered _ (each_once names) name later).0)
]

zip_same : {X : Type 0} (xs ys : List X) → AllZip (λ x y. x ≡ y) xs ys → xs ≡ ys
zip_same [] [] same = refl
zip_same [] (y ∷ ys) same = absurd same
zip_same (x ∷ xs) [] same = absurd same
zip_same (x ∷ xs) (y ∷ ys) same = ap₂ (λ z zs. z ∷ zs) same.0 (zip_same xs ys same.1)

-- this is told of the extent of a dynexec's block
abbrev pub IsDispatchExtent : Source → Outside → Extent → Type 0
IsDispatchExtent source out e =
    (lists : List (List (Piece Block))) → ListsOf source out (target_names source) lists
    → Agree e (seen_as as_extent (Dyn (blocks_from (map block_of lists))))

module _ (source : Source) where
  abbrev IsTargetName : List ℕ → Type 0
  IsTargetName name = (u : Use) × Contains (all_uses source) u × (u.refers ≡ true) × (u.name ≡ name)

  target_named : (name : List ℕ) → Contains (target_names source) name → IsTargetName name
  target_named name has =
      let refers = filter (λ (u : Use). u.refers) (all_uses source) in
      let found = unmapped_in (λ (u : Use). u.name) refers name (once_in (map (λ (u : Use). u.name) refers) name has) in
      let kept = filtered (λ (u : Use). u.refers) (all_uses source) found.0 found.1 in
      (found.0, kept.0, kept.1, sym found.2)

  target_at : (name : List ℕ) (j : ℕ) → IsTargetName name → first_place source.procs name ≡ Some j → IsTarget source j
  target_at name j is there =
      record { by = is.0; among = is.1; refers = is.2; named = ap (first_place source.procs) is.3 ∙ there }

  -- each of them leads to a procedure
  pub target_leads : (names : List (List ℕ)) → IsClosed source names → (name : List ℕ) → Contains (target_names source) name
      → (j : ℕ) × (first_place source.procs name ≡ Some j) × IsTarget source j
  target_leads names closed name has =
      let is = target_named name has in
      let body = all_in (λ (p : Procedure). uses_of p.body) (bodies_of source) is.0 is.1 in
      let leads = own_leads source names closed is.0 is.1 (refs_are_own body.1.body is.0 body.3 is.2) in
      let there = ap (first_place source.procs) (sym is.3) ∙ leads.1 in
      (leads.0, there, target_at name leads.0 is there)

  pub target_within : (j : ℕ) → IsTarget source j → j < length source.procs
  target_within j target = procedure_within source.procs target.by.name j target.named

  -- the places of targets, and what is told of them, place by place
  module _ (targets : List ℕ) (same : map Some targets ≡ map (first_place source.procs) (target_names source)) where
    below_names : (names : List (List ℕ)) (places : List ℕ) → map Some places ≡ map (first_place source.procs) names
        → AllByRecursion (λ j. j < length source.procs) places
    below_names names [] is = tt
    below_names [] (j ∷ places) is = cc
    below_names (name ∷ names) (j ∷ places) is =
        let there : first_place source.procs name ≡ Some j = cc in
        let rest : map Some places ≡ map (first_place source.procs) names = cc in
        (procedure_within source.procs name j there, below_names names places rest)

    pub targets_below : All (λ j. j < length source.procs) targets
    targets_below = All-from_recursion (λ j. j < length source.procs) targets (below_names (target_names source) targets same)

    module _ (out : Outside) {X Y : Type 0} (f : ℕ → X) (g : List (Piece Block) → Y) (R : X → Y → Type 0)
        (each : (j : ℕ) (p : Procedure) (ys : List (Piece Block)) → IsTarget source j → slice_get source.procs j ≡ Some p
        → IsList source out p.locals p.body ys → R (f j) (g (with_locals p.locals ys))) where
      named : (j : ℕ) (name : List ℕ) (ys : List (Piece Block)) → IsTarget source j → first_place source.procs name ≡ Some j
          → ListOf source out name ys → R (f j) (g ys)
      named j name _ target there (own _ {p} {ys} found d) =
          let q = procedure_found source.procs name j there in
          each j p ys target (q.1 ∙ ap Some (same_Some q.0 p (sym q.2 ∙ found))) d

      zip_names : (names : List (List ℕ)) → ((name : List ℕ) → Contains names name → IsTargetName name) → (places : List ℕ)
          → map Some places ≡ map (first_place source.procs) names → {lists : List (List (Piece Block))} → ListsOf source out names lists
          → AllZip R (map f places) (map g lists)
      zip_names _ asked [] is no_list = tt
      zip_names _ asked (j ∷ places) is no_list = cc
      zip_names _ asked [] is (list_before name d ds) = cc
      zip_names _ asked (j ∷ places) is (list_before name {names} {ys} d ds) =
          let there : first_place source.procs name ≡ Some j = cc in
          let rest : map Some places ≡ map (first_place source.procs) names = cc in
          let here = asked name (cons_here name names) in (
            named j name ys (target_at name j here there) there d,
            zip_names names (λ n has. asked n (Contains-append_right (name ∷ []) names n has)) places rest ds,
          )

      pub zip_targets : {lists : List (List (Piece Block))} → ListsOf source out (target_names source) lists → AllZip R (map f targets) (map g lists)
      zip_targets ds = zip_names (target_names source) target_named targets same ds

    -- the tree of a dynexec, where the lists of all targets are held
    pub dispatch_is : (out : Outside) (lists : List (Vec piece.Piece Global)) → ((j : ℕ) → IsTarget source j → IsListAt source out lists j)
        → IsDispatch source out (dispatch_of lists targets)
    dispatch_is out lists held blocks ds =
        ap (λ ts. trees.Dyn (trees.targets_from ts))
        (zip_same _ _ (zip_targets out (λ j. whole as_tree (list_at lists (Some j))) (λ ys. seen_as as_tree (block_of ys)) (λ t u. t ≡ u)
        (λ j p ys target is d. ap (whole as_tree) (held j target p ys is d) ∙ sym (seen-block as_tree (with_locals p.locals ys))) ds)
        ∙ sym (seen-targets as_tree blocks))

    -- the extent of a dynexec's block, where the sizes of all targets are known
    pub dispatch_extent_is : (out : Outside) → HasOperations out.exports → (done : List ℕ) (sizes : List shape.Size) → AreSizes source out done sizes
        → ((j : ℕ) → IsTarget source j → Contains done j) → IsDispatchExtent source out (dispatch_extent sizes targets)
    dispatch_extent_is out some done sizes known among blocks ds =
        subst (λ es. Agree (dispatch_extent sizes targets) (as_extent.dyn es)) (sym (seen-targets as_extent blocks))
        (agree-dyn (map (λ j. extent_of (size_at sizes (Some j))) targets) (map (λ ys. seen_as as_extent (block_of ys)) blocks)
        (zip_targets out (λ j. extent_of (size_at sizes (Some j))) (λ ys. seen_as as_extent (block_of ys)) Agree each ds))
      where
        each : (j : ℕ) (p : Procedure) (ys : List (Piece Block)) → IsTarget source j → slice_get source.procs j ≡ Some p
            → IsList source out p.locals p.body ys → Agree (extent_of (size_at sizes (Some j))) (seen_as as_extent (block_of (with_locals p.locals ys)))
        each j p ys target is d =
            let zs = with_locals p.locals ys in
            let seen = seen_pieces (seen_as as_extent) zs in
            subst (λ z. Agree (extent_of z) (seen_as as_extent (block_of zs))) (sym (known j p ys (among j target) is d))
            (subst (Agree (extent_of (size_of seen))) (sym (seen-block as_extent zs)) (extent-whole seen (solid-locals p.locals ys (list-solid some d))))
