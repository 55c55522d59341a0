-- The targets of a dynamic block, one after another: their entries, their blocks, and which of them are kept.
use Rattle.std.proofs.Common.{◌≡◌, ◌↔◌, ℕ, ◌+◌, ◌<◌, ◌≤◌, Bool, true, false, cond, List, [], ◌∷◌, ◌++◌, length, map, take, drop, get_or, Some, true≢false, refl, sym, ap, ap₂, ◌∙◌, arith, append_assoc, add-one, drop-cons, length-append}
use Rattle.std.proofs.lemmas.List.{length-map, length-take-le, map-append, map_more, take-append-drop}
use Rattle.block_tree.specs.Trees.{tree_digest}
use Rattle.tree_hash.specs.Nodes.{AreFirst, digest_in, node_tree, targets_of}
use Rattle.tree_hash.specs.Places.{first_place, place_at}
use Rattle.tree_hash.specs.declared.node.Node.{Node}
use Rattle.tree_hash.specs.declared.places.Places.{Places}
use Rattle.tree_merge.specs.Merging.{is_among}
use Rattle.tree_merge.specs.Placed.{PlacedTree, Entry}
use Rattle.source_check.specs.Numbering.{blocks_in, numbered, numbered_in}
use Rattle.source_check.specs.SourceNodes.{inputs_in, inputs_of, shown_block}
use Rattle.source_check.proofs.FirstPlaces.{first-exactly}

-- the digests of the nodes before a place
abbrev pub known_before : ℕ → List Node → List (List ℕ)
known_before i nodes = map digest_in (take i nodes)

module _ (constants : List ℕ) where
  -- with the targets still to come, of which the next block stands at this address, these entries are all of them
  abbrev pub HasEntries : List Node → ℕ → ℕ → List Entry → List Entry → Type 0
  HasEntries nodes i at entries all = entries ++ numbered_in constants at (known_before i nodes) (targets_of (drop i nodes)) ≡ all

  -- with those of the targets still to come, these blocks are all of them
  abbrev pub HasBlocks : List Node → ℕ → List (List ℕ) → List (List ℕ) → Type 0
  HasBlocks nodes i blocks all = blocks ++ map shown_block (inputs_in constants (targets_of (drop i nodes))) ≡ all

module _ (nodes : List Node) (i : ℕ) (node : Node) (within : i < length nodes) (is : node ≡ get_or nodes i node) where
  here : drop i nodes ≡ node ∷ drop (i + 1) nodes
  here = drop-cons nodes i node within ∙ ap₂ (λ (x : Node) (n : ℕ). x ∷ drop n nodes) (sym is) (sym (add-one i))

  known-more : known_before (i + 1) nodes ≡ known_before i nodes ++ digest_in node ∷ []
  known-more = map_more digest_in nodes i node within ∙ ap (λ (x : Node). known_before i nodes ++ digest_in x ∷ []) (sym is)

  all-digests : map digest_in nodes ≡ known_before i nodes ++ digest_in node ∷ map digest_in (drop (i + 1) nodes)
  all-digests =
      ap (map digest_in) (sym (take-append-drop i nodes)) ∙ map-append digest_in (take i nodes) (drop i nodes)
      ∙ ap (λ (xs : List Node). known_before i nodes ++ map digest_in xs) here

  so-many : length (known_before i nodes) ≡ i
  so-many = length-map (take i nodes) digest_in ∙ length-take-le i nodes (omega (arith, within))

  -- a target is found at its own place exactly where no earlier one has its digest
  pub found-exactly : (places : Places) → AreFirst places (map digest_in nodes)
      → (place_at places (digest_in node) ≡ Some i) ↔ (is_among (digest_in node) (known_before i nodes) ≡ false)
  found-exactly places first =
      let found : place_at places (digest_in node) ≡ first_place (known_before i nodes ++ digest_in node ∷ map digest_in (drop (i + 1) nodes)) (digest_in node)
      = first (digest_in node) ∙ ap (λ (ds : List (List ℕ)). first_place ds (digest_in node)) all-digests in
      let exactly = first-exactly (known_before i nodes) (digest_in node) (map digest_in (drop (i + 1) nodes)) in (
        (λ e. exactly.0 (sym found ∙ e ∙ ap Some (sym so-many))),
        (λ e. found ∙ exactly.1 e ∙ ap Some so-many),
      )

  module _ (constants : List ℕ) where
    -- the blocks of the next target come behind the others
    pub blocks-more : (blocks new all : List (List ℕ)) → HasBlocks constants nodes i blocks all
        → new ≡ blocks ++ map shown_block (inputs_of constants (node_tree node)) → HasBlocks constants nodes (i + 1) new all
    blocks-more blocks new all has made =
        let mine = map shown_block (inputs_of constants (node_tree node)) in
        let later = map shown_block (inputs_in constants (targets_of (drop (i + 1) nodes))) in
        let both : map shown_block (inputs_in constants (targets_of (drop i nodes))) ≡ mine ++ later
        = ap (λ (xs : List Node). map shown_block (inputs_in constants (targets_of xs))) here
        ∙ map-append shown_block (inputs_of constants (node_tree node)) (inputs_in constants (targets_of (drop (i + 1) nodes))) in
        ap (λ (bs : List (List ℕ)). bs ++ later) made ∙ append_assoc blocks mine later ∙ ap (λ (bs : List (List ℕ)). blocks ++ bs) (sym both) ∙ has

    -- they fit among all blocks
    pub blocks-fit : (blocks all : List (List ℕ)) → HasBlocks constants nodes i blocks all
        → length blocks + blocks_in constants (node_tree node) ≤ length all
    blocks-fit blocks all has =
        let mine = inputs_of constants (node_tree node) in
        let later = inputs_in constants (targets_of (drop (i + 1) nodes)) in
        let size : length blocks + length (map shown_block (inputs_in constants (targets_of (drop i nodes)))) ≡ length all
        = sym (length-append blocks (map shown_block (inputs_in constants (targets_of (drop i nodes))))) ∙ ap length has in
        let both : length (map shown_block (inputs_in constants (targets_of (drop i nodes)))) ≡ length mine + length later
        = length-map (inputs_in constants (targets_of (drop i nodes))) shown_block
        ∙ ap (λ (xs : List Node). length (inputs_in constants (targets_of xs))) here ∙ length-append mine later in
        omega (arith, size, both)

    module _ (places : Places) (first : AreFirst places (map digest_in nodes)) (hashed : digest_in node ≡ tree_digest constants (node_tree node)) (at next : ℕ)
        (behind : next ≡ at + blocks_in constants (node_tree node)) (entries all : List Entry) (has : HasEntries constants nodes i at entries all) where
      abbrev rest : List Entry
      rest = numbered_in constants next (known_before (i + 1) nodes) (targets_of (drop (i + 1) nodes))

      abbrev entry : List ℕ → PlacedTree → Entry
      entry digest tree = record { digest = digest; tree = tree }

      -- what comes of this target and those behind it
      unfolded : numbered_in constants at (known_before i nodes) (targets_of (drop i nodes))
          ≡ cond (is_among (digest_in node) (known_before i nodes)) rest (entry (digest_in node) (numbered constants at (node_tree node)) ∷ rest)
      unfolded =
          ap (λ (xs : List Node). numbered_in constants at (known_before i nodes) (targets_of xs)) here
          ∙ ap (λ (d : List ℕ). cond (is_among d (known_before i nodes))
          (numbered_in constants (at + blocks_in constants (node_tree node)) (known_before i nodes ++ d ∷ []) (targets_of (drop (i + 1) nodes)))
          (entry d (numbered constants at (node_tree node))
          ∷ numbered_in constants (at + blocks_in constants (node_tree node)) (known_before i nodes ++ d ∷ []) (targets_of (drop (i + 1) nodes))))
          (sym hashed)
          ∙ ap₂ (λ (n : ℕ) (ds : List (List ℕ)). cond (is_among (digest_in node) (known_before i nodes))
          (numbered_in constants n ds (targets_of (drop (i + 1) nodes)))
          (entry (digest_in node) (numbered constants at (node_tree node)) ∷ numbered_in constants n ds (targets_of (drop (i + 1) nodes))))
          (sym behind) (sym known-more)

      chosen : (old : Bool) → is_among (digest_in node) (known_before i nodes) ≡ old
          → numbered_in constants at (known_before i nodes) (targets_of (drop i nodes))
          ≡ cond old rest (entry (digest_in node) (numbered constants at (node_tree node)) ∷ rest)
      chosen old h =
          unfolded ∙ ap (λ b. cond b rest (entry (digest_in node) (numbered constants at (node_tree node)) ∷ rest)) h

      kept : (target : Entry) (new : List Entry) → target ≡ entry (digest_in node) (numbered constants at (node_tree node))
          → new ≡ entries ++ target ∷ [] → is_among (digest_in node) (known_before i nodes) ≡ false → HasEntries constants nodes (i + 1) next new all
      kept target new same made is_new =
          ap (λ (es : List Entry). es ++ rest) made ∙ append_assoc entries (target ∷ []) rest
          ∙ ap (λ (t : Entry). entries ++ t ∷ rest) same ∙ ap (λ (es : List Entry). entries ++ es) (sym (chosen false is_new)) ∙ has

      left-out : (new : List Entry) → new ≡ entries → is_among (digest_in node) (known_before i nodes) ≡ true
          → HasEntries constants nodes (i + 1) next new all
      left-out new made is_old =
          ap (λ (es : List Entry). es ++ rest) made ∙ ap (λ (es : List Entry). entries ++ es) (sym (chosen true is_old)) ∙ has

      -- the next target is kept exactly where its digest is found at its place
      pub entries-more : (digest : List ℕ) (tree : PlacedTree) (new : List Entry) → digest ≡ digest_in node
          → tree ≡ numbered constants at (node_tree node) → (place_at places digest ≡ Some i → new ≡ entries ++ entry digest tree ∷ [])
          → ((place_at places digest ≡ Some i → ⊥) → new ≡ entries) → HasEntries constants nodes (i + 1) next new all
      entries-more digest tree new own made if_first if_later = of (is_among (digest_in node) (known_before i nodes)) refl
        where
          exactly : (place_at places (digest_in node) ≡ Some i) ↔ (is_among (digest_in node) (known_before i nodes) ≡ false)
          exactly = found-exactly places first

          of : (old : Bool) → is_among (digest_in node) (known_before i nodes) ≡ old → HasEntries constants nodes (i + 1) next new all
          of false e = kept (entry digest tree) new (ap₂ entry own made) (if_first (ap (place_at places) own ∙ exactly.1 e)) e
          of true e = left-out new (if_later (λ found. true≢false (sym e ∙ exactly.0 (sym (ap (place_at places) own) ∙ found)))) e
