-- The list of a body, as its blocks are seen, is what it is flattened to with the lists of its procedures.
use Rattle.masm_flat.proofs.Words.{◌≡◌, ℕ, zero, suc, List, [], ◌∷◌, ◌++◌, map, Some, refl, sym, ap, ap₂, ◌∙◌, Item, Body, Source, Block, Dyn, Operation}
use Rattle.masm_flat.proofs.Words.{Whole, whole, block_of, blocks_from, Known, flat_with, Outside, ListOf, ListsOf, IsList, nothing, instr, exec, call}
use Rattle.masm_flat.proofs.Words.{procref, syscall, dynexec, branches, loops, repeated, first_export, times, block_digest, digest_items, UsesOnly}
use Rattle.masm_flat.proofs.Words.{target_names}
use Rattle.masm_flat.specs.Blocks.{Span, Join, View, Piece, seen_as, seen_piece, seen_pieces}
use Rattle.masm_flat.proofs.DynamicBodies.{DynexecsOnly}
use Rattle.masm_flat.proofs.Seen.{seen-whole}

module _ {A : Type 0} (v : View A) where
  pub seen-block : (pieces : List (Piece Block)) → seen_as v (block_of pieces) ≡ whole v (seen_pieces (seen_as v) pieces)
  seen-block pieces = seen-whole (seen_as v) Span Join v.span v.join (λ items. refl) (λ a b. refl) pieces

  pub seen-append : (xs ys : List (Piece Block)) → seen_pieces (seen_as v) (xs ++ ys) ≡ seen_pieces (seen_as v) xs ++ seen_pieces (seen_as v) ys
  seen-append [] ys = refl
  seen-append (x ∷ xs) ys = ap (λ zs. seen_piece (seen_as v) x ∷ zs) (seen-append xs ys)

  pub seen-operations : (items : List Item) → seen_pieces (seen_as v) (map Operation items) ≡ map Operation items
  seen-operations [] = refl
  seen-operations (item ∷ items) = ap (λ zs. Operation item ∷ zs) (seen-operations items)

  pub seen-times : (n : ℕ) (xs : List (Piece Block)) → seen_pieces (seen_as v) (times n xs) ≡ times n (seen_pieces (seen_as v) xs)
  seen-times zero xs = refl
  seen-times (suc n) xs = seen-append xs (times n xs) ∙ ap (λ zs. seen_pieces (seen_as v) xs ++ zs) (seen-times n xs)

  -- The given lists and digests are those of the source's procedures, the given blocks those of the kernel, and the block of a
  -- dynexec is that of its targets.
  pub record Fits (source : Source) (out : Outside) (P R : List ℕ → Type 0) (D : Type 0) (known : Known A) : Type 0 where
    pub list : (name : List ℕ) (ys : List (Piece Block)) → P name → ListOf source out name ys → known.list name ≡ seen_pieces (seen_as v) ys
    pub digest : (name : List ℕ) (ys : List (Piece Block)) → R name → ListOf source out name ys
        → known.digest name ≡ block_digest out.constants (block_of ys)
    pub exported : (name : List ℕ) (block : Block) → first_export out.exports name ≡ Some block → known.exported name ≡ seen_as v block
    pub dispatch : (lists : List (List (Piece Block))) → D → ListsOf source out (target_names source) lists
        → known.dispatch ≡ seen_as v (Dyn (blocks_from (map block_of lists)))

  module _ {source : Source} {out : Outside} (P R : List ℕ → Type 0) (D : Type 0) (known : Known A) (fits : Fits source out P R D known) where
    pub flat-is : {locals : ℕ} {b : Body} {xs : List (Piece Block)} → IsList source out locals b xs → UsesOnly P R b → DynexecsOnly D b
        → flat_with v known locals b ≡ seen_pieces (seen_as v) xs
    flat-is nothing of on = refl
    flat-is (instr at i {xs} d) of on = ap₂ (λ ys zs. ys ++ zs) (sym (seen-operations _)) (flat-is d of on) ∙ sym (seen-append _ xs)
    flat-is (exec at name {ys} {xs} d f) of on =
        ap₂ (λ ys zs. ys ++ zs) (fits.list name ys of.0 d) (flat-is f of.1 on) ∙ sym (seen-append ys xs)
    flat-is (call at name {ys} d f) of on =
        ap₂ (λ t zs. Whole (v.call t) ∷ zs) (ap (whole v) (fits.list name ys of.0 d) ∙ sym (seen-block ys)) (flat-is f of.1 on)
    flat-is (procref at name {ys} {xs} d f) of on =
        let items = digest_items (block_digest out.constants (block_of ys)) in
        ap₂ (λ us zs. us ++ zs) (ap (λ digest. map Operation (digest_items digest)) (fits.digest name ys of.0 d) ∙ sym (seen-operations items))
        (flat-is f of.1 on)
        ∙ sym (seen-append (map Operation items) xs)
    flat-is (syscall at name {callee} found f) of on =
        ap₂ (λ t zs. Whole (v.syscall t) ∷ zs) (fits.exported name callee found) (flat-is f of on)
    flat-is (dynexec at {lists} ds f) of on = ap₂ (λ t zs. Whole t ∷ zs) (fits.dispatch lists on.0 ds) (flat-is f of on.1)
    flat-is (branches at {ys} {zs} a e f) of on =
        ap₂ (λ t us. t ∷ us)
        (ap₂ (λ s t. Whole (v.split s t)) (ap (whole v) (flat-is a of.0 on.0) ∙ sym (seen-block ys))
        (ap (whole v) (flat-is e of.1 on.1) ∙ sym (seen-block zs)))
        (flat-is f of.2 on.2)
    flat-is (loops at {ys} d f) of on =
        ap₂ (λ t us. Whole (v.loop t) ∷ us) (ap (whole v) (flat-is d of.0 on.0) ∙ sym (seen-block ys)) (flat-is f of.1 on.1)
    flat-is (repeated at n {ys} {xs} d f) of on =
        ap₂ (λ us ws. us ++ ws) (ap (times n) (flat-is d of.0 on.0) ∙ sym (seen-times n ys)) (flat-is f of.1 on.1)
        ∙ sym (seen-append (times n ys) xs)
