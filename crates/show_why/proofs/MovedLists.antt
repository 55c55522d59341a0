-- Other constants, and a kernel of the same operations but for digests: the lists of a source are the same but for digests.
use Rattle.std.proofs.Common.{◌≡◌, ℕ, Bool, true, false, List, [], ◌∷◌, ◌++◌, length, map, Option, Some, bytes_eq, if◌then◌else◌, unwrap_or, refl, sym, ap, ap₂, ◌∙◌}
use Rattle.std.specs.List.{AllZip}
use Rattle.vm_field.specs.Limits.{number_of_constants}
use Rattle.masm_expand.specs.Expansion.{expansion}
use Rattle.masm_tree.specs.Trees.{Body, Procedure, Source}
use Rattle.masm_flat.specs.Blocks.{Block, Piece, Operation, Whole, Split, Loop, Call, Syscall, Dyn, block_of, blocks_from, seen_all}
use Rattle.masm_flat.specs.Lists.{Exported, Outside, ListOf, own, ListsOf, no_list, list_before, IsList, nothing, instr, exec, call, procref, syscall, dynexec, branches, loops, repeated, IsBlockOf, block_digest, digest_items, first_export, times, with_locals}
use Rattle.masm_flat.proofs.Digests.{four-items}
use Rattle.show_why.proofs.Blanks.{as_blank, blank, block-mark, mark, mark-both, mark-locals, mark-operations, mark-times}

-- exports of the same names, whose blocks are the same but for what their operations are
abbrev pub Alike : List Exported → List Exported → Type 0
Alike xs ys = AllZip (λ a b. (a.name ≡ b.name) × (blank a.block ≡ blank b.block)) xs ys

pub alike-back : (xs ys : List Exported) → Alike xs ys → Alike ys xs
alike-back [] [] h = tt
alike-back [] (y ∷ ys) h = absurd h
alike-back (x ∷ xs) [] h = absurd h
alike-back (x ∷ xs) (y ∷ ys) h = ((sym h.0.0, sym h.0.1), alike-back xs ys h.1)

abbrev HasExport : List Exported → List ℕ → Block → Type 0
HasExport ys name b = (c : Block) × (first_export ys name ≡ Some c) × (blank b ≡ blank c)

first-of : (e : Exported) (es : List Exported) (name : List ℕ) (t : Bool) → bytes_eq e.name name ≡ t
    → first_export (e ∷ es) name ≡ (if t then Some e.block else first_export es name)
first-of e es name t is = ap (λ (b : Bool). if b then Some e.block else first_export es name) is

here : (x y : Exported) (xs ys : List Exported) (name : List ℕ) (b : Block) (t : Bool) → bytes_eq x.name name ≡ t → bytes_eq y.name name ≡ t
    → blank x.block ≡ blank y.block → first_export (x ∷ xs) name ≡ Some b → (first_export xs name ≡ Some b → HasExport ys name b)
    → HasExport (y ∷ ys) name b
here x y xs ys name b true is same alike found later =
    let block : Some x.block ≡ Some b = sym (first-of x xs name true is) ∙ found in
    (y.block, first-of y ys name true same, ap (λ (o : Option Block). blank (unwrap_or o b)) (sym block) ∙ alike)
here x y xs ys name b false is same alike found later =
    let h = later (sym (first-of x xs name false is) ∙ found) in
    (h.0, first-of y ys name false same ∙ h.1, h.2)

alike-export : (xs ys : List Exported) (name : List ℕ) (b : Block) → Alike xs ys → first_export xs name ≡ Some b → HasExport ys name b
alike-export [] [] name b h found = absurd (cc)
alike-export [] (y ∷ ys) name b h found = absurd h
alike-export (x ∷ xs) [] name b h found = absurd h
alike-export (x ∷ xs) (y ∷ ys) name b h found =
    here x y xs ys name b (bytes_eq x.name name) refl (ap (λ n. bytes_eq n name) (sym h.0.0)) h.0.1 found (alike-export xs ys name b h.1)

module _ (source : Source) (out new : Outside) (many : length out.constants ≡ number_of_constants) (few : length new.constants ≡ number_of_constants)
    (alike : Alike out.exports new.exports) where
  mutual
    list_of-moved : {name : List ℕ} {xs : List (Piece Block)} → ListOf source out name xs
        → (ys : List (Piece Block)) × ListOf source new name ys × (mark xs ≡ mark ys)
    list_of-moved (own name {p} {ys} found d) =
        let m = list-moved d in (with_locals p.locals m.0, own name found m.1, mark-locals p.locals ys m.0 m.2)

    lists-moved : {names : List (List ℕ)} {lists : List (List (Piece Block))} → ListsOf source out names lists
        → (others : List (List (Piece Block))) × ListsOf source new names others
        × (seen_all as_blank (blocks_from (map block_of lists)) ≡ seen_all as_blank (blocks_from (map block_of others)))
    lists-moved no_list = ([], no_list, refl)
    lists-moved (list_before name {ys} d ds) =
        let m = list_of-moved d in
        let n = lists-moved ds in
        (m.0 ∷ n.0, list_before name m.1 n.1, ap₂ (λ b bs. b ∷ bs) (block-mark ys m.0 m.2) n.2)

    list-moved : {locals : ℕ} {b : Body} {xs : List (Piece Block)} → IsList source out locals b xs
        → (ys : List (Piece Block)) × IsList source new locals b ys × (mark xs ≡ mark ys)
    list-moved nothing = ([], nothing, refl)
    list-moved {locals} (instr at i {xs} d) =
        let m = list-moved d in
        let items = map Operation (expansion i.name i.numbers locals) in
        (items ++ m.0, instr at i m.1, mark-both items items xs m.0 refl m.2)
    list-moved (exec at name {ys} {xs} d f) =
        let m = list_of-moved d in
        let n = list-moved f in
        (m.0 ++ n.0, exec at name m.1 n.1, mark-both ys m.0 xs n.0 m.2 n.2)
    list-moved (call at name {ys} {xs} d f) =
        let m = list_of-moved d in
        let n = list-moved f in
        (Whole (Call (block_of m.0)) ∷ n.0, call at name m.1 n.1, ap₂ (λ c zs. Whole (Call c) ∷ zs) (block-mark ys m.0 m.2) n.2)
    list-moved (procref at name {ys} {xs} d f) =
        let m = list_of-moved d in
        let n = list-moved f in
        let us = digest_items (block_digest out.constants (block_of ys)) in
        let vs = digest_items (block_digest new.constants (block_of m.0)) in (
          map Operation vs ++ n.0,
          procref at name m.1 n.1,
          mark-both (map Operation us) (map Operation vs) xs n.0
              (mark-operations us vs (four-items out.constants (block_of ys) many ∙ sym (four-items new.constants (block_of m.0) few))) n.2,
        )
    list-moved (syscall at name {callee} {xs} found f) =
        let e = alike-export out.exports new.exports name callee alike found in
        let n = list-moved f in
        (Whole (Syscall e.0) ∷ n.0, syscall at name e.1 n.1, ap₂ (λ c zs. Whole (Syscall c) ∷ zs) e.2 n.2)
    list-moved (dynexec at {lists} ds f) =
        let m = lists-moved ds in
        let n = list-moved f in
        (Whole (Dyn (blocks_from (map block_of m.0))) ∷ n.0, dynexec at m.1 n.1, ap₂ (λ bs zs. Whole (Dyn (blocks_from bs)) ∷ zs) m.2 n.2)
    list-moved (branches at {ys} {zs} a e f) =
        let l = list-moved a in
        let m = list-moved e in
        let n = list-moved f in (
          Whole (Split (block_of l.0) (block_of m.0)) ∷ n.0,
          branches at l.1 m.1 n.1,
          ap₂ (λ p ps. p ∷ ps) (ap₂ (λ b c. Whole (Split b c)) (block-mark ys l.0 l.2) (block-mark zs m.0 m.2)) n.2,
        )
    list-moved (loops at {ys} d f) =
        let m = list-moved d in
        let n = list-moved f in
        (Whole (Loop (block_of m.0)) ∷ n.0, loops at m.1 n.1, ap₂ (λ b zs. Whole (Loop b) ∷ zs) (block-mark ys m.0 m.2) n.2)
    list-moved (repeated at k {ys} {xs} d f) =
        let m = list-moved d in
        let n = list-moved f in
        (times k m.0 ++ n.0, repeated at k m.1 n.1, mark-both (times k ys) (times k m.0) xs n.0 (mark-times k ys m.0 m.2) n.2)

  pub block-moved : (p : Procedure) (b : Block) → IsBlockOf source out p b → (c : Block) × IsBlockOf source new p c × (blank b ≡ blank c)
  block-moved p b is =
      let m = list-moved is.flat in (
        block_of (with_locals p.locals m.0),
        record { pieces = m.0; flat = m.1; is = refl },
        ap blank is.is ∙ block-mark _ _ (mark-locals p.locals is.pieces m.0 m.2),
      )
