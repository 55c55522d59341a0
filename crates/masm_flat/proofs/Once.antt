-- A body has one list at most, and so have procedures.
use Rattle.masm_flat.proofs.Words.{◌≡◌, ℕ, List, ◌∷◌, ◌++◌, map, Option, Some, refl, sym, ap, ap₂, subst, ◌∙◌, expansion, Body, Source, Block, Dyn, Operation}
use Rattle.masm_flat.proofs.Words.{Whole, block_of, blocks_from, Outside, ListOf, own, ListsOf, no_list, list_before, IsList, nothing, instr, exec, call}
use Rattle.masm_flat.proofs.Words.{procref, syscall, dynexec, branches, loops, repeated, times, with_locals, block_digest, digest_items}
use Rattle.std.proofs.Common.{unwrap_or}
use Rattle.masm_flat.specs.Blocks.{Split, Loop, Call, Syscall, Piece}

same_some : {A : Type 0} {o : Option A} {x y : A} → o ≡ Some x → o ≡ Some y → x ≡ y
same_some {x = x} p q = ap (λ o. unwrap_or o x) (sym p ∙ q)

module _ (source : Source) (out : Outside) where
  mutual
    pub list_of_once : {name : List ℕ} {xs ys : List (Piece Block)} → ListOf source out name xs → ListOf source out name ys → xs ≡ ys
    list_of_once (own name {p} {ys = us} found d) (own _ {p = q} {ys = vs} found' e) =
        let same = same_some found found' in
        ap₂ (λ r us. with_locals r.locals us) same (list_once d (subst (λ r. IsList source out r.locals r.body vs) (sym same) e))

    pub lists_once : {names : List (List ℕ)} {xs ys : List (List (Piece Block))} → ListsOf source out names xs → ListsOf source out names ys → xs ≡ ys
    lists_once no_list no_list = refl
    lists_once (list_before name d ds) (list_before _ e es) = ap₂ (λ us lists. us ∷ lists) (list_of_once d e) (lists_once ds es)

    pub list_once : {locals : ℕ} {b : Body} {xs ys : List (Piece Block)} → IsList source out locals b xs → IsList source out locals b ys → xs ≡ ys
    list_once nothing nothing = refl
    list_once {locals} (instr at i d) (instr _ _ e) = ap (λ zs. map Operation (expansion i.name i.numbers locals) ++ zs) (list_once d e)
    list_once (exec at name d f) (exec _ _ e g) = ap₂ (λ us xs. us ++ xs) (list_of_once d e) (list_once f g)
    list_once (call at name d f) (call _ _ e g) = ap₂ (λ us xs. Whole (Call (block_of us)) ∷ xs) (list_of_once d e) (list_once f g)
    list_once (procref at name d f) (procref _ _ e g) =
        ap₂ (λ us xs. map Operation (digest_items (block_digest out.constants (block_of us))) ++ xs) (list_of_once d e) (list_once f g)
    list_once (syscall at name found f) (syscall _ _ found' g) = ap₂ (λ c xs. Whole (Syscall c) ∷ xs) (same_some found found') (list_once f g)
    list_once (dynexec at ds f) (dynexec _ es g) =
        ap₂ (λ lists xs. Whole (Dyn (blocks_from (map block_of lists))) ∷ xs) (lists_once ds es) (list_once f g)
    list_once (branches at a e f) (branches _ b g h) =
        ap₂ (λ t xs. t ∷ xs) (ap₂ (λ ys zs. Whole (Split (block_of ys) (block_of zs))) (list_once a b) (list_once e g)) (list_once f h)
    list_once (loops at d f) (loops _ e g) = ap₂ (λ ys xs. Whole (Loop (block_of ys)) ∷ xs) (list_once d e) (list_once f g)
    list_once (repeated at n d f) (repeated _ _ e g) = ap₂ (λ ys xs. times n ys ++ xs) (list_once d e) (list_once f g)
