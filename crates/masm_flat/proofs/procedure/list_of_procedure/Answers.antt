use Rattle.masm_flat.proofs.Words.{◌≡◌, ◌-◌, ◌<◌, [], ◌∷◌, ◌++◌, refl, sym, ap, ap₂, ◌∙◌, arith, prime, plain_item, FmpUpdate, lit, body_of, uses_of}
use Rattle.masm_flat.proofs.Words.{Operation, as_tree, flat_with, pieces_of}
use Rattle.masm_flat.proofs.Frames.{with_none, with_some}
use Rattle.masm_flat.proofs.Served.{comes_as}
use Rattle.masm_flat.proofs.procedure.list_of_procedure.Goals as goal

pub returns-then-proc-eq0 : goal.returns-then-proc-eq0
returns-then-proc-eq0 c =
    let p = c.args.proc.now in
    let same = c.deref.ensures.value in
    let none : p.locals ≡ 0 = omega (arith, c.if-proc-eq0.true) in
    comes_as (λ xs. xs) c.in_ok-flatten.ensures (ap (λ xs. uses_of (body_of xs)) (sym same))
    (λ known. ap₂ (λ xs ys. pieces_of xs ++ flat_with as_tree known 0 (body_of ys)) c.new-list.ensures.items same
    ∙ (ap (λ n. flat_with as_tree known n (body_of p.body.items)) (sym none) ∙ sym (with_none p.locals _ none)))
    refl

pub returns : goal.returns
returns c =
    let p = c.args.proc.now in
    let n = p.locals in
    let same = c.deref-2.ensures.value in
    let some : 0 < n = omega (arith, c.if-proc-eq0.false) in
    let size : c.reduced-size.result ≡ n = omega (arith, c.reduced-size.ensures.is, c.from.ensures) in
    let back : c.neg.result ≡ prime - n = omega (arith, c.neg.ensures, size) in
    let first : pieces_of c.add_move.new.out.items ≡ Operation (lit n) ∷ Operation (plain_item FmpUpdate) ∷ [] =
    c.in_ok-add_move.ensures
    ∙ ap₂ (λ xs m. pieces_of xs ++ Operation (lit m) ∷ Operation (plain_item FmpUpdate) ∷ []) c.new-list.ensures.items size in
    let last : pieces_of c.add_move-2.new.out.items
    ≡ pieces_of c.flatten-2.new.out.items ++ Operation (lit (prime - n)) ∷ Operation (plain_item FmpUpdate) ∷ [] =
    c.in_ok-add_move-2.ensures
    ∙ ap (λ m. pieces_of c.flatten-2.new.out.items ++ Operation (lit m) ∷ Operation (plain_item FmpUpdate) ∷ []) back in
    comes_as (λ xs. xs ++ Operation (lit (prime - n)) ∷ Operation (plain_item FmpUpdate) ∷ []) c.in_ok-flatten-2.ensures
    (ap (λ xs. uses_of (body_of xs)) (sym same))
    (λ known. ap₂ (λ xs ys. (xs ++ flat_with as_tree known n (body_of ys)) ++ Operation (lit (prime - n)) ∷ Operation (plain_item FmpUpdate) ∷ [])
    first same ∙ sym (with_some n _ some))
    last
