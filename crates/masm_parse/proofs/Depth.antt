-- How many procedures and statements are open, in each configuration of the machine.
use Rattle.masm_parse.proofs.Words.{◌≡◌, Bool, true, false, ◌+◌, ◌&&◌, nat_le, cond, List, [], ◌∷◌, ◌++◌, length, Option, Some, None, ap, ◌∙◌, arith}
use Rattle.masm_parse.proofs.Words.{leb-true, le-leb, Role, Header, Terminal, Empty, Procedure, In_if, Configuration, Top, Inside, Behind, procedure, closed}
use Rattle.masm_parse.proofs.Words.{shift, is_too_deep, may_begin, is_opening}
use Rattle.std.proofs.lemmas.Bool.{and_parts}
use Rattle.masm_tree.specs.declared.terminal.Role.TheVariants as roles
use Rattle.masm_tree.specs.declared.terminal.Terminal.TheVariants as terminals
use Rattle.masm_parse.specs.Refusals.{begins, ends, begun, done, IsTooDeep}

begun_snoc : (ts : List Terminal) (t : Terminal) → begun (ts ++ t ∷ []) ≡ begun ts + begins t
begun_snoc [] t = omega arith
begun_snoc (x ∷ ts) t = omega (arith, begun_snoc ts t)

done_snoc : (ts : List Terminal) (t : Terminal) → done (ts ++ t ∷ []) ≡ done ts + ends t
done_snoc [] t = omega arith
done_snoc (x ∷ ts) t = omega (arith, done_snoc ts t)

abbrev pub Counts : Configuration → List Terminal → Type 0
Counts (Top ps) ts = begun ts ≡ done ts
Counts (Inside ps h os b) ts = begun ts ≡ done ts + 1 + length os
Counts (Behind ps main) ts = begun ts ≡ done ts

abbrev pub CountsIf : Option Configuration → List Terminal → Type 0
CountsIf None ts = Unit {0}
CountsIf (Some s) ts = Counts s ts

counts_closed : (r : Role) (ps : List Procedure) (p : Procedure) (ts : List Terminal) → begun ts ≡ done ts → Counts (closed ps r p) ts
counts_closed roles.Proc ps p ts e = e
counts_closed roles.Export ps p ts e = e
counts_closed roles.Main ps p ts e = e

counts_begun : (ps : List Procedure) (h : Header) (ts : List Terminal) (may : Bool) → begun ts ≡ done ts
    → CountsIf (cond may (Some (Inside ps h [] Empty)) None) (ts ++ terminals.Header h ∷ [])
counts_begun ps h ts true e = omega (arith, e, begun_snoc ts (terminals.Header h), done_snoc ts (terminals.Header h))
counts_begun ps h ts false e = tt

pub counts_kept : (k : Bool) (s : Configuration) (t : Terminal) (ts : List Terminal) → Counts s ts → CountsIf (shift k s t) (ts ++ t ∷ [])
counts_kept k (Top ps) (terminals.Const c) ts e = omega (arith, e, begun_snoc ts (terminals.Const c), done_snoc ts (terminals.Const c))
counts_kept k (Top ps) (terminals.Header h) ts e = counts_begun ps h ts (may_begin k h.role) e
counts_kept k (Inside ps h os b) (terminals.Leaf at l) ts e =
    omega (arith, e, begun_snoc ts (terminals.Leaf at l), done_snoc ts (terminals.Leaf at l))
counts_kept k (Inside ps h os b) (terminals.If at) ts e = omega (arith, e, begun_snoc ts (terminals.If at), done_snoc ts (terminals.If at))
counts_kept k (Inside ps h os b) (terminals.While at) ts e = omega (arith, e, begun_snoc ts (terminals.While at), done_snoc ts (terminals.While at))
counts_kept k (Inside ps h os b) (terminals.Repeat at n) ts e =
    omega (arith, e, begun_snoc ts (terminals.Repeat at n), done_snoc ts (terminals.Repeat at n))
counts_kept k (Inside ps h (In_if at before ∷ os) b) terminals.Else ts e = omega (arith, e, begun_snoc ts terminals.Else, done_snoc ts terminals.Else)
counts_kept k (Inside ps h [] b) terminals.End ts e =
    counts_closed h.role ps (procedure h b) (ts ++ terminals.End ∷ []) (omega (arith, e, begun_snoc ts terminals.End, done_snoc ts terminals.End))
counts_kept k (Inside ps h (o ∷ os) b) terminals.End ts e = omega (arith, e, begun_snoc ts terminals.End, done_snoc ts terminals.End)
counts_kept k s t ts e = tt

pub deep_stands : (s : Configuration) (t : Terminal) (ts : List Terminal) → Counts s ts → is_too_deep s t ≡ true → IsTooDeep ts t
deep_stands (Top ps) t ts e x =
    let two : (is_opening t ≡ true) × (nat_le 256 0 ≡ true) = and_parts (is_opening t) (nat_le 256 0) x in
    (two.0, omega (arith, leb-true 256 0 two.1))
deep_stands (Inside ps h os b) t ts e x =
    let two : (is_opening t ≡ true) × (nat_le 256 (length os) ≡ true) = and_parts (is_opening t) (nat_le 256 (length os)) x in
    (two.0, omega (arith, e, leb-true 256 (length os) two.1))
deep_stands (Behind ps main) t ts e x =
    let two : (is_opening t ≡ true) × (nat_le 256 0 ≡ true) = and_parts (is_opening t) (nat_le 256 0) x in
    (two.0, omega (arith, leb-true 256 0 two.1))

pub deep_found : (s : Configuration) (t : Terminal) (ts : List Terminal) → Counts s ts → IsTooDeep ts t → is_too_deep s t ≡ true
deep_found (Top ps) t ts e x = let wrong : ⊥ = omega (arith, e, x.1) in absurd wrong
deep_found (Inside ps h os b) t ts e x =
    ap (λ y. y && nat_le 256 (length os)) x.0 ∙ le-leb 256 (length os) (omega (arith, e, x.1))
deep_found (Behind ps main) t ts e x = let wrong : ⊥ = omega (arith, e, x.1) in absurd wrong
