-- The machine against the grammar: what is spelled runs, and what has run can be gone on to a source.
use Rattle.masm_parse.proofs.Words.{◌≡◌, Bool, true, false, cond, List, [], ◌∷◌, ◌++◌, Option, Some, None, refl, ap, sym, subst, ◌∙◌, append_assoc, Role}
use Rattle.masm_parse.proofs.Words.{Header, Terminal, Body, Empty, Leaf_then, If_then, While_then, Repeat_then, Procedure, append, OpenStatement, In_if}
use Rattle.masm_parse.proofs.Words.{In_else, In_while, In_repeat, Configuration, Top, Inside, Behind, procedure, closed, shift, may_begin}
use Rattle.std.specs.Prelude.{option_and_then}
use Rattle.masm_tree.specs.declared.terminal.Role.TheVariants as roles
use Rattle.masm_tree.specs.declared.terminal.Terminal.TheVariants as terminals
use Rattle.masm_parse.specs.Grammar.{Spells, nothing, leaf, if_only, if_else, while, repeated, is_item, SpellsProcs, none, constant, item, SpellsMain, SpellsParts}

-- the configuration behind tokens, where each fits
abbrev pub run : Bool → Option Configuration → List Terminal → Option Configuration
run k o [] = o
run k o (t ∷ ts) = run k (option_and_then (λ s. shift k s t) o) ts

pub run-append : (k : Bool) (o : Option Configuration) (xs ys : List Terminal) → run k o (xs ++ ys) ≡ run k (run k o xs) ys
run-append k o [] ys = refl
run-append k o (x ∷ xs) ys = run-append k (option_and_then (λ s. shift k s x) o) xs ys

run-none : (k : Bool) (ts : List Terminal) → run k None ts ≡ None
run-none k [] = refl
run-none k (t ∷ ts) = run-none k ts

append-append : (a b c : Body) → append (append a b) c ≡ append a (append b c)
append-append Empty b c = refl
append-append (Leaf_then at l a) b c = ap (Leaf_then at l) (append-append a b c)
append-append (If_then at x y a) b c = ap (If_then at x y) (append-append a b c)
append-append (While_then at x a) b c = ap (While_then at x) (append-append a b c)
append-append (Repeat_then at n x a) b c = ap (Repeat_then at n x) (append-append a b c)

append-empty : (a : Body) → append a Empty ≡ a
append-empty Empty = refl
append-empty (Leaf_then at l a) = ap (Leaf_then at l) (append-empty a)
append-empty (If_then at x y a) = ap (If_then at x y) (append-empty a)
append-empty (While_then at x a) = ap (While_then at x) (append-empty a)
append-empty (Repeat_then at n x a) = ap (Repeat_then at n x) (append-empty a)

-- a spelled body is read behind the statements so far
pub complete : {b : Body} {us : List Terminal} → Spells b us
    → (k : Bool) (ps : List Procedure) (h : Header) (os : List OpenStatement) (a : Body) (rest : List Terminal)
    → run k (Some (Inside ps h os a)) (us ++ rest) ≡ run k (Some (Inside ps h os (append a b))) rest
complete nothing k ps h os a rest = sym (ap (λ x. run k (Some (Inside ps h os x)) rest) (append-empty a))
complete (leaf at l {b = b} {ts = ts} d) k ps h os a rest =
    complete d k ps h os (append a (Leaf_then at l Empty)) rest
    ∙ ap (λ x. run k (Some (Inside ps h os x)) rest) (append-append a (Leaf_then at l Empty) b)
complete (if_only at {a = x} {b = b} {us = us} {ts = ts} f d) k ps h os a rest =
    ap (λ x. run k (Some (Inside ps h (In_if at a ∷ os) Empty)) x) (append_assoc us (terminals.End ∷ ts) rest)
    ∙ complete f k ps h (In_if at a ∷ os) Empty (terminals.End ∷ (ts ++ rest))
    ∙ complete d k ps h os (append a (If_then at x Empty Empty)) rest
    ∙ ap (λ x. run k (Some (Inside ps h os x)) rest) (append-append a (If_then at x Empty Empty) b)
complete (if_else at {a = x} {e = y} {b = b} {us = us} {vs = vs} {ts = ts} f g d) k ps h os a rest =
    ap (λ x. run k (Some (Inside ps h (In_if at a ∷ os) Empty)) x) (append_assoc us (terminals.Else ∷ (vs ++ terminals.End ∷ ts)) rest)
    ∙ complete f k ps h (In_if at a ∷ os) Empty (terminals.Else ∷ ((vs ++ terminals.End ∷ ts) ++ rest))
    ∙ ap (λ z. run k (Some (Inside ps h (In_else at a x ∷ os) Empty)) z) (append_assoc vs (terminals.End ∷ ts) rest)
    ∙ complete g k ps h (In_else at a x ∷ os) Empty (terminals.End ∷ (ts ++ rest))
    ∙ complete d k ps h os (append a (If_then at x y Empty)) rest
    ∙ ap (λ x. run k (Some (Inside ps h os x)) rest) (append-append a (If_then at x y Empty) b)
complete (while at {a = x} {b = b} {us = us} {ts = ts} f d) k ps h os a rest =
    ap (λ x. run k (Some (Inside ps h (In_while at a ∷ os) Empty)) x) (append_assoc us (terminals.End ∷ ts) rest)
    ∙ complete f k ps h (In_while at a ∷ os) Empty (terminals.End ∷ (ts ++ rest))
    ∙ complete d k ps h os (append a (While_then at x Empty)) rest
    ∙ ap (λ x. run k (Some (Inside ps h os x)) rest) (append-append a (While_then at x Empty) b)
complete (repeated at n {a = x} {b = b} {us = us} {ts = ts} f d) k ps h os a rest =
    ap (λ x. run k (Some (Inside ps h (In_repeat at n a ∷ os) Empty)) x) (append_assoc us (terminals.End ∷ ts) rest)
    ∙ complete f k ps h (In_repeat at n a ∷ os) Empty (terminals.End ∷ (ts ++ rest))
    ∙ complete d k ps h os (append a (Repeat_then at n x Empty)) rest
    ∙ ap (λ x. run k (Some (Inside ps h os x)) rest) (append-append a (Repeat_then at n x Empty) b)

item_begins : (k : Bool) (r : Role) → is_item k r ≡ true → may_begin k r ≡ true
item_begins k roles.Proc e = refl
item_begins true roles.Export e = refl
item_begins false roles.Export e = e
item_begins k roles.Main e = cc

item_closed : (k : Bool) (r : Role) (ps : List Procedure) (p : Procedure) → is_item k r ≡ true → closed ps r p ≡ Top (ps ++ p ∷ [])
item_closed k roles.Proc ps p e = refl
item_closed k roles.Export ps p e = refl
item_closed k roles.Main ps p e = cc

item_run : (k : Bool) (ps : List Procedure) (h : Header) (b : Body) (us : List Terminal) → may_begin k h.role ≡ true → Spells b us
    → run k (Some (Top ps)) (terminals.Header h ∷ (us ++ terminals.End ∷ [])) ≡ Some (closed ps h.role (procedure h b))
item_run k ps h b us may d =
    ap (λ t. run k (cond t (Some (Inside ps h [] Empty)) None) (us ++ terminals.End ∷ [])) may
    ∙ complete d k ps h [] Empty (terminals.End ∷ [])

pub procs_complete : (k : Bool) {ps : List Procedure} {ts : List Terminal} → SpellsProcs k ps ts → run k (Some (Top [])) ts ≡ Some (Top ps)
procs_complete k none = refl
procs_complete k (constant c {ps = ps} {ts = ts} d) =
    run-append k (Some (Top [])) ts (terminals.Const c ∷ []) ∙ ap (λ o. run k o (terminals.Const c ∷ [])) (procs_complete k d)
procs_complete k (item h {ps = ps} {b = b} {ts = ts} {us = us} is d f) =
    run-append k (Some (Top [])) ts (terminals.Header h ∷ (us ++ terminals.End ∷ []))
    ∙ ap (λ o. run k o (terminals.Header h ∷ (us ++ terminals.End ∷ []))) (procs_complete k d)
    ∙ item_run k ps h b us (item_begins k h.role is) f
    ∙ ap Some (item_closed k h.role ps (procedure h b) is)

main_complete : (ps : List Procedure) (main : Procedure) (ts : List Terminal) → SpellsMain ps main ts
    → run false (Some (Top [])) ts ≡ Some (Behind ps main)
main_complete ps main ts m =
    ap (λ x. run false (Some (Top [])) x) m.whole
    ∙ run-append false (Some (Top [])) m.front (terminals.Header m.header ∷ (m.inner ++ terminals.End ∷ []))
    ∙ ap (λ o. run false o (terminals.Header m.header ∷ (m.inner ++ terminals.End ∷ []))) (procs_complete false m.items)
    ∙ item_run false ps m.header m.body m.inner (ap (may_begin false) m.role) m.spelled
    ∙ ap (λ r. Some (closed ps r (procedure m.header m.body))) m.role
    ∙ ap (λ p. Some (Behind ps p)) (sym m.is)

-- the last configuration of a source
abbrev pub last_configuration : List Procedure → Option Procedure → Configuration
last_configuration procs None = Top procs
last_configuration procs (Some main) = Behind procs main

pub whole_runs : (k : Bool) (procs : List Procedure) (main : Option Procedure) (ts : List Terminal) → SpellsParts k procs main ts
    → run k (Some (Top [])) ts ≡ Some (last_configuration procs main)
whole_runs true procs None ts d = procs_complete true d
whole_runs true procs (Some main) ts d = absurd d
whole_runs false procs None ts d = absurd d
whole_runs false procs (Some main) ts d = main_complete procs main ts d

some_none : {X : Type 0} (x : X) → Some x ≡ None → ⊥
some_none x e = cc

-- a token without a shift begins no source behind the ones before it
pub dies : (k : Bool) (before more : List Terminal) (s : Configuration) (t : Terminal) (procs : List Procedure) (main : Option Procedure)
    → run k (Some (Top [])) before ≡ Some s → shift k s t ≡ None → SpellsParts k procs main (before ++ t ∷ more) → ⊥
dies k before more s t procs main so misfit whole =
    some_none (last_configuration procs main)
    (sym (whole_runs k procs main (before ++ t ∷ more) whole)
    ∙ run-append k (Some (Top [])) before (t ∷ more)
    ∙ ap (λ o. run k o (t ∷ more)) so
    ∙ ap (λ o. run k o more) misfit
    ∙ run-none k more)

pub spells_append : {b : Body} {us : List Terminal} → Spells b us → (c : Body) (vs : List Terminal) → Spells c vs → Spells (append b c) (us ++ vs)
spells_append nothing c vs e = e
spells_append (leaf at l {b = b} {ts = ts} d) c vs e = leaf at l (spells_append d c vs e)
spells_append (if_only at {a = x} {b = b} {us = us} {ts = ts} f d) c vs e =
    subst (λ z. Spells (If_then at x Empty (append b c)) (terminals.If at ∷ z)) (sym (append_assoc us (terminals.End ∷ ts) vs))
    (if_only at {a = x} {b = append b c} {us = us} {ts = ts ++ vs} f (spells_append d c vs e))
spells_append (if_else at {a = x} {e = y} {b = b} {us = us} {vs = ws} {ts = ts} f g d) c vs e =
    subst (λ z. Spells (If_then at x y (append b c)) (terminals.If at ∷ z))
    (sym (append_assoc us (terminals.Else ∷ (ws ++ terminals.End ∷ ts)) vs
    ∙ ap (λ z. us ++ terminals.Else ∷ z) (append_assoc ws (terminals.End ∷ ts) vs)))
    (if_else at {a = x} {e = y} {b = append b c} {us = us} {vs = ws} {ts = ts ++ vs} f g (spells_append d c vs e))
spells_append (while at {a = x} {b = b} {us = us} {ts = ts} f d) c vs e =
    subst (λ z. Spells (While_then at x (append b c)) (terminals.While at ∷ z)) (sym (append_assoc us (terminals.End ∷ ts) vs))
    (while at {a = x} {b = append b c} {us = us} {ts = ts ++ vs} f (spells_append d c vs e))
spells_append (repeated at n {a = x} {b = b} {us = us} {ts = ts} f d) c vs e =
    subst (λ z. Spells (Repeat_then at n x (append b c)) (terminals.Repeat at n ∷ z)) (sym (append_assoc us (terminals.End ∷ ts) vs))
    (repeated at n {a = x} {b = append b c} {us = us} {ts = ts ++ vs} f (spells_append d c vs e))
