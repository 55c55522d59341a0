-- What the tokens so far are in each configuration of the machine, and how they go on to a source.
use Rattle.masm_parse.proofs.Words.{◌≡◌, ℕ, Bool, true, false, cond, List, [], ◌∷◌, ◌++◌, Option, Some, None, refl, ap, sym, subst, ◌∙◌, append_assoc}
use Rattle.masm_parse.proofs.Words.{append-nil, codes, Position, Role, Header, Terminal, Body, Empty, Leaf_then, If_then, While_then, Repeat_then, Procedure}
use Rattle.masm_parse.proofs.Words.{append, OpenStatement, In_if, In_else, In_while, In_repeat, Configuration, Top, Inside, Behind, procedure, reduce, closed}
use Rattle.masm_parse.proofs.Words.{shift, may_begin, constants}
use Rattle.masm_tree.specs.declared.terminal.Role.TheVariants as roles
use Rattle.masm_tree.specs.declared.terminal.Terminal.TheVariants as terminals
use Rattle.masm_parse.specs.Grammar.{Spells, nothing, leaf, if_only, if_else, while, repeated, is_item, SpellsProcs, constant, item, SpellsMain, SpellsParts, IsSource}
use Rattle.masm_parse.specs.Refusals.{FitsAfter}
use Rattle.masm_parse.proofs.Complete.{spells_append}

-- the tokens of an open statement, from its first on
pub data OpenPart : OpenStatement → Body → List Terminal → Type 0 where
  part_if : (at : Position) (before : Body) {b : Body} {us : List Terminal} → Spells b us → OpenPart (In_if at before) b (terminals.If at ∷ us)
  part_else : (at : Position) (before : Body) {first b : Body} {us vs : List Terminal} → Spells first us → Spells b vs
      → OpenPart (In_else at before first) b (terminals.If at ∷ (us ++ terminals.Else ∷ vs))
  part_while : (at : Position) (before : Body) {b : Body} {us : List Terminal} → Spells b us → OpenPart (In_while at before) b (terminals.While at ∷ us)
  part_repeat : (at : Position) (n : ℕ) (before : Body) {b : Body} {us : List Terminal} → Spells b us
      → OpenPart (In_repeat at n before) b (terminals.Repeat at n ∷ us)

-- the statements before an open one
abbrev pub before_of : OpenStatement → Body
before_of (In_if at before) = before
before_of (In_else at before first) = before
before_of (In_while at before) = before
before_of (In_repeat at n before) = before

-- the open one with its last body
abbrev pub last_of : OpenStatement → Body → Body
last_of (In_if at before) b = If_then at b Empty Empty
last_of (In_else at before first) b = If_then at first b Empty
last_of (In_while at before) b = While_then at b Empty
last_of (In_repeat at n before) b = Repeat_then at n b Empty

reduce_is : (o : OpenStatement) (b : Body) → append (before_of o) (last_of o b) ≡ reduce o b
reduce_is (In_if at before) b = refl
reduce_is (In_else at before first) b = refl
reduce_is (In_while at before) b = refl
reduce_is (In_repeat at n before) b = refl

extend_part : {o : OpenStatement} {b : Body} {us : List Terminal} → OpenPart o b us → (c : Body) (vs : List Terminal) → Spells c vs
    → OpenPart o (append b c) (us ++ vs)
extend_part (part_if at before d) c vs e = part_if at before (spells_append d c vs e)
extend_part (part_else at before {first = first} {b = b} {us = us} {vs = ws} f d) c vs e =
    subst (λ z. OpenPart (In_else at before first) (append b c) (terminals.If at ∷ z)) (sym (append_assoc us (terminals.Else ∷ ws) vs))
    (part_else at before {first = first} {b = append b c} {us = us} {vs = ws ++ vs} f (spells_append d c vs e))
extend_part (part_while at before d) c vs e = part_while at before (spells_append d c vs e)
extend_part (part_repeat at n before d) c vs e = part_repeat at n before (spells_append d c vs e)

close_part : {o : OpenStatement} {b : Body} {us : List Terminal} → OpenPart o b us → Spells (last_of o b) (us ++ terminals.End ∷ [])
close_part (part_if at before d) = if_only at d nothing
close_part (part_else at before {first = first} {b = b} {us = us} {vs = vs} f d) =
    subst (λ z. Spells (If_then at first b Empty) (terminals.If at ∷ z)) (sym (append_assoc us (terminals.Else ∷ vs) (terminals.End ∷ [])))
    (if_else at {a = first} {e = b} {b = Empty} {us = us} {vs = vs} {ts = []} f d nothing)
close_part (part_while at before d) = while at d nothing
close_part (part_repeat at n before d) = repeated at n d nothing

else_part : {at : Position} {before b : Body} {us : List Terminal} → OpenPart (In_if at before) b us
    → OpenPart (In_else at before b) Empty (us ++ terminals.Else ∷ [])
else_part (part_if at before d) = part_else at before d nothing

-- the tokens of a body, with statements open in it
abbrev pub Holds : List OpenStatement → Body → List Terminal → Type 0
Holds [] b ts = Spells b ts
Holds (o ∷ os) b ts = (f : List Terminal) × (us : List Terminal) × (ts ≡ f ++ us) × Holds os (before_of o) f × OpenPart o b us

extend : (os : List OpenStatement) (b : Body) (ts : List Terminal) → Holds os b ts → (c : Body) (vs : List Terminal) → Spells c vs
    → Holds os (append b c) (ts ++ vs)
extend [] b ts h c vs d = spells_append h c vs d
extend (o ∷ os) b ts (f, us, e, h, p) c vs d =
    (f, us ++ vs, ap (λ x. x ++ vs) e ∙ append_assoc f us vs, h, extend_part p c vs d)

reduce_holds : (o : OpenStatement) (os : List OpenStatement) (b : Body) (ts : List Terminal) → Holds (o ∷ os) b ts
    → Holds os (reduce o b) (ts ++ terminals.End ∷ [])
reduce_holds o os b ts (f, us, e, h, p) =
    subst (λ x. Holds os x (ts ++ terminals.End ∷ [])) (reduce_is o b)
    (subst (λ x. Holds os (append (before_of o) (last_of o b)) x)
    (sym (ap (λ x. x ++ terminals.End ∷ []) e ∙ append_assoc f us (terminals.End ∷ [])))
    (extend os (before_of o) f h (last_of o b) (us ++ terminals.End ∷ []) (close_part p)))

else_holds : (at : Position) (before : Body) (os : List OpenStatement) (b : Body) (ts : List Terminal) → Holds (In_if at before ∷ os) b ts
    → Holds (In_else at before b ∷ os) Empty (ts ++ terminals.Else ∷ [])
else_holds at before os b ts (f, us, e, h, p) =
    (f, us ++ terminals.Else ∷ [], ap (λ x. x ++ terminals.Else ∷ []) e ∙ append_assoc f us (terminals.Else ∷ []), h, else_part p)

-- the tokens so far
abbrev pub Standing : Bool → Configuration → List Terminal → Type 0
Standing k (Top ps) ts = SpellsProcs k ps ts
Standing k (Inside ps h os b) ts =
    (f : List Terminal) × (us : List Terminal) × (ts ≡ f ++ terminals.Header h ∷ us) × (may_begin k h.role ≡ true)
    × SpellsProcs k ps f × Holds os b us
Standing k (Behind ps main) ts = (k ≡ false) × SpellsMain ps main ts

abbrev pub StandingIf : Bool → Option Configuration → List Terminal → Type 0
StandingIf k None ts = Unit {0}
StandingIf k (Some s) ts = Standing k s ts

export_kernel : (k : Bool) → may_begin k roles.Export ≡ true → k ≡ true
export_kernel true e = refl
export_kernel false e = e

main_program : (k : Bool) → may_begin k roles.Main ≡ true → k ≡ false
main_program true e = sym e
main_program false e = refl

closing : (k : Bool) (r : Role) (ps : List Procedure) (h : Header) (b : Body) (f us : List Terminal) → h.role ≡ r → may_begin k r ≡ true
    → SpellsProcs k ps f → Spells b us → Standing k (closed ps r (procedure h b)) (f ++ terminals.Header h ∷ (us ++ terminals.End ∷ []))
closing k roles.Proc ps h b f us is may d s = item h {ps = ps} {b = b} {ts = f} {us = us} (ap (is_item k) is) d s
closing k roles.Export ps h b f us is may d s =
    item h {ps = ps} {b = b} {ts = f} {us = us} (ap (is_item k) is ∙ export_kernel k may) d s
closing k roles.Main ps h b f us is may d s = (
  main_program k may,
  record {
    front = f;
    header = h;
    body = b;
    inner = us;
    role = is;
    is = refl;
    items = subst (λ x. SpellsProcs x ps f) (main_program k may) d;
    spelled = s;
    whole = refl;
  },
)

longer : (ts f us : List Terminal) (h : Header) (t : Terminal) → ts ≡ f ++ terminals.Header h ∷ us
    → ts ++ t ∷ [] ≡ f ++ terminals.Header h ∷ (us ++ t ∷ [])
longer ts f us h t e = ap (λ x. x ++ t ∷ []) e ∙ append_assoc f (terminals.Header h ∷ us) (t ∷ [])

begun_by : (k : Bool) (ps : List Procedure) (h : Header) (ts : List Terminal) (may : Bool) → may_begin k h.role ≡ may → SpellsProcs k ps ts
    → StandingIf k (cond may (Some (Inside ps h [] Empty)) None) (ts ++ terminals.Header h ∷ [])
begun_by k ps h ts true e d = (ts, [], refl, e, d, nothing)
begun_by k ps h ts false e d = tt

-- each shift keeps it
pub kept : (k : Bool) (s : Configuration) (t : Terminal) (ts : List Terminal) → Standing k s ts → StandingIf k (shift k s t) (ts ++ t ∷ [])
kept k (Top ps) (terminals.Const c) ts d = constant c d
kept k (Top ps) (terminals.Header h) ts d = begun_by k ps h ts (may_begin k h.role) refl d
kept k (Inside ps h os b) (terminals.Leaf at l) ts (f, us, e, may, d, x) = (
  f,
  us ++ terminals.Leaf at l ∷ [],
  longer ts f us h (terminals.Leaf at l) e,
  may,
  d,
  extend os b us x (Leaf_then at l Empty) (terminals.Leaf at l ∷ []) (leaf at l nothing),
)
kept k (Inside ps h os b) (terminals.If at) ts (f, us, e, may, d, x) =
    (f, us ++ terminals.If at ∷ [], longer ts f us h (terminals.If at) e, may, d, (us, terminals.If at ∷ [], refl, x, part_if at b nothing))
kept k (Inside ps h os b) (terminals.While at) ts (f, us, e, may, d, x) = (
  f,
  us ++ terminals.While at ∷ [],
  longer ts f us h (terminals.While at) e,
  may,
  d,
  (us, terminals.While at ∷ [], refl, x, part_while at b nothing),
)
kept k (Inside ps h os b) (terminals.Repeat at n) ts (f, us, e, may, d, x) = (
  f,
  us ++ terminals.Repeat at n ∷ [],
  longer ts f us h (terminals.Repeat at n) e,
  may,
  d,
  (us, terminals.Repeat at n ∷ [], refl, x, part_repeat at n b nothing),
)
kept k (Inside ps h (In_if at before ∷ os) b) terminals.Else ts (f, us, e, may, d, x) =
    (f, us ++ terminals.Else ∷ [], longer ts f us h terminals.Else e, may, d, else_holds at before os b us x)
kept k (Inside ps h [] b) terminals.End ts (f, us, e, may, d, x) =
    subst (λ z. Standing k (closed ps h.role (procedure h b)) z) (sym (longer ts f us h terminals.End e))
    (closing k h.role ps h b f us refl may d x)
kept k (Inside ps h (o ∷ os) b) terminals.End ts (f, us, e, may, d, x) =
    (f, us ++ terminals.End ∷ [], longer ts f us h terminals.End e, may, d, reduce_holds o os b us x)
kept k s t ts d = tt

-- the tokens with some more are a source
abbrev pub Finishes : Bool → List Terminal → Type 0
Finishes k ts = (procs : List Procedure) × (main : Option Procedure) × (more : List Terminal) × SpellsParts k procs main (ts ++ more)

finish_top : (k : Bool) (ps : List Procedure) (ts : List Terminal) → SpellsProcs k ps ts → Finishes k ts
finish_top true ps ts d = (ps, None, [], subst (λ x. SpellsProcs true ps x) (sym (append-nil ts)) d)
finish_top false ps ts d =
    let h : Header = record { role = roles.Main; name = codes "begin"; locals = 0; at = record { line = 1; column = 1 } } in (
      ps,
      Some (procedure h Empty),
      terminals.Header h ∷ (terminals.End ∷ []),
      record {
        front = ts;
        header = h;
        body = Empty;
        inner = [];
        role = refl;
        is = refl;
        items = d;
        spelled = nothing;
        whole = refl;
      },
    )

finish_behind : (k : Bool) (ps : List Procedure) (main : Procedure) (ts : List Terminal) → k ≡ false → SpellsMain ps main ts → Finishes k ts
finish_behind k ps main ts is m =
    subst (λ x. Finishes x ts) (sym is) (ps, Some main, [], subst (λ x. SpellsMain ps main x) (sym (append-nil ts)) m)

finish_closed : (k : Bool) (r : Role) (ps : List Procedure) (p : Procedure) (ts : List Terminal) → Standing k (closed ps r p) ts → Finishes k ts
finish_closed k roles.Proc ps p ts d = finish_top k (ps ++ p ∷ []) ts d
finish_closed k roles.Export ps p ts d = finish_top k (ps ++ p ∷ []) ts d
finish_closed k roles.Main ps p ts d = finish_behind k ps p ts d.0 d.1

one_more : (k : Bool) (t : Terminal) (ts : List Terminal) → Finishes k (ts ++ t ∷ []) → Finishes k ts
one_more k t ts (procs, main, more, whole) =
    (procs, main, t ∷ more, subst (λ x. SpellsParts k procs main x) (append_assoc ts (t ∷ []) more) whole)

finish_inside : (k : Bool) (ps : List Procedure) (h : Header) (os : List OpenStatement) (b : Body) (ts : List Terminal)
    → Standing k (Inside ps h os b) ts → Finishes k ts
finish_inside k ps h [] b ts d =
    one_more k terminals.End ts
    (finish_closed k h.role ps (procedure h b) (ts ++ terminals.End ∷ []) (kept k (Inside ps h [] b) terminals.End ts d))
finish_inside k ps h (o ∷ os) b ts d =
    one_more k terminals.End ts
    (finish_inside k ps h os (reduce o b) (ts ++ terminals.End ∷ []) (kept k (Inside ps h (o ∷ os) b) terminals.End ts d))

pub finish : (k : Bool) (s : Configuration) (ts : List Terminal) → Standing k s ts → Finishes k ts
finish k (Top ps) ts d = finish_top k ps ts d
finish k (Inside ps h os b) ts d = finish_inside k ps h os b ts d
finish k (Behind ps main) ts d = finish_behind k ps main ts d.0 d.1

-- what finishes is a source
pub finished_source : (k : Bool) (ts : List Terminal) (x : Finishes k ts)
    → IsSource k (record { consts = constants (ts ++ x.2); procs = x.0; main = x.1 }) (ts ++ x.2)
finished_source k ts x = record { consts = refl; whole = x.3 }

pub fits : (k : Bool) (t : Terminal) (ts : List Terminal) → Finishes k (ts ++ t ∷ []) → FitsAfter k ts t
fits k t ts (procs, main, more, whole) =
    record {
      source = record { consts = constants (ts ++ t ∷ more); procs = procs; main = main };
      more = more;
      spelled = record { consts = refl; whole = subst (λ x. SpellsParts k procs main x) (append_assoc ts (t ∷ []) more) whole };
    }
