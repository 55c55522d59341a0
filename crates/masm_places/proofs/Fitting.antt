-- What holds all along a walk: each level is a part of the body of a procedure that stands in the sources, and the operations that are
-- awaited are those of what stands at the innermost level's place. Statements that take no cycle keep it.
use Rattle.std.proofs.Common.{◌≡◌, ℕ, zero, suc, ◌||◌, Bool, true, false, nat_lt, List, [], ◌∷◌, length, drop, slice_get, Option, Some, None, unwrap_or, option_map, refl, ap, sym, subst, ◌∙◌, ◌⊎◌, inl, inr}
use Rattle.std.specs.Prelude.{if◌then◌else◌}
use Rattle.std.specs.Option.{option_and_then}
use Rattle.vm_ops.specs.declared.item.Item.{Item}
use Rattle.masm_instr.specs.Instructions.{Instruction}
use Rattle.masm_expand.specs.Expansion.{expansion}
use Rattle.masm_tree.specs.declared.terminal.Leaf.{Leaf}
use Rattle.masm_tree.specs.declared.terminal.Leaf.TheVariants as leaves
use Rattle.masm_tree.specs.declared.tree.Position.{Position}
use Rattle.masm_tree.specs.Trees.{Body, Empty, Leaf_then, If_then, While_then, Repeat_then, Procedure, position_of}
use Rattle.masm_places.specs.declared.level.Part.{Part}
use Rattle.masm_places.specs.declared.level.Part.TheVariants as parts
use Rattle.masm_places.specs.declared.origin.Origin.{Origin}
use Rattle.masm_places.specs.declared.origin.Origin.TheVariants as origins
use Rattle.masm_names.specs.Uses.{first_place}
use Rattle.masm_places.specs.Origins.{origin_at}
use Rattle.masm_places.specs.Texts.{Texts, Found, found, found_in_program, found_in_kernel, at_place}
use Rattle.masm_places.specs.Pending.{Level, Walk, taken, begun, within, turned, exited, faced, entry_items, exit_items}
use Rattle.masm_places.specs.Silent.{lost, innermost, outer, is_busy, with_items, has_local, takes_up, with_digest, executes, repeats, ended, passed_leaf, passed, passed_at, silent, settled_in, settled, most_silent_steps}
use Rattle.masm_places.specs.Honest.{HasLeaf, here, behind, in_repeat, behind_repeat, Stands, in_program, in_kernel, OperationsAt, instruction, entry, exit, ReferenceAt}

-- each leaf of a body stands in another one
abbrev pub IsPart : Body → Body → Type 0
IsPart body whole = (at : Position) (leaf : Leaf) → HasLeaf at leaf body → HasLeaf at leaf whole

pub none : (whole : Body) → IsPart Empty whole
none whole at leaf h = elim h [ ]

pub record LevelFits (texts : Texts) (l : Level) : Type 0 where
  pub stands : Stands texts l.origin l.procedure
  pub left : IsPart l.left l.procedure.body
  pub again : IsPart l.again l.procedure.body
  pub home : l.owes ≡ true → l.home ≡ position_of l.procedure

abbrev pub LevelsFit : Texts → List Level → Type 0
LevelsFit texts [] = Unit {0}
LevelsFit texts (l ∷ levels) = LevelFits texts l × LevelsFit texts levels

-- what is awaited at a place of a procedure
pub record Pends (p : Procedure) (at : Position) (items : List Item) (done literals : ℕ) : Type 0 where
  pub operations : nat_lt done (length items) ≡ true → OperationsAt p at items
  pub reference : nat_lt 0 literals ≡ true → ReferenceAt p at

abbrev pub PendsAt : List Level → List Item → ℕ → ℕ → Type 0
PendsAt [] items done literals = Unit {0}
PendsAt (l ∷ levels) items done literals = Pends l.procedure l.at items done literals

pub record Fits (texts : Texts) (w : Walk) : Type 0 where
  pub levels : LevelsFit texts w.levels
  pub pends : PendsAt w.levels w.items w.done w.literals

-- nothing is awaited
pub record IsCalm (w : Walk) : Type 0 where
  pub operations : nat_lt w.done (length w.items) ≡ false
  pub reference : nat_lt 0 w.literals ≡ false

pub never : (b : Bool) → b ≡ false → b ≡ true → ⊥
never true is not = cc
never false is not = cc

neither : (a b : Bool) → (a || b) ≡ false → (a ≡ false) × (b ≡ false)
neither true true e = absurd (cc)
neither true false e = absurd (cc)
neither false true e = absurd (cc)
neither false false e = (refl, refl)

pub calm : (w : Walk) → is_busy w ≡ false → IsCalm w
calm w e =
    let both = neither (nat_lt w.done (length w.items)) (nat_lt 0 w.literals) e in record { operations = both.0; reference = both.1 }

pub calm-pends : (levels : List Level) (items : List Item) (done literals : ℕ) → nat_lt done (length items) ≡ false → nat_lt 0 literals ≡ false
    → PendsAt levels items done literals
calm-pends [] items done literals a b = tt
calm-pends (l ∷ levels) items done literals a b =
    record { operations = λ t. absurd (never _ a t); reference = λ t. absurd (never _ b t) }

pub fresh-pends : (l : Level) (levels : List Level) (items : List Item) → OperationsAt l.procedure l.at items → PendsAt (l ∷ levels) items 0 0
fresh-pends l levels items of = record { operations = λ t. of; reference = λ t. absurd (never false refl t) }

pub lost-fits : (texts : Texts) (w : Walk) → Fits texts (lost w)
lost-fits texts w = record { levels = tt; pends = tt }

pub outer-fits : (texts : Texts) (levels : List Level) → LevelsFit texts levels → LevelsFit texts (drop 1 levels)
outer-fits texts [] fit = tt
outer-fits texts (l ∷ levels) fit = fit.1

pub first-fits : (texts : Texts) (levels : List Level) (l : Level) → slice_get levels 0 ≡ Some l → LevelsFit texts levels → LevelFits texts l
first-fits texts [] l at fit = absurd (cc)
first-fits texts (m ∷ levels) l at fit = let same : m ≡ l = cc in subst (LevelFits texts) same fit.0

pub first-pends : (levels : List Level) (items : List Item) (done literals : ℕ) (l : Level) → slice_get levels 0 ≡ Some l
    → PendsAt levels items done literals → Pends l.procedure l.at items done literals
first-pends [] items done literals l at pends = absurd (cc)
first-pends (m ∷ levels) items done literals l at pends =
    let same : m ≡ l = cc in subst (λ (k : Level). Pends k.procedure k.at items done literals) same pends

-- procedures that are found stand in the sources
placed : (texts : Texts) (origin : ℕ → Origin) (procs : List Procedure)
    → ((place : ℕ) (p : Procedure) → slice_get procs place ≡ Some p → Stands texts (origin place) p) → (o : Option ℕ) (f : Found)
    → option_and_then (at_place origin procs) o ≡ Some f → Stands texts f.origin f.procedure
placed texts origin procs stands None f is = absurd (cc)
placed texts origin procs stands (Some place) f is = at (slice_get procs place) refl is
  where
    at : (q : Option Procedure) → slice_get procs place ≡ q
        → option_map (λ p. record { origin = origin place; procedure = p }) q ≡ Some f → Stands texts f.origin f.procedure
    at None e is = absurd (cc)
    at (Some p) e is =
        let same : record { origin = origin place; procedure = p } ≡ f = cc in
        subst (λ (g : Found). Stands texts g.origin g.procedure) same (stands place p e)

pub program-stands : (texts : Texts) (name : List ℕ) (f : Found) → found_in_program texts name ≡ Some f → Stands texts f.origin f.procedure
program-stands texts name f is =
    placed texts (origin_at texts.own) texts.program (λ place p e. in_program place p e) (first_place texts.program name) f is

pub kernel-stands : (texts : Texts) (name : List ℕ) (f : Found) → found_in_kernel texts name ≡ Some f → Stands texts f.origin f.procedure
kernel-stands texts name f is =
    placed texts (λ place. origins.Kernel) texts.kernel (λ place p e. in_kernel place p e) (first_place texts.kernel name) f is

pub found-stands : (texts : Texts) (origin : Origin) (name : List ℕ) (f : Found) → found texts origin name ≡ Some f
    → Stands texts f.origin f.procedure
found-stands texts origins.Program name f is = program-stands texts name f is
found-stands texts origins.Library name f is = program-stands texts name f is
found-stands texts origins.Kernel name f is = kernel-stands texts name f is

-- levels that begin, go on and end
pub begun-fits : (texts : Texts) (part : Part) (f : Found) (n : ℕ) → Stands texts f.origin f.procedure → LevelFits texts (begun part f n)
begun-fits texts part f n stands =
    record { stands = stands; left = λ at leaf h. h; again = none f.procedure.body; home = λ t. refl }

pub taken-fits : (texts : Texts) (l : Level) (at : Position) (rest : Body) → LevelFits texts l → IsPart rest l.procedure.body
    → LevelFits texts (taken l at rest)
taken-fits texts l at rest fit part = record { stands = fit.stands; left = part; again = fit.again; home = fit.home }

pub within-fits : (texts : Texts) (l : Level) (part : Part) (at : Position) (left again : Body) (n : ℕ) → LevelFits texts l
    → IsPart left l.procedure.body → IsPart again l.procedure.body → LevelFits texts (within l part at left again n)
within-fits texts l part at left again n fit first more =
    record { stands = fit.stands; left = first; again = more; home = λ t. absurd (never false refl t) }

pub turned-fits : (texts : Texts) (l : Level) (part : Part) → LevelFits texts l → LevelFits texts (turned l part)
turned-fits texts l part fit = record { stands = fit.stands; left = fit.again; again = fit.again; home = fit.home }

pub faced-fits : (texts : Texts) (l : Level) → LevelFits texts l → LevelFits texts (faced l)
faced-fits texts l fit = record { stands = fit.stands; left = fit.left; again = fit.again; home = fit.home }

exited-fits : (texts : Texts) (l : Level) → LevelFits texts l → LevelFits texts (exited l)
exited-fits texts l fit =
    record { stands = fit.stands; left = fit.left; again = fit.again; home = λ t. absurd (never false refl t) }

-- Behind a statement that takes no cycle: operations that are awaited are new.
pub record Passed (texts : Texts) (v : Walk) : Type 0 where
  pub fits : Fits texts v
  pub fresh : nat_lt v.done (length v.items) ≡ true → (v.done ≡ 0) ⊎ (v.levels ≡ [])

lost-passed : (texts : Texts) (w : Walk) → Passed texts (lost w)
lost-passed texts w = record { fits = lost-fits texts w; fresh = λ t. inr refl }

calm-passed : (texts : Texts) (w : Walk) (levels : List Level) → IsCalm w → LevelsFit texts levels → Passed texts (record w { levels = levels })
calm-passed texts w levels calm fit = record {
  fits = record { levels = fit; pends = calm-pends levels w.items w.done w.literals calm.operations calm.reference };
  fresh = λ t. absurd (never _ calm.operations t);
}

items-passed : (texts : Texts) (w : Walk) (l : Level) (levels : List Level) (items : List Item) → LevelFits texts l → LevelsFit texts levels
    → OperationsAt l.procedure l.at items → Passed texts (with_items w (l ∷ levels) items)
items-passed texts w l levels items fit more of =
    record { fits = record { levels = (fit, more); pends = fresh-pends l levels items of }; fresh = λ t. inl refl }

module _ (texts : Texts) (w v : Walk) (all : LevelsFit texts (outer w)) (calm : IsCalm w) where
  ended-passed : (l : Level) (part : Part) → LevelFits texts l → ended w l part ≡ Some v → Passed texts v
  ended-passed l parts.Exec fit is =
      let same : record w { levels = outer w } ≡ v = cc in subst (Passed texts) same (calm-passed texts w (outer w) calm all)
  ended-passed l (parts.Repeat zero) fit is =
      let same : record w { levels = outer w } ≡ v = cc in subst (Passed texts) same (calm-passed texts w (outer w) calm all)
  ended-passed l (parts.Repeat (suc n)) fit is =
      let same : record w { levels = turned l (parts.Repeat n) ∷ outer w } ≡ v = cc in
      subst (Passed texts) same
      (calm-passed texts w (turned l (parts.Repeat n) ∷ outer w) calm (turned-fits texts l (parts.Repeat n) fit, all))
  ended-passed l parts.Call fit is = absurd (cc)
  ended-passed l parts.Branch fit is = absurd (cc)
  ended-passed l parts.Turn fit is = absurd (cc)
  ended-passed l parts.Dynamic fit is = absurd (cc)

  end-passed : (l : Level) (b : Bool) → l.owes ≡ b → LevelFits texts l
      → (if b then Some (with_items w (exited l ∷ outer w) (exit_items l.procedure.locals)) else ended w l l.part) ≡ Some v → Passed texts v
  end-passed l true owes fit is =
      let same : with_items w (exited l ∷ outer w) (exit_items l.procedure.locals) ≡ v = cc in
      let of : OperationsAt l.procedure l.home (exit_items l.procedure.locals) =
      subst (λ (at : Position). OperationsAt l.procedure at (exit_items l.procedure.locals)) (sym (fit.home owes)) exit in
      subst (Passed texts) same
      (items-passed texts w (exited l) (outer w) (exit_items l.procedure.locals) (exited-fits texts l fit) all of)
  end-passed l false owes fit is = ended-passed l l.part fit is

  takes-passed : (l : Level) (i : Instruction) (b : Bool) → LevelFits texts l → HasLeaf l.at (leaves.Instr i) l.procedure.body
      → Passed texts
      (if b then with_items w (l ∷ outer w) (expansion i.name i.numbers l.procedure.locals) else lost w)
  takes-passed l i true fit has =
      items-passed texts w l (outer w) (expansion i.name i.numbers l.procedure.locals) fit all (instruction l.at i has)
  takes-passed l i false fit has = lost-passed texts w

  executes-passed : (l : Level) (name : List ℕ) (o : Option Found) → found texts l.origin name ≡ o → LevelFits texts l
      → Passed texts (executes w l o)
  executes-passed l name None at fit = lost-passed texts w
  executes-passed l name (Some f) at fit =
      items-passed texts w (begun parts.Exec f 0) (l ∷ outer w) (entry_items f.procedure.locals)
      (begun-fits texts parts.Exec f 0 (found-stands texts l.origin name f at)) (fit, all) entry

  digest-passed : (l : Level) (name : List ℕ) → LevelFits texts l → HasLeaf l.at (leaves.ProcRef name) l.procedure.body
      → Passed texts (with_digest w l)
  digest-passed l name fit has = record {
    fits = record {
      levels = (fit, all);
      pends = record {
        operations = λ t. absurd (never false refl t);
        reference = λ t. record { name = name; stands = has };
      };
    };
    fresh = λ t. inl refl;
  }

  leaf-passed : (l : Level) (leaf : Leaf) → LevelFits texts l → HasLeaf l.at leaf l.procedure.body → passed_leaf texts w l leaf ≡ Some v
      → Passed texts v
  leaf-passed l (leaves.Instr i) fit has is =
      let same : takes_up w l i ≡ v = cc in
      subst (Passed texts) same (takes-passed l i (has_local i l.procedure.locals) fit has)
  leaf-passed l (leaves.Exec name) fit has is =
      let same : executes w l (found texts l.origin name) ≡ v = cc in
      subst (Passed texts) same (executes-passed l name (found texts l.origin name) refl fit)
  leaf-passed l (leaves.ProcRef name) fit has is =
      let same : with_digest w l ≡ v = cc in subst (Passed texts) same (digest-passed l name fit has)
  leaf-passed l (leaves.Call name) fit has is = absurd (cc)
  leaf-passed l (leaves.Syscall name) fit has is = absurd (cc)
  leaf-passed l leaves.DynExec fit has is = absurd (cc)

  body-passed : (l : Level) (body : Body) → LevelFits texts l → IsPart body l.procedure.body → passed texts w l body ≡ Some v → Passed texts v
  body-passed l Empty fit part is = end-passed l l.owes refl fit is
  body-passed l (Leaf_then at leaf rest) fit part is =
      leaf-passed (taken l at rest) leaf (taken-fits texts l at rest fit (λ a x h. part a x (behind at leaf rest h)))
      (part at leaf (here rest)) is
  body-passed l (If_then at one other rest) fit part is = absurd (cc)
  body-passed l (While_then at turn rest) fit part is = absurd (cc)
  body-passed l (Repeat_then at n turn rest) fit part is =
      let m : Level = taken l at rest in
      let fits : LevelFits texts m = taken-fits texts l at rest fit (λ a x h. part a x (behind_repeat at n turn rest h)) in
      let more : LevelFits texts (within m (parts.Repeat n) at Empty turn 0) =
      within-fits texts m (parts.Repeat n) at Empty turn 0 fits (none l.procedure.body) (λ a x h. part a x (in_repeat at n turn rest h)) in
      let same : repeats w m n turn ≡ v = cc in
      subst (Passed texts) same
      (calm-passed texts w (within m (parts.Repeat n) at Empty turn 0 ∷ m ∷ outer w) calm (more, (fits, all)))

  at-passed : (o : Option Level) → innermost w ≡ o → Fits texts w → passed_at texts w o ≡ Some v → Passed texts v
  at-passed None at fits is = absurd (cc)
  at-passed (Some l) at fits is =
      let fit = first-fits texts w.levels l at fits.levels in body-passed l l.left fit fit.left is

pub silent-passed : (texts : Texts) (w v : Walk) → Fits texts w → silent texts w ≡ Some v → Passed texts v
silent-passed texts w v fits is = by (is_busy w) refl is
  where
    by : (b : Bool) → is_busy w ≡ b → (if b then None else passed_at texts w (innermost w)) ≡ Some v → Passed texts v
    by true e is = absurd (cc)
    by false e is = at-passed texts w v (outer-fits texts w.levels fits.levels) (calm w e) (innermost w) refl fits is

-- Behind all of them: operations that are awaited are new, or nothing was passed.
pub record Settled (texts : Texts) (w v : Walk) : Type 0 where
  pub fits : Fits texts v
  pub order : nat_lt v.done (length v.items) ≡ true → (v ≡ w) ⊎ ((v.done ≡ 0) ⊎ (v.levels ≡ []))

settles-by : (texts : Texts) (w : Walk) (next : Walk → Walk) → ((u : Walk) → Fits texts u → Settled texts u (next u)) → Fits texts w
    → (o : Option Walk) → silent texts w ≡ o → Settled texts w (unwrap_or (option_map next o) w)
settles-by texts w next later fits None e = record { fits = fits; order = λ t. inl refl }
settles-by texts w next later fits (Some u) e =
    record { fits = (later u passed.fits).fits; order = λ t. from t ((later u passed.fits).order t) }
  where
    passed : Passed texts u
    passed = silent-passed texts w u fits e

    new : next u ≡ u → (u.done ≡ 0) ⊎ (u.levels ≡ []) → (next u ≡ w) ⊎ (((next u).done ≡ 0) ⊎ ((next u).levels ≡ []))
    new same (inl zero_done) = inr (inl (ap (λ (k : Walk). k.done) same ∙ zero_done))
    new same (inr no_levels) = inr (inr (ap (λ (k : Walk). k.levels) same ∙ no_levels))

    from : nat_lt (next u).done (length (next u).items) ≡ true → (next u ≡ u) ⊎ (((next u).done ≡ 0) ⊎ ((next u).levels ≡ []))
        → (next u ≡ w) ⊎ (((next u).done ≡ 0) ⊎ ((next u).levels ≡ []))
    from t (inr x) = inr x
    from t (inl same) = new same (passed.fresh (subst (λ (k : Walk). nat_lt k.done (length k.items) ≡ true) same t))

pub settles-in : (n : ℕ) (texts : Texts) (w : Walk) → Fits texts w → Settled texts w (settled_in n texts w)
unfolding settled_in
settles-in zero texts w fits = record { fits = lost-fits texts w; order = λ t. inr (inr refl) }
settles-in (suc n) texts w fits = settles-by texts w (settled_in n texts) (settles-in n texts) fits (silent texts w) refl

pub settles : (texts : Texts) (w : Walk) → Fits texts w → Settled texts w (settled texts w)
unfolding settled
settles texts w fits = settles-in most_silent_steps texts w fits
