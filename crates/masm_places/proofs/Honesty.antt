-- Each cycle keeps what holds all along a walk, and no place is made up.
use Rattle.std.proofs.Common.{◌≡◌, ℕ, ◌+◌, ◌-◌, ◌&&◌, Bool, true, false, not, nat_lt, List, [], ◌∷◌, length, slice_get, Option, Some, None, option_map, refl, ap, sym, subst, ◌∙◌, ◌⊎◌, inl, inr}
use Rattle.std.specs.Prelude.{if◌then◌else◌, ◌==◌}
use Rattle.std.proofs.lemmas.Bool.{lt-ltb, eqb-true}
use Rattle.std.proofs.lemmas.Option.{slice_get_within}
use Rattle.vm_field.specs.Limits.{most_nesting}
use Rattle.vm_ops.specs.Codes.{code_of, kind_of}
use Rattle.vm_ops.proofs.CodeLemmas.{code_of-different}
use Rattle.vm_ops.specs.declared.item.Item.{Item}
use Rattle.vm_ops.specs.declared.kind.Kind.{Kind}
use Rattle.vm_ops.specs.declared.kind.Kind.TheVariants as kinds
use Rattle.vm_ops.specs.declared.op.Op.{Op}
use Rattle.masm_tree.specs.declared.terminal.Leaf.{Leaf}
use Rattle.masm_tree.specs.declared.terminal.Leaf.TheVariants as leaves
use Rattle.masm_tree.specs.Trees.{Body, Empty, Leaf_then, If_then, While_then, Repeat_then, Procedure}
use Rattle.masm_places.specs.declared.level.Part.{Part}
use Rattle.masm_places.specs.declared.level.Part.TheVariants as parts
use Rattle.masm_places.specs.declared.origin.Origin.TheVariants as origins
use Rattle.masm_places.specs.Texts.{Texts, Found, found, found_in_kernel}
use Rattle.masm_places.specs.Pending.{Level, Walk, taken, begun, within, turned, faced, entry_items}
use Rattle.masm_places.specs.Silent.{lost, innermost, outer, is_busy, settled}
use Rattle.masm_places.specs.Steps.{reached_at, reached, opened, block_op, is_op, inside, calls, chosen, enters_leaf, enters, enters_by, entered_at, entered, is_empty, has_block, is_turn, is_dynamic, leaves_by, left_at, left, closed, turns_by, repeated_at, repeated, same_immediate, same_item, is_item, is_literal, comes, acted, is_noop, unseen_left, unseen_end, unseen, seen, stepped_at, stepped}
use Rattle.masm_places.specs.Walks.{Seen, first_walk, begin, walked_from, walked}
use Rattle.masm_places.specs.Honest.{behind, in_first, in_second, behind_if, in_loop, behind_loop, Stands, in_main, entry, IsHonest, PlacesAreHonest}
use Rattle.masm_places.proofs.Fitting.{IsPart, none, LevelFits, LevelsFit, PendsAt, Fits, IsCalm, never, calm, calm-pends, fresh-pends, lost-fits, outer-fits, first-fits, first-pends, kernel-stands, found-stands, begun-fits, taken-fits, within-fits, turned-fits, faced-fits, Settled, settles}

calm-fits : (texts : Texts) (w : Walk) (levels : List Level) (n : ℕ) → IsCalm w → LevelsFit texts levels
    → Fits texts (record w { levels = levels; nested = n })
calm-fits texts w levels n calm fit =
    record { levels = fit; pends = calm-pends levels w.items w.done w.literals calm.operations calm.reference }

nested-fits : (texts : Texts) (w : Walk) (n : ℕ) → Fits texts w → Fits texts (record w { nested = n })
nested-fits texts w n fits = record { levels = fits.levels; pends = fits.pends }

opened-fits : (texts : Texts) (w : Walk) → Fits texts w → Fits texts (opened w)
opened-fits texts w fits = by (nat_lt w.nested most_nesting)
  where
    by : (b : Bool) → Fits texts (if b then record w { nested = w.nested + 1 } else lost w)
    by true = nested-fits texts w (w.nested + 1) fits
    by false = lost-fits texts w

module _ (texts : Texts) (top : ℕ) (w : Walk) (all : LevelsFit texts (outer w)) (calm : IsCalm w) where
  calls-fits : (l : Level) (o : Option Found) → ((f : Found) → o ≡ Some f → Stands texts f.origin f.procedure) → LevelFits texts l
      → Fits texts (calls w l o)
  calls-fits l None stands fit = lost-fits texts w
  calls-fits l (Some f) stands fit = record {
    levels = (begun-fits texts parts.Call f w.nested (stands f refl), (fit, all));
    pends = fresh-pends (begun parts.Call f w.nested) (l ∷ outer w) (entry_items f.procedure.locals) entry;
  }

  inside-fits : (l : Level) (part : Part) (first again : Body) → LevelFits texts l → IsPart first l.procedure.body
      → IsPart again l.procedure.body → Fits texts (inside w l part first again)
  inside-fits l part first again fit a b =
      calm-fits texts w (within l part l.at first again w.nested ∷ l ∷ outer w) 0 calm
      (within-fits texts l part l.at first again w.nested fit a b, (fit, all))

  leaf-fits : (l : Level) (leaf : Leaf) → LevelFits texts l → Fits texts (enters_leaf texts w l leaf)
  leaf-fits l (leaves.Instr i) fit = lost-fits texts w
  leaf-fits l (leaves.Exec name) fit = lost-fits texts w
  leaf-fits l (leaves.Call name) fit = calls-fits l (found texts l.origin name) (λ f e. found-stands texts l.origin name f e) fit
  leaf-fits l (leaves.Syscall name) fit = calls-fits l (found_in_kernel texts name) (λ f e. kernel-stands texts name f e) fit
  leaf-fits l (leaves.ProcRef name) fit = lost-fits texts w
  leaf-fits l leaves.DynExec fit =
      inside-fits l parts.Dynamic Empty Empty fit (none l.procedure.body) (none l.procedure.body)

  part-chosen : (b : Bool) (one other whole : Body) → IsPart one whole → IsPart other whole → IsPart (if b then one else other) whole
  part-chosen true one other whole a b = a
  part-chosen false one other whole a b = b

  enters-fits : (l : Level) (body : Body) → LevelFits texts l → IsPart body l.procedure.body → Fits texts (enters texts top w l body)
  enters-fits l Empty fit part = lost-fits texts w
  enters-fits l (Leaf_then at leaf rest) fit part =
      leaf-fits (taken l at rest) leaf (taken-fits texts l at rest fit (λ a x h. part a x (behind at leaf rest h)))
  enters-fits l (If_then at one other rest) fit part =
      inside-fits (taken l at rest) parts.Branch (chosen top one other) Empty
      (taken-fits texts l at rest fit (λ a x h. part a x (behind_if at one other rest h)))
      (part-chosen (top == 1) one other l.procedure.body (λ a x h. part a x (in_first at one other rest h))
      (λ a x h. part a x (in_second at one other rest h))) (none l.procedure.body)
  enters-fits l (While_then at turn rest) fit part =
      inside-fits (taken l at rest) parts.Turn (chosen top turn Empty) turn
      (taken-fits texts l at rest fit (λ a x h. part a x (behind_loop at turn rest h)))
      (part-chosen (top == 1) turn Empty l.procedure.body (λ a x h. part a x (in_loop at turn rest h)) (none l.procedure.body))
      (λ a x h. part a x (in_loop at turn rest h))
  enters-fits l (Repeat_then at n turn rest) fit part = lost-fits texts w

  by-fits : (op : Op) (l : Level) → LevelFits texts l → Fits texts (enters_by texts op top w l)
  by-fits op l fit = by (is_op (block_op l.left) op)
    where
      by : (b : Bool) → Fits texts (if b then enters texts top w l l.left else lost w)
      by true = enters-fits l l.left fit fit.left
      by false = lost-fits texts w

  leaves-fits : (l : Level) → Fits texts (leaves_by w l)
  leaves-fits l = by (is_empty l.left && (not l.owes && has_block l.part))
    where
      by : (b : Bool) → Fits texts (if b then record w { levels = outer w; nested = l.outside } else lost w)
      by true = calm-fits texts w (outer w) l.outside calm all
      by false = lost-fits texts w

  turns-fits : (l : Level) → LevelFits texts l → Fits texts (turns_by w l)
  turns-fits l fit = by (is_empty l.left && is_turn l.part)
    where
      by : (b : Bool) → Fits texts (if b then record w { levels = turned l l.part ∷ outer w } else lost w)
      by true = calm-fits texts w (turned l l.part ∷ outer w) w.nested calm (turned-fits texts l l.part fit, all)
      by false = lost-fits texts w

module _ (texts : Texts) (w : Walk) (fits : Fits texts w) where
  all-fit : LevelsFit texts (outer w)
  all-fit = outer-fits texts w.levels fits.levels

  reached-fits : Fits texts (reached w)
  reached-fits = by (is_busy w) refl
    where
      at : (o : Option Level) → innermost w ≡ o → IsCalm w → Fits texts (reached_at w o)
      at None e quiet = fits
      at (Some l) e quiet =
          calm-fits texts w (faced l ∷ outer w) w.nested quiet (faced-fits texts l (first-fits texts w.levels l e fits.levels), all-fit)

      by : (b : Bool) → is_busy w ≡ b → Fits texts (if b then w else reached_at w (innermost w))
      by true e = fits
      by false e = at (innermost w) refl (calm w e)

  entered-fits : (op : Op) (top : ℕ) → Fits texts (entered texts op top w)
  entered-fits op top = by (is_busy w) refl
    where
      at : (o : Option Level) → innermost w ≡ o → IsCalm w → Fits texts (entered_at texts op top w o)
      at None e quiet = fits
      at (Some l) e quiet = by-fits texts top w all-fit quiet op l (first-fits texts w.levels l e fits.levels)

      by : (b : Bool) → is_busy w ≡ b → Fits texts (if b then lost w else entered_at texts op top w (innermost w))
      by true e = lost-fits texts w
      by false e = at (innermost w) refl (calm w e)

  left-fits : Fits texts (left w)
  left-fits = by (is_busy w) refl
    where
      at : (o : Option Level) → IsCalm w → Fits texts (left_at w o)
      at None quiet = fits
      at (Some l) quiet = leaves-fits texts 0 w all-fit quiet l

      by : (b : Bool) → is_busy w ≡ b → Fits texts (if b then lost w else left_at w (innermost w))
      by true e = lost-fits texts w
      by false e = at (innermost w) (calm w e)

  repeated-fits : Fits texts (repeated w)
  repeated-fits = by (is_busy w) refl
    where
      at : (o : Option Level) → innermost w ≡ o → IsCalm w → Fits texts (repeated_at w o)
      at None e quiet = fits
      at (Some l) e quiet = turns-fits texts 0 w all-fit quiet l (first-fits texts w.levels l e fits.levels)

      by : (b : Bool) → is_busy w ≡ b → Fits texts (if b then lost w else repeated_at w (innermost w))
      by true e = lost-fits texts w
      by false e = at (innermost w) refl (calm w e)

  unseen_left-fits : (l : Level) → Fits texts (unseen_left w l)
  unseen_left-fits l = by (is_busy w) refl
    where
      by : (b : Bool) → is_busy w ≡ b → Fits texts (if b then lost w else record w { levels = outer w; nested = l.outside })
      by true e = lost-fits texts w
      by false e = calm-fits texts w (outer w) l.outside (calm w e) all-fit

  unseen_end-fits : (l : Level) → Fits texts (unseen_end w l)
  unseen_end-fits l = by (nat_lt 0 w.nested)
    where
      by : (b : Bool) → Fits texts (if b then record w { nested = w.nested - 1 } else unseen_left w l)
      by true = nested-fits texts w (w.nested - 1) fits
      by false = unseen_left-fits l

  unseen-fits : (l : Level) (kind : Kind) → Fits texts (unseen w l kind)
  unseen-fits l kinds.Ordinary = fits
  unseen-fits l kinds.Join = opened-fits texts w fits
  unseen-fits l kinds.Split = opened-fits texts w fits
  unseen-fits l kinds.Loop = opened-fits texts w fits
  unseen-fits l kinds.Span = opened-fits texts w fits
  unseen-fits l kinds.Call = opened-fits texts w fits
  unseen-fits l kinds.Syscall = opened-fits texts w fits
  unseen-fits l kinds.Dyn = opened-fits texts w fits
  unseen-fits l kinds.End = unseen_end-fits l
  unseen-fits l kinds.Repeat = fits
  unseen-fits l kinds.Respan = fits
  unseen-fits l kinds.Halt = fits

  -- some operations of the list are left
  awaits : (x : Item) → slice_get w.items w.done ≡ Some x → nat_lt w.done (length w.items) ≡ true
  awaits x e = lt-ltb w.done (length w.items) (slice_get_within w.items w.done x e)

  fewer : (levels : List Level) → nat_lt 0 w.literals ≡ true → PendsAt levels w.items w.done w.literals
      → PendsAt levels w.items w.done (w.literals - 1)
  fewer [] some pends = tt
  fewer (l ∷ levels) some pends = record { operations = pends.operations; reference = λ t. pends.reference some }

  more : (levels : List Level) → nat_lt w.done (length w.items) ≡ true → PendsAt levels w.items w.done w.literals
      → PendsAt levels w.items (w.done + 1) w.literals
  more [] some pends = tt
  more (l ∷ levels) some pends = record { operations = λ t. pends.operations some; reference = pends.reference }

  comes-fits : (item : Item) → Fits texts (comes item w)
  comes-fits item = at (slice_get w.items w.done) refl
    where
      at : (o : Option Item) → slice_get w.items w.done ≡ o
          → Fits texts (if is_item o item then record w { done = w.done + 1 } else lost w)
      at None e = lost-fits texts w
      at (Some x) e = by (same_item x item)
        where
          by : (b : Bool) → Fits texts (if b then record w { done = w.done + 1 } else lost w)
          by true = record { levels = fits.levels; pends = more w.levels (awaits x e) fits.pends }
          by false = lost-fits texts w

  acted-fits : (item : Item) → Fits texts (acted item w)
  acted-fits item = by (nat_lt 0 w.literals) refl
    where
      literal : (b : Bool) → nat_lt 0 w.literals ≡ true → Fits texts (if b then record w { literals = w.literals - 1 } else lost w)
      literal true some = record { levels = fits.levels; pends = fewer w.levels some fits.pends }
      literal false some = lost-fits texts w

      by : (b : Bool) → nat_lt 0 w.literals ≡ b
          → Fits texts (if b then (if is_literal item then record w { literals = w.literals - 1 } else lost w) else comes item w)
      by true e = literal (is_literal item) e
      by false e = comes-fits item

module _ (texts : Texts) (item : Item) (top : ℕ) (w : Walk) (fits : Fits texts w) where
  settled-fits : Fits texts (settled texts w)
  settled-fits = (settles texts w fits).fits

  closed-fits : Fits texts (closed texts w)
  closed-fits = by (nat_lt 0 w.nested)
    where
      by : (b : Bool) → Fits texts (if b then record w { nested = w.nested - 1 } else left (settled texts w))
      by true = nested-fits texts w (w.nested - 1) fits
      by false = left-fits texts (settled texts w) settled-fits

  start-fits : Fits texts (opened (reached (settled texts w)))
  start-fits = opened-fits texts (reached (settled texts w)) (reached-fits texts (settled texts w) settled-fits)

  ordinary-fits : (b : Bool) → Fits texts (if b then w else acted item (settled texts w))
  ordinary-fits true = fits
  ordinary-fits false = acted-fits texts (settled texts w) settled-fits item

  seen-fits : (kind : Kind) → Fits texts (seen texts item top w kind)
  seen-fits kinds.Ordinary = ordinary-fits (is_noop item.op)
  seen-fits kinds.Join = start-fits
  seen-fits kinds.Split = entered-fits texts (settled texts w) settled-fits item.op top
  seen-fits kinds.Loop = entered-fits texts (settled texts w) settled-fits item.op top
  seen-fits kinds.Span = start-fits
  seen-fits kinds.Call = entered-fits texts (settled texts w) settled-fits item.op top
  seen-fits kinds.Syscall = entered-fits texts (settled texts w) settled-fits item.op top
  seen-fits kinds.Dyn = entered-fits texts (settled texts w) settled-fits item.op top
  seen-fits kinds.End = closed-fits
  seen-fits kinds.Repeat = repeated-fits texts (settled texts w) settled-fits
  seen-fits kinds.Respan = settled-fits
  seen-fits kinds.Halt = fits

  at-fits : (o : Option Level) → Fits texts (stepped_at texts item top w o)
  at-fits None = fits
  at-fits (Some l) = by (is_dynamic l.part)
    where
      by : (b : Bool) → Fits texts (if b then unseen w l (kind_of item.op) else seen texts item top w (kind_of item.op))
      by true = unseen-fits texts w fits l (kind_of item.op)
      by false = seen-fits (kind_of item.op)

  stepped-fits : Fits texts (stepped texts item top w)
  unfolding stepped
  stepped-fits = at-fits (innermost w)

begin-fits : (texts : Texts) → Fits texts (begin texts)
begin-fits texts = by texts.main refl
  where
    by : (o : Option Procedure) → texts.main ≡ o
        → Fits texts (first_walk (option_map (λ p. record { origin = origins.Program; procedure = p }) o))
    by None e = record { levels = tt; pends = tt }
    by (Some p) e =
        let f : Found = record { origin = origins.Program; procedure = p } in record {
          levels = (begun-fits texts parts.Call f 0 (in_main p e), tt);
          pends = fresh-pends (begun parts.Call f 0) [] (entry_items p.locals) entry;
        }

walked-fits : (texts : Texts) (w : Walk) (cycles : List Seen) → Fits texts w → Fits texts (walked_from texts w cycles)
walked-fits texts w [] fits = fits
walked-fits texts w (e ∷ cycles) fits =
    walked-fits texts (stepped texts e.item e.top w) cycles (stepped-fits texts e.item e.top w fits)

-- two operations that are the same
both : (a b : Bool) → (a && b) ≡ true → (a ≡ true) × (b ≡ true)
both true true e = (refl, refl)
both true false e = absurd (cc)
both false true e = absurd (cc)
both false false e = absurd (cc)

same_immediates : (a b : Option ℕ) → same_immediate a b ≡ true → a ≡ b
same_immediates None None e = refl
same_immediates None (Some b) e = absurd (cc)
same_immediates (Some a) None e = absurd (cc)
same_immediates (Some a) (Some b) e = ap Some (eqb-true a b e)

same_items : (a b : Item) → same_item a b ≡ true → a ≡ b
same_items a b e =
    let parts = both (code_of a.op == code_of b.op) (same_immediate a.imm b.imm) e in
    let op : a.op ≡ b.op = code_of-different a.op b.op (eqb-true (code_of a.op) (code_of b.op) parts.0) in
    let imm : a.imm ≡ b.imm = same_immediates a.imm b.imm parts.1 in
    ap (λ (o : Op). record a { op = o }) op ∙ ap (λ (i : Option ℕ). record b { imm = i }) imm

-- an operation behind a settled walk
module _ (texts : Texts) (w v : Walk) (item : Item) (l : Level) (settles : Settled texts w v) where
  lost-none : innermost (lost v) ≡ Some l → ⊥
  lost-none at = cc

  -- of the same list as before, or the first of its list
  ordered : innermost v ≡ Some l → (v ≡ w) ⊎ ((v.done ≡ 0) ⊎ (v.levels ≡ []))
      → (v.done ≡ 0) ⊎ ((v.done ≡ w.done) × (v.items ≡ w.items) × (v.levels ≡ w.levels))
  ordered at (inl same) =
      inr (ap (λ (k : Walk). k.done) same, ap (λ (k : Walk). k.items) same, ap (λ (k : Walk). k.levels) same)
  ordered at (inr (inl zero_done)) = inl zero_done
  ordered at (inr (inr no_levels)) =
      absurd (let none_there : None ≡ Some l = sym (ap (λ (ls : List Level). slice_get ls 0) no_levels) ∙ at in cc)

  comes-honest : innermost (comes item v) ≡ Some l → IsHonest texts w (comes item v) item l
  comes-honest = at (slice_get v.items v.done) refl
    where
      at : (o : Option Item) → slice_get v.items v.done ≡ o
          → innermost (if is_item o item then record v { done = v.done + 1 } else lost v) ≡ Some l
          → IsHonest texts w (if is_item o item then record v { done = v.done + 1 } else lost v) item l
      at None e there = absurd (lost-none there)
      at (Some x) e there = by (same_item x item) refl there
        where
          by : (b : Bool) → same_item x item ≡ b → innermost (if b then record v { done = v.done + 1 } else lost v) ≡ Some l
              → IsHonest texts w (if b then record v { done = v.done + 1 } else lost v) item l
          by true is there = record {
            stands = (first-fits texts v.levels l there settles.fits.levels).stands;
            part = inl (record {
              of = (first-pends v.levels v.items v.done v.literals l there settles.fits.pends).operations
                  (awaits texts v settles.fits x e);
              number = v.done;
              done = refl;
              is = e ∙ ap Some (same_items x item is);
              order = ordered there (settles.order (awaits texts v settles.fits x e));
            });
          }
          by false is there = absurd (lost-none there)

  acted-honest : innermost (acted item v) ≡ Some l → IsHonest texts w (acted item v) item l
  acted-honest = by (nat_lt 0 v.literals) refl
    where
      literal : (b : Bool) → is_literal item ≡ b → nat_lt 0 v.literals ≡ true
          → innermost (if b then record v { literals = v.literals - 1 } else lost v) ≡ Some l
          → IsHonest texts w (if b then record v { literals = v.literals - 1 } else lost v) item l
      literal true is some there = record {
        stands = (first-fits texts v.levels l there settles.fits.levels).stands;
        part = inr ((first-pends v.levels v.items v.done v.literals l there settles.fits.pends).reference some, is);
      }
      literal false is some there = absurd (lost-none there)

      by : (b : Bool) → nat_lt 0 v.literals ≡ b
          → innermost (if b then (if is_literal item then record v { literals = v.literals - 1 } else lost v) else comes item v) ≡ Some l
          → IsHonest texts w (if b then (if is_literal item then record v { literals = v.literals - 1 } else lost v) else comes item v) item l
      by true e there = literal (is_literal item) refl e there
      by false e there = comes-honest there

module _ (texts : Texts) (item : Item) (top : ℕ) (w : Walk) (fits : Fits texts w) (l : Level) (known : is_dynamic l.part ≡ false) where
  ordinary-honest : (c : Bool) → c ≡ false → innermost (if c then w else acted item (settled texts w)) ≡ Some l
      → IsHonest texts w (if c then w else acted item (settled texts w)) item l
  ordinary-honest true is there = absurd (cc)
  ordinary-honest false is there = acted-honest texts w (settled texts w) item l (settles texts w fits) there

  level-honest : (m : Level) (b : Bool) → is_dynamic m.part ≡ b → innermost w ≡ Some m → is_noop item.op ≡ false
      → innermost (if b then unseen w m kinds.Ordinary else seen texts item top w kinds.Ordinary) ≡ Some l
      → IsHonest texts w (if b then unseen w m kinds.Ordinary else seen texts item top w kinds.Ordinary) item l
  level-honest m true is at operation there =
      let same : Some m ≡ Some l = sym at ∙ there in
      let level : m ≡ l = cc in absurd (never (is_dynamic l.part) known (subst (λ (k : Level). is_dynamic k.part ≡ true) level is))
  level-honest m false is at operation there = ordinary-honest (is_noop item.op) operation there

  at-honest : (o : Option Level) → innermost w ≡ o → kind_of item.op ≡ kinds.Ordinary → is_noop item.op ≡ false
      → innermost (stepped_at texts item top w o) ≡ Some l → IsHonest texts w (stepped_at texts item top w o) item l
  at-honest None at ordinary operation there = absurd (let nothing : None ≡ Some l = sym at ∙ there in cc)
  at-honest (Some m) at ordinary operation there =
      let by : innermost (if is_dynamic m.part then unseen w m (kind_of item.op) else seen texts item top w (kind_of item.op)) ≡ Some l
      → IsHonest texts w (if is_dynamic m.part then unseen w m (kind_of item.op) else seen texts item top w (kind_of item.op)) item l =
      subst (λ (kind : Kind).
      innermost (if is_dynamic m.part then unseen w m kind else seen texts item top w kind) ≡ Some l
      → IsHonest texts w (if is_dynamic m.part then unseen w m kind else seen texts item top w kind) item l) (sym ordinary)
      (level-honest m (is_dynamic m.part) refl at operation) in by there

  stepped-honest : kind_of item.op ≡ kinds.Ordinary → is_noop item.op ≡ false → innermost (stepped texts item top w) ≡ Some l
      → IsHonest texts w (stepped texts item top w) item l
  unfolding stepped
  stepped-honest ordinary operation there = at-honest (innermost w) refl ordinary operation there

pub places_are_honest : PlacesAreHonest
places_are_honest texts cycles item top l ordinary operation there known =
    stepped-honest texts item top (walked texts cycles) (walked-fits texts (begin texts) cycles (begin-fits texts)) l known ordinary operation
    there
