-- Procedures and exports by their names.
use Rattle.masm_tables.proofs.Words.{◌≡◌, ℕ, suc, ◌+◌, ◌≤◌, cond, List, [], ◌∷◌, Option, Some, None, inl, inr, refl, ap, ap₂, subst, ◌∙◌, bytes_eq}
use Rattle.masm_tables.proofs.Words.{slice_get, arith, cases_Bool, same_Some, find, Contains, option_map, tree_of, KernelProc, Block, as_tree, Exported}
use Rattle.masm_tables.proofs.Words.{first_procedure, first_export, as_extent, Procedure, first_place, cons_cases, AreExports, names_in, names_of}
use Rattle.std.proofs.lemmas.Slice.Eq.{bytes_eq-Decides}
use Rattle.masm_flat.specs.Blocks.{seen_as, as_operations}

-- a name has its first place where its first procedure stands
pub procedure_found : (procs : List Procedure) (name : List ℕ) (j : ℕ) → first_place procs name ≡ Some j
    → (p : Procedure) × (slice_get procs j ≡ Some p) × (first_procedure procs name ≡ Some p)
procedure_found [] name j e = cc
procedure_found (p ∷ procs) name j e = elim (cases_Bool (bytes_eq p.name name)) [
  | inl same ↦ (p, subst (λ k. slice_get (p ∷ procs) k ≡ Some p) (same_Some 0 j (rw same at e)) refl, rw same refl)
  | inr other ↦ later (first_place procs name) refl (λ i. procedure_found procs name i) (rw other at e) (rw other refl)
]
  where
    later : (o : Option ℕ) → first_place procs name ≡ o
        → ((i : ℕ) → first_place procs name ≡ Some i → (q : Procedure) × (slice_get procs i ≡ Some q) × (first_procedure procs name ≡ Some q))
        → option_map (λ i. i + 1) o ≡ Some j → first_procedure (p ∷ procs) name ≡ first_procedure procs name
        → (q : Procedure) × (slice_get (p ∷ procs) j ≡ Some q) × (first_procedure (p ∷ procs) name ≡ Some q)
    later None is rest e' skips = cc
    later (Some i) is rest e' skips =
        let found = rest i is in
        let one : suc i ≡ j = let is_j : i + 1 ≡ j = same_Some (i + 1) j e' in omega arith in
        (found.0, subst (λ k. slice_get (p ∷ procs) k ≡ Some found.0) one found.1, skips ∙ found.2)

-- an export of that name, with what is known of it
pub record Found (kernel : List KernelProc) (name : List ℕ) (block : Block) : Type 0 where
  pub proc : KernelProc
  pub found : find (λ p. bytes_eq p.name name) kernel ≡ Some proc
  pub tree : tree_of proc.tree ≡ seen_as as_tree block
  pub extent : proc.extent ≡ seen_as as_extent block
  pub some : 1 ≤ seen_as as_operations block

pub export_found : (exports : List Exported) (kernel : List KernelProc) → AreExports exports kernel → (name : List ℕ) (block : Block)
    → first_export exports name ≡ Some block → Found kernel name block
export_found [] kernel are name block e = cc
export_found (x ∷ exports) [] are name block e = absurd are
export_found (x ∷ exports) (p ∷ kernel) are name block e = elim (cases_Bool (bytes_eq x.name name)) [
  | inl same ↦
      let is : x.block ≡ block = same_Some x.block block (rw same at e) in
      record {
        proc = p;
        found = ap (λ b. cond b (Some p) (find (λ q. bytes_eq q.name name) kernel)) (ap (λ n. bytes_eq n name) are.0.name ∙ same);
        tree = are.0.tree ∙ ap (seen_as as_tree) is;
        extent = are.0.extent ∙ ap (seen_as as_extent) is;
        some = subst (λ b. 1 ≤ seen_as as_operations b) is are.0.some;
      }
  | inr other ↦
      let rest = export_found exports kernel are.1 name block (rw other at e) in
      record {
        proc = rest.proc;
        found = ap (λ b. cond b (Some p) (find (λ q. bytes_eq q.name name) kernel)) (ap (λ n. bytes_eq n name) are.0.name ∙ other) ∙ rest.found;
        tree = rest.tree;
        extent = rest.extent;
        some = rest.some;
      }
]

pub names_same : (exports : List Exported) (kernel : List KernelProc) → AreExports exports kernel → names_in kernel ≡ names_of exports
names_same [] [] are = refl
names_same [] (p ∷ kernel) are = absurd are
names_same (x ∷ exports) [] are = absurd are
names_same (x ∷ exports) (p ∷ kernel) are = ap₂ (λ n ns. n ∷ ns) are.0.name (names_same exports kernel are.1)

-- what is no export's name
pub export_none : (exports : List Exported) (name : List ℕ) → first_export exports name ≡ None → ¬ (Contains (names_of exports) name)
export_none [] name e h = absurd (omega (arith, h.1))
export_none (x ∷ exports) name e h = elim (cases_Bool (bytes_eq x.name name)) [
  | inl same ↦ let some : Some x.block ≡ None = rw same at e in cc
  | inr other ↦ elim (cons_cases x.name (names_of exports) name h) [
    | inl is ↦ let same = (bytes_eq-Decides x.name name).1 is in cc
    | inr later ↦ export_none exports name (rw other at e) later
  ]
]
