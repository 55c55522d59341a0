-- What is answered for a source and a kernel, from what is found of each.
use Rattle.std.proofs.Common.{◌≡◌, ℕ, zero, suc, ◌<◌, ◌≤◌, true, false, cond, List, [], ◌∷◌, ◌++◌, length, map, Option, Some, None, Ok, Err, Vec, Global, inl, inr, refl, sym, ap, ap₂, subst, ◌∙◌, is_some, arith}
use Rattle.std.proofs.lemmas.Bool.{cases_Bool, cases_lt}
use Rattle.std.proofs.lemmas.Option.{same_Some}
use Rattle.std.specs.List.{AllZip}
use Rattle.std.specs.Option.{option_map}
use Rattle.block_tree.specs.declared.program.Program.{Program}
use Rattle.block_tree.specs.declared.tree.Tree.{Tree}
use Rattle.block_tree.specs.Trees.{tree_digest}
use Rattle.block_tree.specs.TreeView.{tree_of}
use Rattle.masm_tree.specs.Trees.{Procedure, Source, position_of}
use Rattle.masm_names.specs.declared.refusal.LinkCause.TheVariants as causes
use Rattle.masm_names.specs.Naming.{one_export_more, exported_of}
use Rattle.masm_flat.specs.declared.outside.KernelProc.{KernelProc}
use Rattle.masm_flat.specs.Blocks.{Block, seen_as, as_tree}
use Rattle.masm_flat.specs.Lists.{Exported, outside_of}
use Rattle.masm_link.specs.declared.linking.Linked.{Linked}
use Rattle.masm_link.specs.declared.refusal.AsmError.{AsmError}
use Rattle.masm_link.specs.Libraries.{LibraryProcedure, with_library}
use Rattle.masm_link.specs.Assembling.{reads, KernelExports, no_kernel, of_kernel, export_digest, export_of, without_repeats, Assembles, assembled, kernel_refused, refused, no_memory}
use Rattle.masm_tables.specs.Kernels.{IsExport, AreExports}
use Rattle.masm_link.specs.Measures.{IsLinked}
use Rattle.masm_link.specs.Programs.{LinksIn, ExportsIn, digest_in, export_in}
use Rattle.masm_link.specs.Refusals.{double, Links}

none_from_map : {A B C : Type 0} (f : A → C) (g : B → C) (a : Option A) (b : Option B) → option_map f a ≡ option_map g b
    → is_some a ≡ false → b ≡ None
none_from_map f g None None e not_so = refl
none_from_map f g None (Some y) e not_so = cc
none_from_map f g (Some x) b e not_so = cc

-- the kernel
module _ (constants : List ℕ) where
  pub kernel_linked : (text : List ℕ) (linked : Linked) → LinksIn constants true [] text [] (Ok linked) → is_some linked.main ≡ false
      → (kernel : Option (List ℕ)) → kernel ≡ Some text → ExportsIn constants kernel (Ok linked.exports)
  kernel_linked text linked links not_so kernel is =
      let found = links [] tt in
      let here : IsLinked (with_library [] found.0) (outside_of constants []) linked = found.2 in
      let no_main = none_from_map tree_of (seen_as as_tree) linked.main here.main here.tree not_so in
      let of = of_kernel text here.exports (record {
        source = found.0;
        read = found.1;
        links = subst (λ m. Links (with_library [] found.0) (outside_of constants []) here.exports m) no_main here.links;
      }) in
      (here.exports, subst (λ k. KernelExports constants k here.exports) (sym is) of, here.are)

  pub kernel_stopped : (text : List ℕ) (refusal : AsmError) → LinksIn constants true [] text [] (Err refusal) → (kernel : Option (List ℕ))
      → kernel ≡ Some text → ExportsIn constants kernel (Err refusal)
  kernel_stopped text refusal (inl memory) kernel is = inl memory
  kernel_stopped text refusal (inr refuses) kernel is = inr (text, is, refuses [] tt)

  pub kernel_none : (kernel : Option (List ℕ)) (procs : Vec KernelProc Global) → kernel ≡ None → procs.items ≡ [] → ExportsIn constants kernel (Ok procs)
  kernel_none kernel procs is empty = ([], subst (λ k. KernelExports constants k []) (sym is) no_kernel, subst (AreExports []) (sym empty) tt)

-- a kernel that is not refused exports at most 255 procedures
export_at : (procs : List Procedure) (n : ℕ) → n < length (exported_of procs)
    → (before : List Procedure) × (p : Procedure) × (behind : List Procedure) × (procs ≡ before ++ p ∷ behind) × (p.exported ≡ true) × (length
    (exported_of before) ≡ n)
export_at [] n low = absurd (omega arith)
export_at (p ∷ procs) n low = elim (cases_Bool p.exported) [
  | inl is_so ↦ first n (λ m h. export_at procs m h) is_so (subst (λ b. n < length (cond b (p ∷ exported_of procs) (exported_of procs))) is_so low)
  | inr not_so ↦
      let rest = export_at procs n (subst (λ b. n < length (cond b (p ∷ exported_of procs) (exported_of procs))) not_so low) in (
        p ∷ rest.0,
        rest.1,
        rest.2,
        ap (λ ps. p ∷ ps) rest.3,
        rest.4,
        ap (λ b. length (cond b (p ∷ exported_of rest.0) (exported_of rest.0))) not_so ∙ rest.5,
      )
]
  where
    first : (n : ℕ)
        → ((m : ℕ) → m < length (exported_of procs) → (before : List Procedure) × (q : Procedure) × (behind : List Procedure) ×
        (procs ≡ before ++ q ∷ behind) × (q.exported ≡ true) × (length (exported_of before) ≡ m))
        → p.exported ≡ true → n < suc (length (exported_of procs))
        → (before : List Procedure) × (q : Procedure) × (behind : List Procedure) × (p ∷ procs ≡ before ++ q ∷ behind) × (q.exported ≡ true) × (length
        (exported_of before) ≡ n)
    first zero later is_so low' = ([], p, procs, refl, is_so, refl)
    first (suc m) later is_so low' =
        let rest = later m (omega arith) in (
          p ∷ rest.0,
          rest.1,
          rest.2,
          ap (λ ps. p ∷ ps) rest.3,
          rest.4,
          ap (λ b. length (cond b (p ∷ exported_of rest.0) (exported_of rest.0))) is_so
              ∙ ap suc rest.5,
        )

zip_length : {X Y : Type 0} (R : X → Y → Type 0) (xs : List X) (ys : List Y) → AllZip R xs ys → length xs ≡ length ys
zip_length R [] [] h = refl
zip_length R [] (y ∷ ys) h = absurd h
zip_length R (x ∷ xs) [] h = absurd h
zip_length R (x ∷ xs) (y ∷ ys) h = ap suc (zip_length R xs ys h.1)

few_linked : (constants : List ℕ) (kernel : Option (List ℕ)) (exports : List Exported) → KernelExports constants kernel exports → length exports ≤ 255
few_linked constants _ _ no_kernel = omega arith
few_linked constants _ _ (of_kernel text exports links) =
    let procs = (with_library [] links.source).procs in
    let same = zip_length _ (exported_of procs) exports links.links.exported in
    elim (cases_lt 255 (length (exported_of procs))) [
      | inl more ↦
          let found = export_at procs 255 more in
          absurd (links.links.clean (position_of found.1) causes.TooManyExports
          (double (one_export_more found.0 found.1 found.2 found.3 found.4 found.5)))
      | inr few ↦ omega arith
    ]

pub few_exports : (constants : List ℕ) (kernel : Option (List ℕ)) (procs : Vec KernelProc Global) → ExportsIn constants kernel (Ok procs)
    → length procs.items ≤ 255
few_exports constants kernel procs found =
    let few = few_linked constants kernel found.0 found.1 in
    let same = zip_length IsExport found.0 procs.items found.2 in
    omega arith

-- digests and names in memory
digests_same : (constants : List ℕ) (exports : List Exported) (procs : List KernelProc) → AreExports exports procs → map
    (digest_in constants) procs ≡ map (export_digest constants) exports
digests_same constants [] [] are = refl
digests_same constants [] (p ∷ procs) are = absurd are
digests_same constants (e ∷ exports) [] are = absurd are
digests_same constants (e ∷ exports) (p ∷ procs) are =
    ap₂ (λ d ds. d ∷ ds) (ap (tree_digest constants) are.0.tree) (digests_same constants exports procs are.1)

exports_same : (constants : List ℕ) (exports : List Exported) (procs : List KernelProc) → AreExports exports procs → map
    (export_in constants) procs ≡ map (export_of constants) exports
exports_same constants [] [] are = refl
exports_same constants [] (p ∷ procs) are = absurd are
exports_same constants (e ∷ exports) [] are = absurd are
exports_same constants (e ∷ exports) (p ∷ procs) are =
    ap₂ (λ d ds. d ∷ ds) (ap₂ (λ n d. record { name = n; digest = d }) are.0.name (ap (tree_digest constants) are.0.tree))
    (exports_same constants exports procs are.1)

module _ (constants : List ℕ) (library : List LibraryProcedure) (text : List ℕ) (kernel : Option (List ℕ)) where
  pub stopped_kernel : (refusal : AsmError) → ExportsIn constants kernel (Err refusal) → Assembles constants library text kernel (Err refusal)
  stopped_kernel refusal (inl memory) = subst (λ e. Assembles constants library text kernel (Err e)) (sym memory) no_memory
  stopped_kernel refusal (inr h) = subst (λ k. Assembles constants library text k (Err refusal)) (sym h.1) (kernel_refused h.0 refusal h.2)

  pub stopped : (procs : Vec KernelProc Global) → ExportsIn constants kernel (Ok procs) → (refusal : AsmError)
      → LinksIn constants false library text procs.items (Err refusal) → Assembles constants library text kernel (Err refusal)
  stopped procs found refusal (inl memory) = subst (λ e. Assembles constants library text kernel (Err e)) (sym memory) no_memory
  stopped procs found refusal (inr refuses) = refused found.0 refusal found.1 (refuses found.0 found.2)

  pub assembled_is : (procs : Vec KernelProc Global) → ExportsIn constants kernel (Ok procs) → (linked : Linked)
      → LinksIn constants false library text procs.items (Ok linked) → (tree : Tree) → linked.main ≡ Some tree → (program : Program) → program.tree ≡ tree → program.exports ≡ map (export_in constants) procs.items
      → program.kernel ≡ without_repeats (map (digest_in constants) procs.items) → Assembles constants library text kernel (Ok program)
  assembled_is procs found linked links tree is program tree_is exports_are words_are =
      let here = links found.0 found.2 in
      let l : IsLinked (with_library library here.0) (outside_of constants found.0) linked = here.2 in
      by here.0 here.1 l l.main refl
    where
      by : (source : Source) → reads false text ≡ Ok source → (l : IsLinked (with_library library source) (outside_of constants found.0) linked)
          → (main : Option Block) → l.main ≡ main → Assembles constants library text kernel (Ok program)
      by source read l None none = absurd (let e = sym (ap (option_map tree_of) is) ∙ l.tree ∙ ap (option_map (seen_as as_tree)) none in cc)
      by source read l (Some block) there =
          let e : Some (tree_of tree) ≡ Some (seen_as as_tree block) =
          sym (ap (option_map tree_of) is) ∙ l.tree ∙ ap (option_map (seen_as as_tree)) there in
          let links = subst (λ m. Links (with_library library source) (outside_of constants found.0) l.exports m) there l.links in
          assembled found.0 l.exports block program found.1 (record { source = source; read = read; links = links })
          (record {
            tree = ap tree_of tree_is ∙ same_Some (tree_of tree) (seen_as as_tree block) e;
            exports = exports_are ∙ exports_same constants found.0 procs.items found.2;
            kernel = words_are ∙ ap without_repeats (digests_same constants found.0 procs.items found.2);
          })
