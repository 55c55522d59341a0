-- A source and a kernel have one program, or one refusal.
use Rattle.std.proofs.Common.{◌≡◌, ℕ, zero, suc, ◌≤◌, Bool, false, ◌⊎◌, inl, inr, List, [], ◌∷◌, map, Option, Some, None, Result, Ok, Err, MatchOption, refl, sym, ap, ap₂, subst, ◌∙◌, arith}
use Rattle.std.specs.List.{AllZip}
use Rattle.masm_tree.specs.Trees.{Procedure, Source}
use Rattle.masm_tree.specs.declared.tree.Position.{Position}
use Rattle.masm_names.specs.declared.refusal.LinkCause.{LinkCause}
use Rattle.masm_names.specs.declared.refusal.LinkCause.TheVariants as causes
use Rattle.masm_names.specs.Causes.{order}
use Rattle.masm_names.specs.Least.{ComesBefore, IsLeast}
use Rattle.masm_names.specs.Naming.{exported_of}
use Rattle.masm_flat.specs.Blocks.{Block, block_of, seen_as, as_tree}
use Rattle.masm_flat.specs.Lists.{Exported, Outside, outside_of, IsBlockOf, with_locals}
use Rattle.masm_flat.proofs.Once.{list_once}
use Rattle.masm_link.specs.declared.refusal.AsmError.{AsmError}
use Rattle.masm_link.specs.Libraries.{LibraryProcedure, with_library}
use Rattle.masm_link.specs.Assembling.{reads, link_refusal, LinksText, Refuses, unread, unlinked, KernelExports, no_kernel, of_kernel, export_of, export_digest, without_repeats, assembled, kernel_refused, refused, no_memory}
use Rattle.masm_link.specs.Refusals.{Links, RefusesAt}
use Rattle.masm_link.specs.Laws.{OneProgram, OneRefusal}

-- a procedure is one block
block_once : (source : Source) (out : Outside) (p : Procedure) (a b : Block) → IsBlockOf source out p a → IsBlockOf source out p b → a ≡ b
block_once source out p a b one other =
    one.is ∙ ap (λ pieces. block_of (with_locals p.locals pieces)) (list_once source out one.flat other.flat) ∙ sym other.is

same_source : (a b : Source) (r : Result Source AsmError) → r ≡ Ok a → r ≡ Ok b → a ≡ b
same_source a b r one other = cc

module _ (source : Source) (out : Outside) where
  abbrev IsExportOf : Procedure → Exported → Type 0
  IsExportOf p e = (e.name ≡ p.name) × IsBlockOf source out p e.block

  exports_once : (ps : List Procedure) (xs ys : List Exported) → AllZip IsExportOf ps xs → AllZip IsExportOf ps ys → xs ≡ ys
  exports_once [] [] [] one other = refl
  exports_once [] [] (y ∷ ys) one other = absurd other
  exports_once [] (x ∷ xs) ys one other = absurd one
  exports_once (p ∷ ps) [] ys one other = absurd one
  exports_once (p ∷ ps) (x ∷ xs) [] one other = absurd other
  exports_once (p ∷ ps) (x ∷ xs) (y ∷ ys) one other =
      let name : x.name ≡ y.name = one.0.0 ∙ sym other.0.0 in
      let block : x.block ≡ y.block = block_once source out p x.block y.block one.0.1 other.0.1 in
      ap₂ (λ e es. e ∷ es) (ap₂ (λ n b. record { name = n; block = b }) name block) (exports_once ps xs ys one.1 other.1)

  abbrev IsBodyOf : Option Procedure → Option Block → Type 0
  IsBodyOf main found = MatchOption main (found ≡ None) (λ p. (block : Block) × (found ≡ Some block) × IsBlockOf source out p block)

  body_once : (main : Option Procedure) (a b : Option Block) → IsBodyOf main a → IsBodyOf main b → a ≡ b
  body_once None a b one other = one ∙ sym other
  body_once (Some p) a b one other = one.1 ∙ ap Some (block_once source out p one.0 other.0 one.2 other.2) ∙ sym other.1

-- a text links to the same, whenever it links
pub links_once : {is_kernel : Bool} {library : List LibraryProcedure} {text : List ℕ} {out : Outside} {xs ys : List Exported} {a b : Option Block}
    → LinksText is_kernel library text out xs a → LinksText is_kernel library text out ys b → (xs ≡ ys) × (a ≡ b)
links_once {is_kernel} {library} {text} {out} {xs} {ys} {a} {b} one other =
    let same = same_source other.source one.source (reads is_kernel text) other.read one.read in
    let source = with_library library one.source in
    let links = subst (λ s. Links (with_library library s) out ys b) same other.links in (
      exports_once source out (exported_of source.procs) xs ys one.links.exported links.exported,
      body_once source out source.main a b one.links.body links.body,
    )

read_or_refused : (source : Source) (refusal : AsmError) (r : Result Source AsmError) → r ≡ Ok source → r ≡ Err refusal → ⊥
read_or_refused source refusal r one other = cc

-- and is not refused
pub links_or_refused : {is_kernel : Bool} {library : List LibraryProcedure} {text : List ℕ} {out : Outside} {xs : List Exported}
    {a : Option Block} {refusal : AsmError} → LinksText is_kernel library text out xs a → Refuses is_kernel library text out refusal → ⊥
links_or_refused {is_kernel} {library} {text} links (unread refusal read) =
    read_or_refused links.source refusal (reads is_kernel text) links.read read
links_or_refused {is_kernel} {library} {text} {out} {xs} {a} links (unlinked source at cause read least) =
    let same = same_source links.source source (reads is_kernel text) links.read read in
    let clean = subst (λ s. Links (with_library library s) out xs a) same links.links in
    clean.clean at cause least.stands

kernels_once : {constants : List ℕ} {kernel : Option (List ℕ)} {xs ys : List Exported} → KernelExports constants kernel xs
    → KernelExports constants kernel ys → xs ≡ ys
kernels_once no_kernel no_kernel = refl
kernels_once (of_kernel text xs one) (of_kernel _ ys other) = (links_once one other).0

same_block : (a b : Block) → Some a ≡ Some b → a ≡ b
same_block a b eq = cc

pub one_program : OneProgram
one_program constants library text _ program _ (assembled xs own block _ given links is) (assembled ys owns other program' given' links' is') =
    let exports = kernels_once given' given in
    let both = links_once links (subst (λ e. LinksText false library text (outside_of constants e) owns (Some other)) exports links') in
    let blocks = same_block block other both.1 in (
      is'.tree ∙ ap (seen_as as_tree) (sym blocks) ∙ sym is.tree,
      is'.exports ∙ ap (map (export_of constants)) exports ∙ sym is.exports,
      is'.kernel ∙ ap (λ e. without_repeats (map (export_digest constants) e)) exports ∙ sym is.kernel,
    )
one_program constants library text _ program _ (assembled xs own block _ (of_kernel _ _ exports) links is) (kernel_refused kernel refusal refuses) =
    absurd (links_or_refused exports refuses)
one_program constants library text _ program _ (assembled xs own block _ given links is) (refused ys refusal given' refuses) =
    let exports = kernels_once given' given in
    absurd (links_or_refused links (subst (λ e. Refuses false library text (outside_of constants e) refusal) exports refuses))
one_program constants library text _ program _ (assembled xs own block _ given links is) no_memory = refl

-- the cause of each number in their order
abbrev cause_at : ℕ → LinkCause
cause_at zero = causes.Duplicate
cause_at (suc zero) = causes.TooManyExports
cause_at (suc (suc zero)) = causes.UnknownProcedure
cause_at (suc (suc (suc zero))) = causes.NotInKernel
cause_at (suc (suc (suc (suc zero)))) = causes.Recursive
cause_at (suc (suc (suc (suc (suc zero))))) = causes.TooManyOps
cause_at (suc (suc (suc (suc (suc (suc n)))))) = causes.TooDeep

at_order : (cause : LinkCause) → cause_at (order cause) ≡ cause
at_order causes.Duplicate = refl
at_order causes.TooManyExports = refl
at_order causes.UnknownProcedure = refl
at_order causes.NotInKernel = refl
at_order causes.Recursive = refl
at_order causes.TooManyOps = refl
at_order causes.TooDeep = refl

order_once : (a b : LinkCause) → order a ≡ order b → a ≡ b
order_once a b same = sym (at_order a) ∙ (ap cause_at same ∙ at_order b)

-- two places of which each comes first are one
both_first : (a b : Position) (m n : ℕ) → ComesBefore a b ⊎ ((a ≡ b) × (m ≤ n)) → ComesBefore b a ⊎ ((b ≡ a) × (n ≤ m)) → (a ≡ b) × (m ≡ n)
both_first a b m n (inl (inl low)) (inl (inl high)) = absurd (omega arith)
both_first a b m n (inl (inl low)) (inl (inr high)) = absurd (omega (arith, high.0))
both_first a b m n (inl (inr low)) (inl (inl high)) = absurd (omega (arith, low.0))
both_first a b m n (inl (inr low)) (inl (inr high)) = absurd (omega (arith, low.1, high.1))
both_first a b m n (inl (inl low)) (inr same) = absurd (omega (arith, ap (λ (p : Position). p.line) same.0))
both_first a b m n (inl (inr low)) (inr same) = absurd (omega (arith, low.1, ap (λ (p : Position). p.column) same.0))
both_first a b m n (inr same) (inl (inl high)) = absurd (omega (arith, ap (λ (p : Position). p.line) same.0))
both_first a b m n (inr same) (inl (inr high)) = absurd (omega (arith, high.1, ap (λ (p : Position). p.column) same.0))
both_first a b m n (inr same) (inr again) = (same.0, omega (arith, same.1, again.1))

least_once : (Refused : Position → LinkCause → Type 0) (a b : Position) (x y : LinkCause) → IsLeast Refused a x → IsLeast Refused b y
    → (a ≡ b) × (x ≡ y)
least_once Refused a b x y one other =
    let same = both_first a b (order x) (order y) (one.first b y other.stands) (other.first a x one.stands) in
    (same.0, order_once x y same.1)

-- a text is refused once
refuses_once : {is_kernel : Bool} {library : List LibraryProcedure} {text : List ℕ} {out : Outside} {a b : AsmError}
    → Refuses is_kernel library text out a → Refuses is_kernel library text out b → a ≡ b
refuses_once {is_kernel} {library} {text} (unread a one) (unread b other) = same_refusal a b (reads is_kernel text) one other
  where
    same_refusal : (a b : AsmError) (r : Result Source AsmError) → r ≡ Err a → r ≡ Err b → a ≡ b
    same_refusal a b r one other = cc
refuses_once {is_kernel} {library} {text} (unread a one) (unlinked source at cause read least) =
    absurd (read_or_refused source a (reads is_kernel text) read one)
refuses_once {is_kernel} {library} {text} (unlinked source at cause read least) (unread b other) =
    absurd (read_or_refused source b (reads is_kernel text) read other)
refuses_once {is_kernel} {library} {text} {out} (unlinked source at cause read least) (unlinked again at' cause' read' least') =
    let same = same_source again source (reads is_kernel text) read' read in
    let once = least_once (RefusesAt (with_library library source) out) at at' cause cause' least
    (subst (λ s. IsLeast (RefusesAt (with_library library s) out) at' cause') same least') in
    ap₂ (link_refusal is_kernel) once.0 once.1

pub one_refusal : OneRefusal
one_refusal constants library text _ _ _ some some' (kernel_refused kernel one refuses) (kernel_refused _ other refuses') = refuses_once refuses refuses'
one_refusal constants library text _ _ _ some some' (kernel_refused kernel one refuses) (refused _ other (of_kernel _ _ exports) refuses') =
    absurd (links_or_refused exports refuses)
one_refusal constants library text _ _ _ some some' (refused _ one (of_kernel _ _ exports) refuses) (kernel_refused kernel other refuses') =
    absurd (links_or_refused exports refuses')
one_refusal constants library text _ _ _ some some' (refused xs one given refuses) (refused ys other given' refuses') =
    refuses_once refuses (subst (λ e. Refuses false library text (outside_of constants e) other) (kernels_once given' given) refuses')
one_refusal constants library text _ _ _ some some' no_memory answer = absurd (some refl)
one_refusal constants library text _ _ _ some some' answer no_memory = absurd (some' refl)
