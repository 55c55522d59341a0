-- Under other constants a source is refused as it is under these: its lists are the same but for digests, and so are as large.
use Rattle.std.proofs.Common.{◌≡◌, ℕ, ◌<◌, Bool, true, false, List, [], ◌∷◌, length, Option, Some, None, MatchOption, refl, sym, ap, ap₂, subst, ◌∙◌}
use Rattle.std.specs.List.{AllZip}
use Rattle.vm_field.specs.Limits.{most_nesting, most_operations, number_of_constants}
use Rattle.masm_tree.specs.Trees.{Procedure, Source}
use Rattle.masm_tree.specs.declared.tree.Position.{Position}
use Rattle.masm_names.specs.Least.{IsLeast}
use Rattle.masm_names.specs.Naming.{Dangles, IsClosed, exported_of}
use Rattle.masm_names.specs.declared.refusal.LinkCause.{LinkCause}
use Rattle.masm_flat.specs.Blocks.{Block, as_height, as_operations, seen_as}
use Rattle.masm_flat.specs.Lists.{Exported, Outside, outside_of, IsBlockOf}
use Rattle.masm_tables.specs.Kernels.{names_of}
use Rattle.masm_link.specs.Assembling.{kernel_refused, refused, no_memory, KernelExports, no_kernel, of_kernel, Refuses, unread, unlinked}
use Rattle.masm_link.specs.Libraries.{LibraryProcedure, with_library}
use Rattle.masm_link.specs.Refusals.{IsTooLarge, too_many_operations, too_deep, RefusesAt, double, dangling, oversized}
use Rattle.masm_link.specs.declared.refusal.AsmError.{AsmError}
use Rattle.show_why.specs.RefusalLaws.{RefusalsKnowNoConstants}
use Rattle.show_why.proofs.Blanks.{height-blank, operations-blank}
use Rattle.show_why.proofs.MovedLists.{Alike, alike-back, block-moved}

alike-names : (xs ys : List Exported) → Alike xs ys → names_of xs ≡ names_of ys
alike-names [] [] h = refl
alike-names [] (y ∷ ys) h = absurd h
alike-names (x ∷ xs) [] h = absurd h
alike-names (x ∷ xs) (y ∷ ys) h = ap₂ (λ n ns. n ∷ ns) h.0.0 (alike-names xs ys h.1)

module _ (source : Source) (out new : Outside) (many : length out.constants ≡ number_of_constants) (few : length new.constants ≡ number_of_constants)
    (alike : Alike out.exports new.exports) where
  large-moved : (p : Procedure) (at : Position) (cause : LinkCause) → IsTooLarge source out p at cause → IsTooLarge source new p at cause
  large-moved p at cause (too_many_operations b is more) =
      let m = block-moved source out new many few alike p b is in
      let same = sym (operations-blank b) ∙ ap (seen_as as_operations) m.2 ∙ operations-blank m.0 in
      too_many_operations m.0 m.1 (subst (λ n. most_operations < n) same more)
  large-moved p at cause (too_deep b is more) =
      let m = block-moved source out new many few alike p b is in
      let same = sym (height-blank b) ∙ ap (seen_as as_height) m.2 ∙ height-blank m.0 in
      too_deep m.0 m.1 (subst (λ n. most_nesting < n) same more)

  refuses-moved : (at : Position) (cause : LinkCause) → RefusesAt source out at cause → RefusesAt source new at cause
  refuses-moved at cause (double d) = double d
  refuses-moved at cause (dangling d) = dangling (subst (λ names. Dangles source names at cause) (alike-names _ _ alike) d)
  refuses-moved at cause (oversized closed h) =
      oversized (subst (λ names. IsClosed source names) (alike-names _ _ alike) closed)
      (h.0, h.1, h.2, h.3, large-moved h.1 at cause h.4)

-- whole texts
module _ (constants others : List ℕ) (many : length constants ≡ number_of_constants) (few : length others ≡ number_of_constants) where
  least-moved : (source : Source) (xs ys : List Exported) → Alike xs ys → (at : Position) (cause : LinkCause)
      → IsLeast (RefusesAt source (outside_of constants xs)) at cause → IsLeast (RefusesAt source (outside_of others ys)) at cause
  least-moved source xs ys alike at cause least = record {
    stands = refuses-moved source (outside_of constants xs) (outside_of others ys) many few alike at cause least.stands;
    first = λ other why h.
        least.first other why (refuses-moved source (outside_of others ys) (outside_of constants xs) few many (alike-back xs ys alike) other why h);
  }

  text-moved : (is_kernel : Bool) (library : List LibraryProcedure) (text : List ℕ) (xs ys : List Exported) (e : AsmError) → Alike xs ys
      → Refuses is_kernel library text (outside_of constants xs) e → Refuses is_kernel library text (outside_of others ys) e
  text-moved is_kernel library text xs ys e alike (unread refusal read) = unread refusal read
  text-moved is_kernel library text xs ys e alike (unlinked source at cause read least) =
      unlinked source at cause read (least-moved (with_library library source) xs ys alike at cause least)

  module _ (source : Source) where
    abbrev Blocks : List ℕ → List Procedure → List Exported → Type 0
    Blocks cs ps es = AllZip (λ p e. (e.name ≡ p.name) × IsBlockOf source (outside_of cs []) p e.block) ps es

    exports-moved : (ps : List Procedure) (xs : List Exported) → Blocks constants ps xs → (ys : List Exported) × Blocks others ps ys × Alike xs ys
    exports-moved [] [] h = ([], tt, tt)
    exports-moved [] (x ∷ xs) h = absurd h
    exports-moved (p ∷ ps) [] h = absurd h
    exports-moved (p ∷ ps) (x ∷ xs) h =
        let m = block-moved source (outside_of constants []) (outside_of others []) many few tt p x.block h.0.1 in
        let n = exports-moved ps xs h.1 in
        ((record { name = x.name; block = m.0 }) ∷ n.0, ((h.0.0, m.1), n.1), ((refl, m.2), n.2))

    abbrev no_body : Option Block
    no_body = None

    abbrev NoBody : List ℕ → Option Procedure → Type 0
    NoBody cs main =
        MatchOption main (no_body ≡ None) (λ p. (block : Block) × (no_body ≡ Some block) × IsBlockOf source (outside_of cs []) p block)

    body-moved : (main : Option Procedure) → NoBody constants main → NoBody others main
    body-moved None h = refl
    body-moved (Some p) h = absurd (let wrong = h.1 in cc)

  kernel-moved : {kernel : Option (List ℕ)} {xs : List Exported} → KernelExports constants kernel xs
      → (ys : List Exported) × KernelExports others kernel ys × Alike xs ys
  kernel-moved no_kernel = ([], no_kernel, tt)
  kernel-moved (of_kernel text xs links) =
      let source = with_library [] links.source in
      let m = exports-moved source (exported_of source.procs) xs links.links.exported in (
        m.0,
        of_kernel text m.0 (record {
          source = links.source;
          read = links.read;
          links = record {
            clean = λ at cause h.
                links.links.clean at cause
                (refuses-moved source (outside_of others []) (outside_of constants []) few many tt at cause h);
            exported = m.1;
            body = body-moved source source.main links.links.body;
          };
        }),
        m.2,
      )

pub refusals_know_no_constants : RefusalsKnowNoConstants
refusals_know_no_constants constants others library text _ refusal many few some (kernel_refused kernel _ refuses) =
    kernel_refused kernel refusal (text-moved constants others many few true [] kernel [] [] refusal tt refuses)
refusals_know_no_constants constants others library text _ refusal many few some (refused xs _ given refuses) =
    let m = kernel-moved constants others many few given in
    refused m.0 refusal m.1 (text-moved constants others many few false library text xs m.0 refusal m.2 refuses)
refusals_know_no_constants constants others library text _ refusal many few some no_memory = absurd (some refl)
