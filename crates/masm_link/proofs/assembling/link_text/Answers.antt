use Rattle.std.proofs.Common.{◌≡◌, ℕ, Bool, List, Err, inl, inr, refl, sym, subst}
use Rattle.answers.specs.Gives.{Gives}
use Rattle.masm_flat.specs.declared.outside.KernelProc.{KernelProc}
use Rattle.masm_tree.specs.Views.{source_of}
use Rattle.masm_link.specs.declared.linking.Stop.TheVariants as stops
use Rattle.masm_link.specs.declared.refusal.AsmError.{AsmError}
use Rattle.masm_link.specs.declared.refusal.AsmError.TheVariants.{Bad, Memory}
use Rattle.masm_flat.specs.Lists.{outside_of}
use Rattle.masm_link.specs.Assembling.{reads, Refuses, unread, unlinked}
use Rattle.masm_link.specs.Libraries.{LibraryProcedure, with_library}
use Rattle.masm_link.specs.Measures.{IsFirstRefused, IsLinked, LinksTo}
use Rattle.masm_link.specs.Programs.{LinksIn, refusal_in}
use Rattle.masm_link.proofs.assembling.link_text.Goals as goal

-- a source that is not read is refused, or memory was
not_read : (constants : List ℕ) (is_kernel : Bool) (library : List LibraryProcedure) (text : List ℕ) (kernel : List KernelProc) (error : AsmError)
    → Gives source_of refusal_in (Err error) (reads is_kernel text) → LinksIn constants is_kernel library text kernel (Err error)
not_read constants is_kernel library text kernel (Bad in_kernel line column cause) is =
    inr (λ exports are. unread (Bad in_kernel line column cause) is)
not_read constants is_kernel library text kernel Memory is = inl refl

pub returns-in-Err-clause-links : goal.returns-in-Err-clause-links
returns-in-Err-clause-links c =
    not_read c.args.digests.now.permutations c.args.is_kernel c.args.library.now c.args.text.now c.args.kernel.now c.in-Err.error
    c.in-Err.ensures.reads

pub link-requires : goal.link-requires
link-requires c = c.in_ok-whole.ensures.fits c.in-Ok.ensures.fits

pub returns-in-Err-Refused-clause-links : goal.returns-in-Err-Refused-clause-links
returns-in-Err-Refused-clause-links c =
    let constants = c.args.digests.now.permutations in
    let library = c.args.library.now in
    let source = source_of c.in-Ok.ast in
    let kernel = c.args.kernel.now in
    let refusal = c.in-Err-Refused.refusal in
    let is : c.in-Err-Refused.field-0 ≡ stops.Refused refusal = cc in
    let first : IsFirstRefused (with_library library source) kernel refusal =
    subst (λ whole. IsFirstRefused whole kernel refusal) c.in_ok-whole.ensures.whole
    (subst (λ stop. LinksTo constants (source_of c.in_ok-whole.whole) kernel (Err stop)) is c.in-Err-Refused.ensures.linked) in
    inr (λ exports are.
    let out = outside_of constants exports in
    subst (Refuses c.args.is_kernel library c.args.text.now out) (sym c.link_refusal.ensures)
    (unlinked source refusal.at refusal.cause c.in-Ok.ensures.reads (first out (record { count = c.requires.constants; exports = are }))))

pub returns-in-Ok-link-clause-links : goal.returns-in-Ok-link-clause-links
returns-in-Ok-link-clause-links c = λ exports are.
    let out = outside_of c.args.digests.now.permutations exports in (
      source_of c.in-Ok.ast,
      c.in-Ok.ensures.reads,
      subst (λ whole. IsLinked whole out c.in-Ok-link.linked) c.in_ok-whole.ensures.whole
          (c.in-Ok-link.ensures.linked out refl (record { count = c.requires.constants; exports = are })),
    )
