use Rattle.std.proofs.Common.{◌≡◌, ◌≤◌, false, Some, Ok, Err, length, map, sym, ap₂, subst, ◌∙◌, rules}
use Rattle.std.specs.Option.{option_map}
use Rattle.rpo_hash.specs.Constants.{constants_of}
use Rattle.masm_link.specs.Assembling.{no_memory, without_repeats}
use Rattle.masm_link.specs.Programs.{LinksIn, ExportsIn, digest_in, export_in}
use Rattle.masm_link.proofs.Assembled.{few_exports, stopped_kernel, stopped, assembled_is}
use Rattle.masm_link.proofs.assembling.assemble_with.Goals as goal

pub returns-in-Err : goal.returns-in-Err
returns-in-Err c =
    let kernel = option_map (λ text. text.now) c.args.kernel in
    let same = c.new-digests.ensures ∙ c.keeping_none.ensures in
    stopped_kernel (constants_of c.args.params.now) c.args.library.now c.args.source.now kernel c.in-Err.error
    (subst (λ cs. ExportsIn cs kernel (Err c.in-Err.error)) same c.in-Err.ensures.exports)

pub returns-in-Err-link_text : goal.returns-in-Err-link_text
returns-in-Err-link_text c =
    let constants = constants_of c.args.params.now in
    let kernel = option_map (λ text. text.now) c.args.kernel in
    let same = c.new-digests.ensures ∙ c.keeping_none.ensures in
    let still = c.in-Ok.ensures.permutations ∙ same in
    stopped constants c.args.library.now c.args.source.now kernel c.in-Ok.exports
    (subst (λ cs. ExportsIn cs kernel (Ok c.in-Ok.exports)) same c.in-Ok.ensures.exports) c.in-Err-link_text.error
    (subst (λ procs. LinksIn constants false c.args.library.now c.args.source.now procs (Err c.in-Err-link_text.error)) c.deref.ensures.value
    (subst (λ cs. LinksIn cs false c.args.library.now c.args.source.now c.deref.result.now (Err c.in-Err-link_text.error)) still
    c.in-Err-link_text.ensures.links))

pub program_of-requires : goal.program_of-requires
program_of-requires c =
    let kernel = option_map (λ text. text.now) c.args.kernel in
    let same = c.new-digests.ensures ∙ c.keeping_none.ensures in
    subst (λ procs. length procs ≤ 255) (sym c.deref-2.ensures.value)
    (few_exports (constants_of c.args.params.now) kernel c.in-Ok.exports
    (subst (λ cs. ExportsIn cs kernel (Ok c.in-Ok.exports)) same c.in-Ok.ensures.exports))

pub returns-in-Ok-program_of : goal.returns-in-Ok-program_of
returns-in-Ok-program_of c =
    let constants = constants_of c.args.params.now in
    let kernel = option_map (λ text. text.now) c.args.kernel in
    let same = c.new-digests.ensures ∙ c.keeping_none.ensures in
    let still = c.in-Ok.ensures.permutations ∙ same in
    let behind = c.in-Ok-link_text.ensures.permutations ∙ still in
    let made = c.in-Ok-program_of.ensures in
    let main : c.in-Ok-link_text.linked.main ≡ Some c.unwrap-tree.result = search rules in
    assembled_is constants c.args.library.now c.args.source.now kernel c.in-Ok.exports
    (subst (λ cs. ExportsIn cs kernel (Ok c.in-Ok.exports)) same c.in-Ok.ensures.exports) c.in-Ok-link_text.linked
    (subst (λ procs. LinksIn constants false c.args.library.now c.args.source.now procs (Ok c.in-Ok-link_text.linked)) c.deref.ensures.value
    (subst (λ cs. LinksIn cs false c.args.library.now c.args.source.now c.deref.result.now (Ok c.in-Ok-link_text.linked)) still
    c.in-Ok-link_text.ensures.links))
    c.unwrap-tree.result main c.in-Ok-program_of.program made.tree
    (made.exports ∙ ap₂ (λ cs procs. map (export_in cs) procs) behind c.deref-2.ensures.value)
    (made.kernel ∙ ap₂ (λ cs procs. without_repeats (map (digest_in cs) procs)) behind c.deref-2.ensures.value)

pub returns : goal.returns
returns c = no_memory
