use Rattle.std.proofs.Common.{◌≡◌, ◌≤◌, [], length, refl, sym, ap, subst, ◌∙◌, map, take, ◌++◌, ◌∷◌, ◌+◌, arith}
use Rattle.std.proofs.lemmas.List.{map_more}
use Rattle.block_tree.specs.declared.exports.Export.{Export}
use Rattle.block_tree.specs.Kernels.{AreDistinct}
use Rattle.masm_link.specs.Assembling.{add_word, without_repeats}
use Rattle.masm_link.proofs.Words.{distinct_none, words_more, without_push}
use Rattle.masm_link.proofs.program.kernel_words.Goals as goal

pub loop-export-init : goal.loop-export-init
loop-export-init c = subst (λ ws. (ws ≡ []) × (length ws ≤ 0) × AreDistinct ws) (sym c.new-words.ensures.empty) (refl, omega arith, distinct_none)

pub loop-export-preserved : goal.loop-export-preserved
loop-export-preserved c =
    let exports = c.args.exports.now in
    let i = c.loop-export.export-index in
    let old = c.loop-export.words in
    let e = c.export-item.result in
    let more = words_more old e.digest c.loop-export.invariant.2 in
    let is = c.in_ok-add_word.ensures in
    let count = ap length is in
    let words : without_repeats (map (λ (x : Export). x.digest) (take (i + 1) exports)) ≡ add_word old e.digest =
    ap without_repeats (map_more (λ (x : Export). x.digest) exports i e c.loop-export-test.true)
    ∙ (ap (λ (x : Export). without_repeats (map (λ (y : Export). y.digest) (take i exports) ++ x.digest ∷ [])) (sym c.export-item.is)
    ∙ (without_push (map (λ (x : Export). x.digest) (take i exports)) e.digest
    ∙ ap (λ ws. add_word ws e.digest) (sym c.loop-export.invariant.0))) in (
      is ∙ sym words,
      let low = c.loop-export.invariant.1 in let one = more.0 in omega arith,
      subst AreDistinct (sym is) more.1,
    )
