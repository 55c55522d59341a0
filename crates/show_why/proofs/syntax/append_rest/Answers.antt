use Rattle.std.proofs.Common.{◌≡◌, ℕ, Bool, List, [], ◌++◌, drop, map, slice_index_or, ap, ap₂, ◌∙◌}
use Rattle.std.proofs.lemmas.Result.{on_ok_weaker}
use Rattle.masm_tree.specs.declared.terminal.Header.{Header}
use Rattle.show_tokens.specs.Parts.{parts_line}
use Rattle.show_why.specs.Scenes.{Scene}
use Rattle.show_why.specs.Sights.{Sight, first_of, more_of}
use Rattle.show_why.specs.Views.{IsSight}
use Rattle.show_why.specs.declared.sight.Sight as code
use Rattle.show_why.proofs.syntax.append_rest.Goals as goal

-- what is told of the parts that the code holds is told of those that are seen
seen_parts : (kernel : Bool) (held : code.Sight) (seen : Sight) → IsSight held seen
    → parts_line kernel held.procedures.items held.scene.consts (slice_index_or (map (λ part. part.now) held.parts.items) 0 [])
    (drop 1 (map (λ part. part.now) held.parts.items))
    ≡ parts_line kernel seen.procedures seen.scene.context.consts (first_of seen) (more_of seen)
seen_parts kernel held seen is =
    ap₂ (λ (scene : Scene) (parts : List (List ℕ)).
    parts_line kernel held.procedures.items scene.context.consts (slice_index_or parts 0 []) (drop 1 parts))
    is.scene is.parts
    ∙ ap (λ (procedures : List Header). parts_line kernel procedures seen.scene.context.consts (first_of seen) (more_of seen)) is.procedures

pub returns : goal.returns
returns c =
    on_ok_weaker c.append_parts.result
    (λ is seen sees. is ∙ ap (λ (line : List ℕ). c.args.text.now ++ line) (seen_parts c.args.is_kernel c.args.sight.now seen sees))
    (rw (c.first_part-first.ensures, c.later_parts-more.ensures, c.as_slice.ensures.value, c.as_slice-2.ensures.value, c.as_slice-3.ensures.value)
    at c.append_parts.ensures)
