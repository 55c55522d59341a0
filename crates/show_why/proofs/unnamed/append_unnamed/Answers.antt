use Rattle.std.proofs.Common.{◌≡◌, ℕ, Bool, List, [], ◌++◌, map, slice_index_or, Option, option_map, unwrap_or, ap, ap₂, ◌∙◌}
use Rattle.std.proofs.lemmas.Result.{on_ok_weaker}
use Rattle.masm_tree.specs.declared.terminal.Header.{Header}
use Rattle.show_tokens.specs.Unnamed.{unnamed_line}
use Rattle.show_why.specs.Sights.{Sight, first_of}
use Rattle.show_why.specs.Views.{IsSight}
use Rattle.show_why.specs.declared.sight.Sight as code
use Rattle.show_why.proofs.unnamed.append_unnamed.Goals as goal

-- what is told of the token that the code holds is told of the one that is seen
seen_token : (kernel : Bool) (held : code.Sight) (seen : Sight) → IsSight held seen
    → unnamed_line kernel held.procedures.items (unwrap_or (option_map (λ token. token.now) held.token) [])
    (slice_index_or (map (λ part. part.now) held.parts.items) 0 [])
    ≡ unnamed_line kernel seen.procedures (unwrap_or seen.token []) (first_of seen)
seen_token kernel held seen is =
    ap₂ (λ (procedures : List Header) (token : Option (List ℕ)).
    unnamed_line kernel procedures (unwrap_or token []) (slice_index_or (map (λ part. part.now) held.parts.items) 0 []))
    is.procedures is.token
    ∙ ap (λ (parts : List (List ℕ)). unnamed_line kernel seen.procedures (unwrap_or seen.token []) (slice_index_or parts 0 [])) is.parts

pub returns : goal.returns
returns c =
    on_ok_weaker c.append_by_text.result
    (λ is seen sees. is ∙ ap (λ (line : List ℕ). c.args.text.now ++ line) (seen_token c.args.is_kernel c.args.sight.now seen sees))
    (rw (c.text_or_nothing-token.ensures, c.first_part-first.ensures, c.as_slice.ensures.value, c.as_slice-2.ensures.value)
    at c.append_by_text.ensures)
