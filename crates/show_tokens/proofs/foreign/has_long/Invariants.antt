use Rattle.std.proofs.Common.{◌≡◌, drop, map}
use Rattle.std.specs.List.{list_any}
use Rattle.show_tokens.specs.Foreign.{is_long}
use Rattle.show_tokens.proofs.foreign.has_long.Given as goal

abbrev pub invariant-loop-part : goal.invariant-loop-part
invariant-loop-part l =
    list_any is_long (map (λ part. part.now) (drop l.part-index l.parts)) ≡ list_any is_long (map (λ part. part.now) l.parts)
