use Rattle.std.proofs.Common.{◌≡◌, drop, map}
use Rattle.show_tokens.specs.Forms.{first_outside}
use Rattle.show_tokens.proofs.forms.first_outside.Given as goal

abbrev pub invariant-loop-part : goal.invariant-loop-part
invariant-loop-part l =
    first_outside l.consts l.form (map (λ part. part.now) (drop l.part-index l.parts)) ≡ first_outside l.consts l.form (map (λ part. part.now) l.parts)
