use Rattle.std.proofs.Common.{◌≡◌, drop, map}
use Rattle.show_tokens.specs.Forms.{first_no_number}
use Rattle.show_tokens.proofs.forms.first_no_number.Given as goal

abbrev pub invariant-loop-part : goal.invariant-loop-part
invariant-loop-part l =
    first_no_number l.consts l.form (map (λ part. part.now) (drop l.part-index l.parts)) ≡ first_no_number l.consts l.form (map (λ part. part.now) l.parts)
