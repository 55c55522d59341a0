-- What a call answers whose result a definition names: that result as the caller sees it, or that memory was refused, of which the
-- definition knows nothing. `cause` is what a refusal says of the input; the want of memory says nothing.
use Rattle.std.specs.Prelude.{◌≡◌, Option, Result, Ok, Err, IfSome}

abbrev pub Gives : {A B E F : Type 0} → (A → B) → (E → Option F) → Result A E → Result B F → Type 0
Gives view cause (Ok answer) defined = defined ≡ Ok (view answer)
Gives view cause (Err e) defined = IfSome (cause e) (λ f. defined ≡ Err f)
