-- A further piece behind what was written so far.
use Rattle.std.proofs.Common.{ℕ, ◌+◌, ◌-◌, List, ◌++◌, length, take, drop, ap, sym, ◌∙◌, append_assoc, subst}
use Rattle.std.specs.Prelude.{Option, Some, None}
use Rattle.std.specs.Io.KnownBytes.{Appends}
use Rattle.std.proofs.Math.Seq.{take-add}
use Rattle.std.proofs.lemmas.List.{take_rest}

pub joined : (old mid new : Option (List ℕ)) (a b : List ℕ) → Appends old mid a → Appends mid new b → Appends old new (a ++ b)
joined None mid new a b first second = tt
joined (Some xs) None new a b first second = absurd first
joined (Some xs) (Some ys) None a b first second = absurd second
joined (Some xs) (Some ys) (Some zs) a b first second = second ∙ ap (λ s. s ++ b) first ∙ append_assoc xs a b

-- the first bytes were appended, and then the first of the rest
pub written_further : (old mid new : Option (List ℕ)) (at count : ℕ) (bytes : List ℕ) → Appends old mid (take at bytes)
    → Appends mid new (take count (take (length bytes - at) (drop at bytes))) → Appends old new (take (at + count) bytes)
written_further old mid new at count bytes first second =
    subst (Appends old new) (ap (λ rest. take at bytes ++ take count rest) (take_rest bytes at) ∙ sym (take-add at count bytes))
    (joined old mid new _ _ first second)
