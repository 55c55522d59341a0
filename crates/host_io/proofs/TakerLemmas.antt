-- A further piece that a taker took.
use Rattle.std.proofs.Common.{◌≡◌, ℕ, ◌+◌, ◌-◌, ◌≤◌, List, ◌++◌, length, ap, sym, ◌∙◌, append_assoc, arith}
use Rattle.std.specs.Prelude.{Option, Some, None}
use Rattle.std.specs.Io.KnownBytes.{Consumes}
use Rattle.std.proofs.lemmas.List.{length-append}

-- of so many bytes, these were consumed and taken, and so many may be left
abbrev pub Taken : (List ℕ → Type 0) → Option (List ℕ) → Option (List ℕ) → ℕ → ℕ → Type 0
Taken took old new max left = (bytes : List ℕ) × (length bytes + left ≡ max) × took bytes × Consumes old new bytes

pub consumed_further : (old mid new : Option (List ℕ)) (a b : List ℕ) → Consumes old mid a → Consumes mid new b → Consumes old new (a ++ b)
consumed_further None mid new a b first second = tt
consumed_further (Some xs) None new a b first second = absurd first
consumed_further (Some xs) (Some ys) None a b first second = absurd second
consumed_further (Some xs) (Some ys) (Some zs) a b first second = first ∙ ap (λ s. a ++ s) second ∙ sym (append_assoc a b zs)

pub taken_further : (took now : List ℕ → Type 0) (old mid new : Option (List ℕ)) (max left n : ℕ) (piece : List ℕ)
    → Taken took old mid max left → n ≡ length piece → n ≤ left
    → ((before : List ℕ) → took before → now (before ++ piece)) → Consumes mid new piece → Taken now old new max (left - n)
taken_further took now old mid new max left n piece so_far long within takes more =
    let sum = so_far.1 in (
      so_far.0 ++ piece,
      omega (arith, length-append so_far.0 piece, sum, within, long),
      takes so_far.0 so_far.2,
      consumed_further old mid new so_far.0 piece so_far.3 more,
    )
