-- Bytes that are given piece by piece, and written as they come.
use Rattle.std.proofs.Common.{◌≡◌, ℕ, ◌+◌, ◌≤◌, min, List, [], ◌++◌, length, take, refl, ap, sym, subst, ◌∙◌, arith, append_assoc, append-nil}
use Rattle.std.specs.Prelude.{Option, Some, None}
use Rattle.std.specs.Io.KnownBytes.{Appends}
use Rattle.std.proofs.Math.Seq.{take-append-add}
use Rattle.std.proofs.lemmas.List.{take-append-le, take_min}
use Rattle.host_io.proofs.WholeLemmas.{joined}

-- of all bytes some were written, and these are left
pub record Going (old new : Option (List ℕ)) (all left : List ℕ) : Type 0 where
  pub written : List ℕ
  pub parts : all ≡ written ++ left
  pub appended : Appends old new written

nothing : (old : Option (List ℕ)) → Appends old old []
nothing None = tt
nothing (Some xs) = sym (append-nil xs)

pub begins : (old : Option (List ℕ)) (all : List ℕ) → Going old old all all
begins old all = record { written = []; parts = refl; appended = nothing old }

-- a further piece was written
pub goes_on : (old mid new : Option (List ℕ)) (all left piece rest : List ℕ) → Going old mid all left → left ≡ piece ++ rest
    → Appends mid new piece → Going old new all rest
goes_on old mid new all left piece rest going is more = record {
  written = going.written ++ piece;
  parts = going.parts ∙ ap (λ (bs : List ℕ). going.written ++ bs) is ∙ sym (append_assoc going.written piece rest);
  appended = joined old mid new going.written piece going.appended more;
}

-- nothing is left
pub ends : (old new : Option (List ℕ)) (all left : List ℕ) → Going old new all left → left ≡ [] → Appends old new all
ends old new all left going none =
    subst (Appends old new) (sym (going.parts ∙ ap (λ (bs : List ℕ). going.written ++ bs) none ∙ append-nil going.written))
    going.appended

take_within : (n : ℕ) (piece rest : List ℕ) → take n piece ≡ take (min n (length piece)) (piece ++ rest)
take_within n piece rest =
    let few : min n (length piece) ≤ length piece = omega arith in
    sym (take-append-le (min n (length piece)) piece rest few ∙ take_min n piece)

-- a front of a further piece was written
pub stops : (old mid new : Option (List ℕ)) (all left piece rest : List ℕ) (n : ℕ) → Going old mid all left → left ≡ piece ++ rest
    → Appends mid new (take n piece) → (k : ℕ) × Appends old new (take k all)
stops old mid new all left piece rest n going is more =
    let k : ℕ = min n (length piece) in (
      length going.written + k,
      subst (Appends old new)
          (ap (λ (bs : List ℕ). going.written ++ bs) (take_within n piece rest) ∙ sym (take-append-add going.written (piece ++ rest) k)
          ∙ ap (take (length going.written + k)) (sym (going.parts ∙ ap (λ (bs : List ℕ). going.written ++ bs) is)))
          (joined old mid new going.written (take n piece) going.appended more),
    )
