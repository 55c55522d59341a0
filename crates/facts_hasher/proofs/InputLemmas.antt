-- The hash computations that rows show are given.
use Rattle.std.proofs.Common.{Bool, List, [], ap, ap₂, arith, drop, false, if◌then◌else◌, refl, subst, sym, take, true, ℕ, ◌++◌, ◌+◌, ◌<◌, ◌∙◌, ◌∷◌, ◌≡◌}
use Rattle.std.proofs.lemmas.Bool.{false_from_ne_true}
use Rattle.vm_field.specs.Permutation.{permuted}
use Rattle.vm_field.specs.Sponge.{HashInput, sponge_after, squeezed, hashed}
use Rattle.air_kit.specs.declared.requests.Perm.{Perm}
use Rattle.air_kit.specs.Requests.{FollowsOn}
use Rattle.facts_hasher.specs.HashMeaning.{GivesOn, IsGivenWhole}
use Rattle.facts_hasher.proofs.Given.{begin_tuple, begins, end_tuple, ends, from_count, given, later, to_count}
use Rattle.facts_hasher.proofs.MeaningLemmas.{ComputesAt, blocks_in, further, gives_on, here, joined, start_is}
use Rattle.facts_hasher.proofs.RowLemmas.{OfStates, first_state, later_states}

-- what is given whole is so where no less is given
pub given_whole : {constants : List ℕ} (f g : List ℕ → ℕ) → ((u : List ℕ) → 0 < f u → 0 < g u) → {b : ℕ} {input : HashInput}
    → IsGivenWhole constants f b input → IsGivenWhole constants g b input
given_whole f g more {b} w = record {
  block = w.block;
  blocks = w.blocks;
  blocks_are = w.blocks_are;
  opens = more _ w.opens;
  goes_on = gives_on f g 0 (λ u h. more u) b w.blocks _ (omega arith) w.goes_on;
}

-- the blocks behind a permutation's own
abbrev further_blocks : Bool → List Perm → List (List ℕ)
further_blocks going rest = if going then blocks_in rest else []

module _ (constants : List ℕ) where
  earlier : (a : ℕ) (p : Perm) (perms : List Perm) (u : List ℕ) → 0 < given constants (a + 8) perms u → 0 < given constants a (p ∷ perms) u
  earlier a p perms u k = to_count constants (later (from_count constants (a + 8) perms u k))

  -- what goes on behind a permutation
  gives_chain : (a : ℕ) (p : Perm) (rest : List Perm) (going : Bool) → p.more ≡ going → p.mode ≡ false
      → FollowsOn constants p.more (permuted constants p.start) rest
      → GivesOn (given constants a (p ∷ rest)) a (further_blocks going rest)
      (squeezed (sponge_after constants (permuted constants p.start) (further_blocks going rest)))
  unfolding GivesOn blocks_in
  gives_chain a p rest false e m f =
      to_count constants (ends (λ _. e) (sym (ap (λ b. end_tuple b (a + 7) (permuted constants p.start)) m)))
  gives_chain a p [] true e m f = absurd (cc)
  gives_chain a p (q ∷ rest) true e m f =
      let c : q.cont ≡ true = f.0 ∙ e in
      let n : q.mode ≡ false = false_from_ne_true q.mode (λ is. let none = (f.1 is).0 in cc) in
      let same : take 4 (permuted constants p.start) ++ drop 4 q.start ≡ q.start =
      ap (λ (xs : List ℕ). xs ++ drop 4 q.start) (sym (f.2 c)) ∙ joined 4 q.start in (
        to_count constants (later (begins (sym (ap₂ (λ m c. begin_tuple m c (a + 8) q.start) n c)))),
        gives_on (given constants (a + 8) (q ∷ rest)) (given constants a (p ∷ q ∷ rest)) 0 (λ u h. earlier a p (q ∷ rest) u) (a + 8)
            (further_blocks q.more rest) _ (omega arith)
            (subst (λ s. GivesOn (given constants (a + 8) (q ∷ rest)) (a + 8) (further_blocks q.more rest)
            (squeezed (sponge_after constants (permuted constants s) (further_blocks q.more rest)))) (sym same)
            (gives_chain (a + 8) q rest q.more refl n f.4)),
      )

  -- a hash that a permutation opens is given
  pub opened : {a : ℕ} {perms : List Perm} {b : ℕ} {input : HashInput} (going : Bool) (last : List ℕ) → OfStates perms
      → FollowsOn constants going last perms → ComputesAt a perms b input → IsGivenWhole constants (given constants a perms) b input
  unfolding blocks_in hashed
  opened going last s f (here {a = a} {p = p} {rest = rest} m c) =
      let z = f.3 m c in
      record {
        block = drop 4 p.start;
        blocks = further_blocks p.more rest;
        blocks_are = refl;
        opens = to_count constants (begins (sym (ap₂ (λ m c. begin_tuple m c a p.start) m c)));
        goes_on =
            subst (λ xs. GivesOn (given constants a (p ∷ rest)) a (further_blocks p.more rest)
            (squeezed (sponge_after constants (permuted constants xs) (further_blocks p.more rest))))
            (sym (start_is p.start (first_state p rest s).size z.0 z.1 z.2)) (gives_chain a p rest p.more refl m f.4);
      }
  opened going last s f (further {a = a} {p = p} {rest = rest} at) =
      given_whole (given constants (a + 8) rest) (given constants a (p ∷ rest)) (earlier a p rest)
      (opened p.more (permuted constants p.start) (later_states p rest s) f.4 at)
