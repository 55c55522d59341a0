-- Refinement is reflexive and transitive, keeps the digest, and does what was done.
use Rattle.std.proofs.Common.{◌≡◌, ℕ, zero, suc, ◌-◌, Bool, true, false, cond, List, [], Option, Some, nat_eq, refl, subst, ◌∙◌}
use Rattle.vm_field.specs.Machine.{State}
use Rattle.vm_field.specs.Sponge.{HashInput, digest_of_input}
use Rattle.vm_ops.specs.declared.op.Op.TheVariants as op
use lib.Pointwise.{pointwise}
use Rattle.block_tree.specs.Trees.{Tree, Targets, Opaque, Span, Join, Split, Loop, Call, Syscall, Dyn, no_target, target, Refines, opaque, span, join, split, loop, call, syscall, dyn, RefinesFirst, none, some, first_target, tree_digest, input_of, input_of_one, input_of_two}
use Rattle.block_tree.specs.Cycles.{StartOpaque, StartDyn, top, called_word}
use Rattle.block_tree.specs.Execution.{Event, Outcome, Done, OutOfCycles, Part, seq, at_bit, cycle, turns, execution}
use Rattle.std.proofs.lemmas.Bool.{false≢true}
use Rattle.block_tree.proofs.BehindLemmas.{cycle-allowed}
use Rattle.block_tree.proofs.TargetLemmas.{dyn_run, execution-Dyn}
use Rattle.block_tree.proofs.Parts.{seq-inv, seq-done}

module _ (constants : List ℕ) where
  pub digest-input : (t : Tree) (input : HashInput) → input_of constants t ≡ Some input → tree_digest constants t ≡ digest_of_input constants input
  digest-input (Opaque digest) input e = cc
  digest-input _ input e = cc

  -- the first target of a digest, or what is found behind, refines itself
  first-cond : (b : Bool) (t : Tree) (o : Option Tree) → Refines constants t t → RefinesFirst constants o o
      → RefinesFirst constants (cond b (Some t) o) (cond b (Some t) o)
  first-cond true t o h h' = some h
  first-cond false t o h h' = h'

  mutual
    pub refines-refl : (t : Tree) → Refines constants t t
    refines-refl (Opaque digest) = opaque refl
    refines-refl (Span batches) = span
    refines-refl (Join a b) = join (refines-refl a) (refines-refl b)
    refines-refl (Split a b) = split (refines-refl a) (refines-refl b)
    refines-refl (Loop a) = loop (refines-refl a)
    refines-refl (Call a) = call (refines-refl a)
    refines-refl (Syscall a) = syscall (refines-refl a)
    refines-refl (Dyn ts) = dyn (λ digest. first-refl digest ts)

    pub first-refl : (digest : List ℕ) (ts : Targets)
        → RefinesFirst constants (first_target constants digest ts) (first_target constants digest ts)
    first-refl digest no_target = none
    first-refl digest (target t ts) =
        first-cond (pointwise nat_eq (tree_digest constants t) digest) t (first_target constants digest ts) (refines-refl t) (first-refl digest ts)

  pub refines-digest : {t u : Tree} → Refines constants t u → tree_digest constants t ≡ tree_digest constants u
  refines-digest (opaque e) = e
  refines-digest span = refl
  refines-digest (join a b) = λ i. digest_of_input constants (input_of_two op.Join (refines-digest a i) (refines-digest b i))
  refines-digest (split a b) = λ i. digest_of_input constants (input_of_two op.Split (refines-digest a i) (refines-digest b i))
  refines-digest (loop a) = λ i. digest_of_input constants (input_of_one op.Loop (refines-digest a i))
  refines-digest (call a) = λ i. digest_of_input constants (input_of_one op.Call (refines-digest a i))
  refines-digest (syscall a) = λ i. digest_of_input constants (input_of_one op.Syscall (refines-digest a i))
  refines-digest (dyn f) = refl

  mutual
    pub refines-trans : {t u v : Tree} → Refines constants t u → Refines constants u v → Refines constants t v
    refines-trans a (opaque e) = opaque (refines-digest a ∙ e)
    refines-trans a span = a
    refines-trans (join a b) (join c d) = join (refines-trans a c) (refines-trans b d)
    refines-trans (split a b) (split c d) = split (refines-trans a c) (refines-trans b d)
    refines-trans (loop a) (loop c) = loop (refines-trans a c)
    refines-trans (call a) (call c) = call (refines-trans a c)
    refines-trans (syscall a) (syscall c) = syscall (refines-trans a c)
    refines-trans (dyn f) (dyn g) = dyn (λ digest. first-trans (f digest) (g digest))

    pub first-trans : {o p q : Option Tree} → RefinesFirst constants o p → RefinesFirst constants p q → RefinesFirst constants o q
    first-trans f none = none
    first-trans (some a) (some b) = some (refines-trans a b)

  first-some : {o p : Option Tree} → RefinesFirst constants o p → (u : Tree) → p ≡ Some u → (t : Tree) × (o ≡ Some t) × Refines constants t u
  first-some none u e = cc
  first-some (some {t} {u = v} a) u e = let same : v ≡ u = cc in (t, refl, subst (Refines constants t) same a)

  pub first-refined : (ts us : Targets) → Refines constants (Dyn ts) (Dyn us) → (digest : List ℕ) (u : Tree)
      → first_target constants digest us ≡ Some u
      → (t : Tree) × (first_target constants digest ts ≡ Some t) × Refines constants t u
  first-refined ts us (dyn f) digest u e = first-some (f digest) u e

-- what the one outcome is done at, the other is done at as well
pub record Keep (o p : Outcome) : Type 0 where
  pub rule : (t : State) (es : List Event) → o ≡ Done t es → p ≡ Done t es

keep-refl : (o : Outcome) → Keep o o
keep-refl o = record { rule = λ t es e. e }

keep-then : (f g f' g' : Part) (s : State) → Keep (f s) (g s) → ((u : State) → Keep (f' u) (g' u)) → Keep (seq f f' s) (seq g g' s)
keep-then f g f' g' s h h' = record {
  rule = λ t es e.
      let b = seq-inv f f' s t es e in
      rw b.all (seq-done g g' s b.mid t b.first b.second (h.rule b.mid b.first b.ran) ((h' b.mid).rule t b.second b.went_on));
}

-- with the same part in front, and with the same part behind
keep-behind : (f g g' : Part) (s : State) → ((u : State) → Keep (g u) (g' u)) → Keep (seq f g s) (seq f g' s)
keep-behind f g g' s h = keep-then f f g g' s (keep-refl _) h

keep-front : (f f' g : Part) (s : State) → Keep (f s) (f' s) → Keep (seq f g s) (seq f' g s)
keep-front f f' g s h = keep-then f f' g g s h (λ u. keep-refl _)

keep-at_bit : (n : ℕ) (f g f' g' : Part) (s : State) → Keep (f s) (g s) → Keep (f' s) (g' s) → Keep (at_bit n f f' s) (at_bit n g g' s)
keep-at_bit zero f g f' g' s h h' = h
keep-at_bit (suc n) f g f' g' s h h' = h'

module _ (constants : List ℕ) (kernel : List (List ℕ)) (limit : ℕ) where
  keep-turns : (digest body_digest : List ℕ) (f g : Part) → ((u : State) → Keep (f u) (g u)) → (n : ℕ) (s : State)
      → Keep (turns constants kernel limit digest body_digest n f s) (turns constants kernel limit digest body_digest n g s)
  keep-turns digest body_digest f g h zero s = keep-refl (OutOfCycles s [])
  keep-turns digest body_digest f g h (suc n) s =
      keep-then _ _ _ _ s (h s) (λ u. keep-at_bit (top u.core) _ _ _ _ u (keep-refl _) (keep-behind _ _ _ u (keep-turns digest body_digest f g h n)))

  mutual
    pub keep-execution : {t u : Tree} → Refines constants t u → (s : State)
        → Keep (execution constants kernel limit u s) (execution constants kernel limit t s)
    keep-execution (opaque e) s = record { rule = λ t es d. absurd (cycle-allowed constants kernel limit StartOpaque s t es d).1 }
    keep-execution span s = keep-refl _
    keep-execution (join a b) s = rw (refines-digest constants a, refines-digest constants b)
        (keep-behind _ _ _ s (λ u. keep-then _ _ _ _ u (keep-execution a u) (λ v. keep-front _ _ _ v (keep-execution b v))))
    keep-execution (split a b) s = rw (refines-digest constants a, refines-digest constants b)
        (keep-behind _ _ _ s (λ u. keep-front _ _ _ u (keep-at_bit (top s.core) _ _ _ _ u (keep-execution b u) (keep-execution a u))))
    keep-execution (loop a) s = rw (refines-digest constants a)
        (keep-behind _ _ _ s (λ u. keep-at_bit (top s.core) _ _ _ _ u (keep-refl _) (keep-turns _ _ _ _ (keep-execution a) (limit - s.core.clock) u)))
    keep-execution (call a) s = rw (refines-digest constants a) (keep-behind _ _ _ s (λ u. keep-front _ _ _ u (keep-execution a u)))
    keep-execution (syscall a) s = rw (refines-digest constants a) (keep-behind _ _ _ s (λ u. keep-front _ _ _ u (keep-execution a u)))
    keep-execution (dyn {ts} {us} f) s =
        rw (execution-Dyn constants kernel limit ts s, execution-Dyn constants kernel limit us s) (keep-dyn (f (called_word s.core)) s)

    keep-dyn : {o p : Option Tree} → RefinesFirst constants o p → (s : State)
        → Keep (dyn_run constants kernel limit p s) (dyn_run constants kernel limit o s)
    keep-dyn none s = record {
      rule = λ t es e.
          let b = seq-inv (cycle constants kernel limit (StartDyn false)) _ s t es e in
          absurd (false≢true (cycle-allowed constants kernel limit (StartDyn false) s b.mid b.first b.ran).1.1);
    }
    keep-dyn (some a) s = keep-behind _ _ _ s (λ u. keep-front _ _ _ u (keep-execution a u))
