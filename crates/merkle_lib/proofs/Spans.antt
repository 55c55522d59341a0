-- A span that is done: its operations, without the NOOPs that packing adds, run one after another.
use Rattle.std.proofs.Common.{◌≡◌, ℕ, ◌+◌, ◌-◌, not, List, [], ◌∷◌, ◌++◌, length, take, Option, Some, None, option_map, option_and_then, Ok, refl, sym, ap, subst, ◌∙◌}
use Rattle.std.proofs.lemmas.List.Elements.{filter-append}
use Rattle.vm_field.specs.Limits.{number_of_constants}
use Rattle.vm_field.specs.Machine.{Core, State}
use Rattle.vm_ops.specs.declared.item.Item.{Item}
use Rattle.vm_ops.specs.Runs.{after_ok, run}
use Rattle.vm_ops.proofs.RunLemmas.{run-append, run-nil}
use Rattle.op_pack.specs.Reading.{reading}
use Rattle.op_pack.specs.RoundTrip.{is_noop, read_batches, without_noops}
use Rattle.block_tree.specs.Cycles.{Mark, StartSpan, Respan, EndSpan, effect_of}
use Rattle.block_tree.specs.Execution.{Event, Done, batches_from, cycle, execution, operations, read_operations, seq}
use Rattle.block_tree.specs.Trees.{Span, tree_digest}
use Rattle.block_tree.proofs.BehindLemmas.{behind-cycle}
use Rattle.block_tree.proofs.Parts.{seq-inv, skip-inv, taking-inv}
use Rattle.masm_effects.proofs.Sized.{IsSized}
use Rattle.masm_effects.proofs.SpanLemmas.{operations-agree}
use Rattle.masm_effects.specs.Spans.{EndsLike}
use Rattle.merkle_lib.proofs.Clocks.{AreUnclocked, Like, Went, like-both, like-self, like-sized, run-like}

-- the state behind a cycle that takes nothing of the tape
abbrev ticked_on : List ℕ → Core → State
ticked_on tape core = record { core = record core { clock = core.clock + 1 }; tape = tape }

module _ (constants : List ℕ) (kernel : List (List ℕ)) (limit : ℕ) where
  start-like : (batch : List ℕ) (s t : State) (events : List Event) → cycle constants kernel limit (StartSpan batch) s ≡ Done t events → Like s t
  start-like batch s t events e =
      let c = taking-inv limit (StartSpan batch) 0 (effect_of constants kernel (StartSpan batch)) s t events e in
      let h = behind-cycle constants kernel (StartSpan batch) (take 0 s.tape) s.core c.core c.made in
      record { clock = s.core.clock + 1; nesting = s.core.nesting + 1; is = c.now ∙ ap (ticked_on s.tape) h.1 }

  respan-like : (batch : List ℕ) (s t : State) (events : List Event) → cycle constants kernel limit (Respan batch) s ≡ Done t events → Like s t
  respan-like batch s t events e =
      let c = taking-inv limit (Respan batch) 0 (effect_of constants kernel (Respan batch)) s t events e in
      let h = behind-cycle constants kernel (Respan batch) (take 0 s.tape) s.core c.core c.made in
      record { clock = s.core.clock + 1; nesting = s.core.nesting; is = c.now ∙ ap (ticked_on s.tape) h.1 }

  end-like : (digest : List ℕ) (s t : State) (events : List Event) → cycle constants kernel limit (EndSpan digest) s ≡ Done t events → Like s t
  end-like digest s t events e =
      let c = taking-inv limit (EndSpan digest) 0 (effect_of constants kernel (EndSpan digest)) s t events e in
      let h = behind-cycle constants kernel (EndSpan digest) (take 0 s.tape) s.core c.core c.made in
      record { clock = s.core.clock + 1; nesting = s.core.nesting - 1; is = c.now ∙ ap (ticked_on s.tape) h.1 }

  operations-run : (items : List Item) (s t : State) (events : List Event) → operations constants kernel limit items s ≡ Done t events
      → run constants items s ≡ Ok t
  operations-run items s t events e =
      subst (λ o. EndsLike o (run constants items s)) e (operations-agree constants kernel limit items s)

  -- the cycle that begins a batch
  abbrev BeginsLike : (List ℕ → Mark) → Type 0
  BeginsLike begins = (batch : List ℕ) (s t : State) (events : List Event) → cycle constants kernel limit (begins batch) s ≡ Done t events → Like s t

  record Parts (o q : Option (List Item)) (read : List Item) : Type 0 where
    first : List Item
    more : List Item
    of_first : o ≡ Some first
    of_more : q ≡ Some more
    both : read ≡ first ++ more

  parts : (o q : Option (List Item)) (read : List Item)
      → option_and_then (λ first. option_map (λ later. first ++ later) q) o ≡ Some read → Parts o q read
  parts None q read e = cc
  parts (Some first) None read e = cc
  parts (Some first) (Some more) read e = record { first = first; more = more; of_first = refl; of_more = refl; both = cc }

  free-parts : (xs ys : List Item) → AreUnclocked (xs ++ ys) → AreUnclocked xs × AreUnclocked ys
  free-parts [] ys h = (tt, h)
  free-parts (x ∷ xs) ys h = let later = free-parts xs ys h.1 in ((h.0, later.0), later.1)

  went-both : (xs ys : List Item) (s t u : State) (w : Went constants xs s t) → Went constants ys w.behind u → Went constants (xs ++ ys) s u
  went-both xs ys s t u w v = record {
    behind = v.behind;
    ran = run-append constants xs ys s ∙ (ap (after_ok (run constants ys)) w.ran ∙ v.ran);
    like = v.like;
    sized = v.sized;
  }

  batches-run : (begins : List ℕ → Mark) → BeginsLike begins → (batches : List (List ℕ)) (read : List Item) (s t s' : State) (events : List Event)
      → length constants ≡ number_of_constants → read_batches batches ≡ Some read → AreUnclocked (without_noops read) → IsSized s.core
      → Like s s' → batches_from constants kernel limit begins batches s ≡ Done t events → Went constants (without_noops read) s' t
  batches-run begins h [] read s t s' events count is free sized like e =
      let none : [] ≡ read = cc in
      let same : s ≡ t = (skip-inv s t events e).0 in
      subst (λ (xs : List Item). Went constants (without_noops xs) s' t) none
      (subst (λ (x : State). Went constants [] s' x) same (run-like constants [] s s s' count sized like tt (run-nil constants s)))
  batches-run begins h (batch ∷ later) read s t s' events count is free sized like e =
      let p = parts (reading batch) (read_batches later) read is in
      let a = seq-inv (cycle constants kernel limit (begins batch))
      (seq (read_operations constants kernel limit (reading batch)) (batches_from constants kernel limit Respan later)) s t events e in
      let b = seq-inv (read_operations constants kernel limit (reading batch)) (batches_from constants kernel limit Respan later)
      a.mid t a.second a.went_on in
      let begun : Like s a.mid = h batch s a.mid a.first a.ran in
      let cut : without_noops read ≡ without_noops p.first ++ without_noops p.more =
      ap without_noops p.both ∙ filter-append (λ item. not (is_noop item)) p.first p.more in
      let each = free-parts (without_noops p.first) (without_noops p.more) (subst AreUnclocked cut free) in
      let ran : run constants p.first a.mid ≡ Ok b.mid =
      operations-run p.first a.mid b.mid b.first
      (ap (λ (o : Option (List Item)). read_operations constants kernel limit o a.mid) (sym p.of_first) ∙ b.ran) in
      let one = run-like constants p.first a.mid b.mid s' count (like-sized s a.mid begun sized) (like-both s a.mid s' begun like) each.0 ran in
      let two = batches-run Respan respan-like later p.more b.mid t one.behind b.second count p.of_more each.1 one.sized one.like b.went_on in
      subst (λ (xs : List Item). Went constants xs s' t) (sym cut)
      (went-both (without_noops p.first) (without_noops p.more) s' b.mid t one two)

  -- the operations of a span that is done
  pub span-run : (batches : List (List ℕ)) (read : List Item) (s t : State) (events : List Event)
      → length constants ≡ number_of_constants → read_batches batches ≡ Some read → AreUnclocked (without_noops read) → IsSized s.core
      → execution constants kernel limit (Span batches) s ≡ Done t events → Went constants (without_noops read) s t
  span-run batches read s t events count is free sized e =
      let a = seq-inv (batches_from constants kernel limit StartSpan batches) (cycle constants kernel limit (EndSpan (tree_digest constants (Span batches))))
      s t events e in
      let w = batches-run StartSpan start-like batches read s a.mid s a.first count is free sized (like-self s) a.ran in
      let ended : Like a.mid t = end-like (tree_digest constants (Span batches)) a.mid t a.second a.went_on in
      record {
        behind = w.behind;
        ran = w.ran;
        like = like-both a.mid t w.behind ended w.like;
        sized = like-sized a.mid t ended w.sized;
      }
