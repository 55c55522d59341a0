-- What a run took of the tape is enough for it.
use Rattle.std.proofs.Common.{◌≡◌, ℕ, ◌≤◌, List, [], ◌∷◌, ◌++◌, length, take, drop, sym, refl, ap, ◌∙◌, subst, arith, append_assoc, append-nil}
use Rattle.std.proofs.lemmas.List.{take-append-drop, length-append, length-take-le}
use Rattle.std.proofs.Math.Seq.{take-append_seam, drop-append_seam}
use Rattle.vm_field.specs.Machine.{State}
use Rattle.block_tree.specs.Trees.{Tree}
use Rattle.block_tree.specs.Cycles.{Cycle, Mark}
use Rattle.block_tree.specs.Execution.{Event, Done, Part, taking, cycle, execution}
use Rattle.block_tree.specs.Laws.{tape_taken, with_tape}
use Rattle.block_tree.specs.Steps.{Task}
use Rattle.block_tree.proofs.Courses.{step_of, Course, finished, course-same, course-along, course-done, course-of}
use Rattle.block_tree.proofs.Parts.{Cycled, taking-inv, taking-done}

taken-append : (xs ys : List Event) → tape_taken (xs ++ ys) ≡ tape_taken xs ++ tape_taken ys
taken-append [] ys = refl
taken-append (x ∷ xs) ys = rw (taken-append xs ys) (sym (append_assoc x.advice (tape_taken xs) (tape_taken ys)))

-- a part that was done, on what it took and any rest
pub record Fed (f : Part) (s t : State) (es : List Event) : Type 0 where
  pub tape : s.tape ≡ tape_taken es ++ t.tape
  pub again : (rest : List ℕ) → f (with_tape s (tape_taken es ++ rest)) ≡ Done (with_tape t rest) es

front : (n : ℕ) (tape rest : List ℕ) → n ≤ length tape
    → (take n (take n tape ++ rest) ≡ take n tape) × (drop n (take n tape ++ rest) ≡ rest) × (n ≤ length (take n tape ++ rest))
front n tape rest enough = (
  subst (λ k. take k (take n tape ++ rest) ≡ take n tape) (length-take-le n tape enough) (take-append_seam (take n tape) rest),
  subst (λ k. drop k (take n tape ++ rest) ≡ rest) (length-take-le n tape enough) (drop-append_seam (take n tape) rest),
  omega (arith, length-append (take n tape) rest, length-take-le n tape enough),
)

fed-taking : (limit : ℕ) (mark : Mark) (n : ℕ) (effect : List ℕ → Cycle) (s t : State) (es : List Event)
    → Cycled limit mark n effect s t es → Fed (taking limit mark n effect) s t es
fed-taking limit mark n effect s t es c = record {
  tape = rw (c.event, c.now, append-nil (take n s.tape)) (sym (take-append-drop n s.tape));
  again = λ rest.
      let f = front n s.tape rest c.enough in
      rw (c.event, c.now, append-nil (take n s.tape)) (rw (f.0, f.1) at
      (taking-done limit mark n effect (with_tape s (take n s.tape ++ rest)) c.core c.before f.2 (rw f.0 c.made)));
}

module _ (constants : List ℕ) (kernel : List (List ℕ)) (limit : ℕ) where
  -- what is done is so on what it took and any rest
  abbrev IsFed : List Task → State → List Event → State → Type 0
  IsFed todo s es t =
      (s.tape ≡ tape_taken es ++ t.tape)
      × ((rest : List ℕ) → Course constants kernel limit todo (with_tape s (tape_taken es ++ rest)) (Done (with_tape t rest) es))

  fed-cycle : (task : Task) (todo : List Task) (s t u : State) (es fs : List Event)
      → cycle constants kernel limit (step_of constants task s.core).0 s ≡ Done t es
      → IsFed ((step_of constants task s.core).1 ++ todo) t fs u → IsFed (task ∷ todo) s (es ++ fs) u
  fed-cycle task todo s t u es fs e h =
      let f = fed-taking limit _ _ _ s t es (taking-inv limit _ _ _ s t es e) in
      rw (taken-append es fs, append_assoc (tape_taken es) (tape_taken fs) u.tape) (
        f.tape ∙ ap (λ x. tape_taken es ++ x) h.0,
        λ rest. rw (append_assoc (tape_taken es) (tape_taken fs) rest)
            (course-done constants kernel limit _ es refl (f.again (tape_taken fs ++ rest)) (h.1 rest)),
      )

  pub fed-execution : (u : Tree) (s t : State) (es : List Event)
      → execution constants kernel limit u s ≡ Done t es → Fed (execution constants kernel limit u) s t es
  fed-execution u s t es e =
      let fed = course-along constants kernel limit IsFed (λ s. (refl, λ rest. finished)) fed-cycle (course-of constants kernel limit u s) t es e in
      record {
        tape = fed.0;
        again = λ rest. course-same constants kernel limit (course-of constants kernel limit u (with_tape s (tape_taken es ++ rest))) (fed.1 rest);
      }

  pub fed-alone : (u : Tree) (s t : State) (es : List Event) → execution constants kernel limit u s ≡ Done t es
      → execution constants kernel limit u (with_tape s (tape_taken es)) ≡ Done (with_tape t []) es
  fed-alone u s t es e =
      ap (λ x. execution constants kernel limit u (with_tape s x)) (sym (append-nil (tape_taken es))) ∙ (fed-execution u s t es e).again []
