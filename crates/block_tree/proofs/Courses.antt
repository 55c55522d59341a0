-- How each run goes, however it comes out: the first task and the state say which cycle comes, and what is then to be done.
use Rattle.std.proofs.Common.{◌≡◌, ℕ, zero, suc, nat_eq, is_some, ◌+◌, ◌-◌, ◌≤◌, List, [], ◌∷◌, ◌++◌, Option, Some, None, refl, sym, ap, ◌∙◌, subst, append_assoc, append-nil, arith}
use lib.Pointwise.{pointwise}
use Rattle.vm_field.specs.Machine.{Core, State}
use Rattle.vm_ops.specs.declared.item.Item.{Item}
use Rattle.op_pack.specs.Reading.{reading}
use Rattle.block_tree.specs.Trees.{Tree, Targets, Opaque, Span, Join, Split, Loop, Call, Syscall, Dyn, no_target, target, first_target, tree_digest}
use Rattle.block_tree.specs.Cycles.{Mark, StartOpaque, StartSpan, StartJoin, StartSplit, StartLoop, StartCall, StartSyscall, StartDyn, Respan, Repeat, Do, End, EndSpan, EndLoop, EndCall, EndSyscall, frame_of, top, called_word}
use Rattle.block_tree.specs.Execution.{Event, Outcome, Done, Trap, OutOfCycles, Part, logged, then_do, skip, seq, at_bit, cycle, operations, read_operations, batches_from, turns, execution}
use Rattle.block_tree.specs.Steps.{Task, Block, Within, Turned, Closing, Returning, Leaving}
use Rattle.block_tree.proofs.Keeping.{cycle-ticks}
use Rattle.block_tree.proofs.Parts.{done-events, done-not_late, done-state, seq-inv, taking-late}
use Rattle.block_tree.proofs.TargetLemmas.{none-found, on-first, run_option, execution-Dyn}

-- the first of two at 0, and else the second
abbrev pub at_cell : {A : Type 0} → ℕ → A → A → A
at_cell zero a b = a
at_cell (suc n) a b = b

abbrev pub items_in : Option (List Item) → List Item
items_in None = []
items_in (Some items) = items

abbrev pub blocks_in : Option Tree → List Task
blocks_in None = []
blocks_in (Some tree) = Block tree ∷ []

module _ (constants : List ℕ) where
  abbrev digest_of : Tree → List ℕ
  digest_of tree = tree_digest constants tree

  -- a batch that is begun, by its reading
  abbrev pub batch_step : Mark → List (List ℕ) → List ℕ → Option (List Item) → Mark × List Task
  batch_step mark later digest o = (mark, Within (items_in o) later digest ∷ [])

  -- a split, a loop, and a loop behind a turn, by the cell on top
  abbrev pub split_step : Tree → Tree → ℕ → Mark × List Task
  split_step a b n = (StartSplit (digest_of a) (digest_of b), Block (at_cell n b a) ∷ Closing (digest_of (Split a b)) ∷ [])

  abbrev pub loop_step : Tree → ℕ → Mark × List Task
  loop_step a n = (StartLoop (digest_of a), at_cell n (Closing (digest_of (Loop a)) ∷ []) (Block a ∷ Turned a ∷ []))

  abbrev pub turn_step : Tree → ℕ → Mark × List Task
  turn_step a n = at_cell n (EndLoop (digest_of (Loop a)), []) (Repeat (digest_of a), Block a ∷ Turned a ∷ [])

  -- a dynamic block, by its target
  abbrev pub dyn_step : List ℕ → Option Tree → Mark × List Task
  dyn_step digest o = (StartDyn (is_some o), blocks_in o ++ (Closing digest ∷ []))

  -- a task's first cycle, and what is then to be done in its place
  abbrev pub step_of : Task → Core → Mark × List Task
  step_of (Block (Opaque digest)) c = (StartOpaque, [])
  step_of (Block (Span [])) c = (EndSpan (digest_of (Span [])), [])
  step_of (Block (Span (batch ∷ later))) c = batch_step (StartSpan batch) later (digest_of (Span (batch ∷ later))) (reading batch)
  step_of (Block (Join a b)) c = (StartJoin (digest_of a) (digest_of b), Block a ∷ Block b ∷ Closing (digest_of (Join a b)) ∷ [])
  step_of (Block (Split a b)) c = split_step a b (top c)
  step_of (Block (Loop a)) c = loop_step a (top c)
  step_of (Block (Call a)) c = (StartCall (digest_of a), Block a ∷ Returning (digest_of (Call a)) (frame_of c) ∷ [])
  step_of (Block (Syscall a)) c = (StartSyscall (digest_of a), Block a ∷ Leaving (digest_of (Syscall a)) (frame_of c) ∷ [])
  step_of (Block (Dyn ts)) c = dyn_step (digest_of (Dyn ts)) (first_target constants (called_word c) ts)
  step_of (Within (item ∷ items) later digest) c = (Do item, Within items later digest ∷ [])
  step_of (Within [] (batch ∷ later) digest) c = batch_step (Respan batch) later digest (reading batch)
  step_of (Within [] [] digest) c = (EndSpan digest, [])
  step_of (Turned a) c = turn_step a (top c)
  step_of (Closing digest) c = (End digest, [])
  step_of (Returning digest frame) c = (EndCall digest frame, [])
  step_of (Leaving digest frame) c = (EndSyscall digest frame, [])

same-then : (o : Outcome) (f g : Part) → ((t : State) (es : List Event) → o ≡ Done t es → f t ≡ g t) → then_do o f ≡ then_do o g
same-then (Done t es) f g h = ap (logged es) (h t es refl)
same-then _ f g h = refl

then-assoc : (o : Outcome) (f g : Part) → then_do (then_do o f) g ≡ then_do o (λ t. then_do (f t) g)
then-assoc (Done t es) f g = go (f t)
  where
    again : (fs : List Event) (p : Outcome) → logged (es ++ fs) p ≡ logged es (logged fs p)
    again fs (Done u gs) = ap (Done u) (append_assoc es fs gs)
    again fs (Trap clock cause) = refl
    again fs (OutOfCycles u gs) = ap (OutOfCycles u) (append_assoc es fs gs)

    go : (p : Outcome) → then_do (logged es p) g ≡ logged es (then_do p g)
    go (Done u fs) = again fs (g u)
    go _ = refl
then-assoc _ f g = refl

then-nothing : (o : Outcome) → then_do o (λ t. Done t []) ≡ o
then-nothing (Done t es) = ap (Done t) (append-nil es)
then-nothing _ = refl

seq-assoc : (f g h : Part) (s : State) → seq (seq f g) h s ≡ seq f (seq g h) s
unfolding seq
seq-assoc f g h s = then-assoc (f s) g h

skip-first : (f : Part) (s : State) → seq skip f s ≡ f s
unfolding seq skip
skip-first f s = go (f s)
  where
    go : (o : Outcome) → logged [] o ≡ o
    go (Done t es) = refl
    go _ = refl

module _ (constants : List ℕ) (kernel : List (List ℕ)) (limit : ℕ) where
  abbrev cycle_of : Mark → Part
  cycle_of mark = cycle constants kernel limit mark

  abbrev run_of : Tree → Part
  run_of tree = execution constants kernel limit tree

  -- from a state the tasks, the first one first, come out so
  pub data Course : List Task → State → Outcome → Type 0 where
    finished : {s : State} → Course [] s (Done s [])
    cycled : {task : Task} {todo : List Task} {s : State} (behind : Part)
        → ((t : State) (es : List Event) → cycle_of (step_of constants task s.core).0 s ≡ Done t es
        → Course ((step_of constants task s.core).1 ++ todo) t (behind t))
        → Course (task ∷ todo) s (then_do (cycle_of (step_of constants task s.core).0 s) behind)

  -- they come out in one way
  pub course-same : {todo : List Task} {s : State} {o p : Outcome} → Course todo s o → Course todo s p → o ≡ p
  course-same finished finished = refl
  course-same (cycled f h) (cycled g k) = same-then _ f g (λ t es e. course-same (h t es e) (k t es e))

  -- what holds where all is done, and before a cycle where it holds behind it, holds of what is done
  pub course-along : (P : List Task → State → List Event → State → Type 0) → ((s : State) → P [] s [] s)
      → ((task : Task) (todo : List Task) (s t u : State) (es fs : List Event) → cycle_of (step_of constants task s.core).0 s ≡ Done t es
      → P ((step_of constants task s.core).1 ++ todo) t fs u → P (task ∷ todo) s (es ++ fs) u)
      → {todo : List Task} {s : State} {o : Outcome} → Course todo s o → (u : State) (es : List Event) → o ≡ Done u es → P todo s es u
  unfolding seq
  course-along P end before (finished {s}) u es e = rw (← done-state s u [] es e, ← done-events s u [] es e) (end s)
  course-along P end before (cycled {task} {todo} {s} f h) u es e =
      let b = seq-inv (cycle_of (step_of constants task s.core).0) f s u es e in
      rw b.all (before task todo s b.mid u b.first b.second b.ran (course-along P end before (h b.mid b.first b.ran) u b.second b.went_on))

  pub course-first : {task : Task} {rest todo : List Task} {s : State} (mark : Mark) (behind : Part) → step_of constants task s.core ≡ (mark, rest)
      → ((t : State) (es : List Event) → cycle_of mark s ≡ Done t es → Course (rest ++ todo) t (behind t))
      → Course (task ∷ todo) s (then_do (cycle_of mark s) behind)
  course-first {task} {rest} {todo} {s} mark behind e =
      subst (λ (x : Mark × List Task). ((t : State) (es : List Event) → cycle_of x.0 s ≡ Done t es → Course (x.1 ++ todo) t (behind t))
      → Course (task ∷ todo) s (then_do (cycle_of x.0 s) behind)) e (cycled behind)

  -- a first cycle that is done, and what is done behind it
  pub course-done : {task : Task} {rest todo : List Task} {s t : State} {o : Outcome} (mark : Mark) (es : List Event)
      → step_of constants task s.core ≡ (mark, rest) → cycle_of mark s ≡ Done t es → Course (rest ++ todo) t o → Course (task ∷ todo) s (logged es o)
  course-done {task} {rest} {todo} {s} {t} {o} mark es e done c =
      subst (λ x. Course (task ∷ todo) s (then_do x (λ u. o))) done
      (course-first mark (λ u. o) e (λ u fs d. subst (λ u. Course (rest ++ todo) u o) (done-state t u es fs (sym done ∙ d)) c))

  -- where the limit has been reached
  pub course-late : {task : Task} {todo : List Task} {s : State} → limit ≤ s.core.clock → Course (task ∷ todo) s (OutOfCycles s [])
  course-late {task} {todo} {s} late =
      let out : cycle_of (step_of constants task s.core).0 s ≡ OutOfCycles s [] = taking-late limit _ _ _ s late in
      subst (λ o. Course (task ∷ todo) s (then_do o skip)) out (cycled skip (λ t es d. absurd (done-not_late s t [] es (sym out ∙ d))))

  -- with this outcome the first tasks come out, and the others are done behind them
  record Follows (tasks : List Task) (s : State) (o : Outcome) : Type 0 where
    rule : (todo : List Task) (behind : Part) → ((t : State) → s.core.clock ≤ t.core.clock → Course todo t (behind t))
        → Course (tasks ++ todo) s (then_do o behind)

  follows-first : {task : Task} {rest : List Task} (mark : Mark) (part : Part) (s : State) → step_of constants task s.core ≡ (mark, rest)
      → ((t : State) → t.core.clock ≡ s.core.clock + 1 → Follows rest t (part t)) → Follows (task ∷ []) s (seq (cycle_of mark) part s)
  unfolding seq
  follows-first mark part s e h = record {
    rule = λ todo behind k. rw (then-assoc (cycle_of mark s) part behind)
        (course-first mark (λ t. then_do (part t) behind) e (λ t es d.
        let ticks = cycle-ticks constants kernel limit mark s t es d in
        (h t ticks).rule todo behind (λ u l. k u (omega arith))));
  }

  follows-last : {task : Task} (mark : Mark) (s : State) → step_of constants task s.core ≡ (mark, []) → Follows (task ∷ []) s (cycle_of mark s)
  follows-last mark s e = record {
    rule = λ todo behind k. course-first mark behind e (λ t es d.
        let ticks = cycle-ticks constants kernel limit mark s t es d in
        k t (omega arith));
  }

  follows-then : {task : Task} {tasks : List Task} {s : State} (f g : Part) → Follows (task ∷ []) s (f s)
      → ((t : State) → s.core.clock ≤ t.core.clock → Follows tasks t (g t)) → Follows (task ∷ tasks) s (seq f g s)
  unfolding seq
  follows-then {task} {tasks} {s} f g h h' = record {
    rule = λ todo behind k. rw (then-assoc (f s) g behind)
        (h.rule (tasks ++ todo) (λ t. then_do (g t) behind) (λ t l. (h' t l).rule todo behind (λ u m. k u (omega arith))));
  }

  abbrev IsFollowed : Tree → Type 0
  IsFollowed tree = (s : State) → Follows (Block tree ∷ []) s (run_of tree s)

  abbrev rest_of_span : List (List ℕ) → List ℕ → Part
  rest_of_span later digest = seq (batches_from constants kernel limit Respan later) (cycle_of (EndSpan digest))

  follows-items : (items : List Item) (later : List (List ℕ)) (digest : List ℕ)
      → ((s : State) → Follows (Within [] later digest ∷ []) s (rest_of_span later digest s))
      → (s : State) → Follows (Within items later digest ∷ []) s (seq (operations constants kernel limit items) (rest_of_span later digest) s)
  follows-items [] later digest h s = rw skip-first (h s)
  follows-items (item ∷ items) later digest h s = rw seq-assoc (follows-first (Do item) _ s refl (λ t l. follows-items items later digest h t))

  -- a batch that is begun, and the batches behind it
  follows-batch : {task : Task} (mark : Mark) (o : Option (List Item)) (later : List (List ℕ)) (digest : List ℕ) (s : State)
      → step_of constants task s.core ≡ (mark, Within (items_in o) later digest ∷ [])
      → ((t : State) → Follows (Within [] later digest ∷ []) t (rest_of_span later digest t))
      → Follows (task ∷ []) s
      (seq (seq (cycle_of mark) (seq (read_operations constants kernel limit o) (batches_from constants kernel limit Respan later)))
      (cycle_of (EndSpan digest)) s)
  follows-batch mark o later digest s e h = rw seq-assoc (follows-first mark _ s e (λ t l. rw seq-assoc (read o t)))
    where
      read : (o : Option (List Item)) (t : State)
          → Follows (Within (items_in o) later digest ∷ []) t (seq (read_operations constants kernel limit o) (rest_of_span later digest) t)
      read None t = follows-items [] later digest h t
      read (Some items) t = follows-items items later digest h t

  follows-batches : (later : List (List ℕ)) (digest : List ℕ) (s : State) → Follows (Within [] later digest ∷ []) s (rest_of_span later digest s)
  follows-batches [] digest s = rw skip-first (follows-last (EndSpan digest) s refl)
  follows-batches (batch ∷ later) digest s = follows-batch (Respan batch) (reading batch) later digest s refl (follows-batches later digest)

  -- the turns of a loop, of which no more are made than cycles are left
  follows-turns : (a : Tree) → IsFollowed a → (n : ℕ) (s : State) → limit ≤ n + s.core.clock
      → Follows (Block a ∷ Turned a ∷ []) s
      (turns constants kernel limit (tree_digest constants (Loop a)) (tree_digest constants a) n (run_of a) s)
  follows-turns a h zero s room = record { rule = λ todo behind k. course-late (omega arith) }
  follows-turns a h (suc n) s room =
      follows-then _ _ (h s) (λ t l. turned (top t.core) _ t refl (λ u m. follows-turns a h n u (omega arith)))
    where
      turned : (m : ℕ) (again : Part) (t : State) → top t.core ≡ m
          → ((u : State) → u.core.clock ≡ t.core.clock + 1 → Follows (Block a ∷ Turned a ∷ []) u (again u))
          → Follows (Turned a ∷ []) t
          (at_bit m (cycle_of (EndLoop (tree_digest constants (Loop a)))) (seq (cycle_of (Repeat (tree_digest constants a))) again) t)
      turned zero again t bit k = follows-last _ t (ap (turn_step constants a) bit)
      turned (suc m) again t bit k = follows-first _ again t (ap (turn_step constants a) bit) k

  follows-loop : (a : Tree) → IsFollowed a → (m n : ℕ) (t : State) → limit ≤ m + t.core.clock
      → Follows (at_cell n (Closing (tree_digest constants (Loop a)) ∷ []) (Block a ∷ Turned a ∷ [])) t
      (at_bit n (cycle_of (End (tree_digest constants (Loop a))))
      (turns constants kernel limit (tree_digest constants (Loop a)) (tree_digest constants a) m (run_of a)) t)
  follows-loop a h m zero t room = follows-last _ t refl
  follows-loop a h m (suc n) t room = follows-turns a h m t room

  follows-bit : (a b : Tree) (n : ℕ) → IsFollowed a → IsFollowed b → (t : State)
      → Follows (Block (at_cell n b a) ∷ []) t (at_bit n (run_of b) (run_of a) t)
  follows-bit a b zero h h' t = h' t
  follows-bit a b (suc n) h h' t = h t

  follows-found : (o : Option Tree) (digest : List ℕ) → ((a : Tree) → o ≡ Some a → IsFollowed a) → (t : State)
      → Follows (blocks_in o ++ (Closing digest ∷ [])) t (seq (run_option constants kernel limit o) (cycle_of (End digest)) t)
  follows-found None digest h t = rw skip-first (follows-last _ t refl)
  follows-found (Some a) digest h t = follows-then _ _ (h a refl t) (λ u l. follows-last _ u refl)

  mutual
    follows-tree : (tree : Tree) → IsFollowed tree
    follows-tree (Opaque digest) s = follows-last StartOpaque s refl
    follows-tree (Span []) s = rw skip-first (follows-last _ s refl)
    follows-tree (Span (batch ∷ later)) s = follows-batch (StartSpan batch) (reading batch) later _ s refl (follows-batches later _)
    follows-tree (Join a b) s =
        follows-first _ _ s refl (λ t l. follows-then _ _ (follows-tree a t) (λ u m. follows-then _ _ (follows-tree b u) (λ v n. follows-last _ v refl)))
    follows-tree (Split a b) s =
        follows-first _ _ s refl (λ t l. follows-then _ _ (follows-bit a b (top s.core) (follows-tree a) (follows-tree b) t) (λ u m. follows-last _ u refl))
    follows-tree (Loop a) s =
        follows-first _ _ s refl (λ t l. follows-loop a (follows-tree a) (limit - s.core.clock) (top s.core) t (omega arith))
    follows-tree (Call a) s = follows-first _ _ s refl (λ t l. follows-then _ _ (follows-tree a t) (λ u m. follows-last _ u refl))
    follows-tree (Syscall a) s = follows-first _ _ s refl (λ t l. follows-then _ _ (follows-tree a t) (λ u m. follows-last _ u refl))
    follows-tree (Dyn ts) s = rw (execution-Dyn constants kernel limit ts s)
        (follows-first _ _ s refl (λ t l. follows-found (first_target constants (called_word s.core) ts) _ (follows-targets ts (called_word s.core)) t))

    follows-targets : (ts : Targets) (digest : List ℕ) (a : Tree) → first_target constants digest ts ≡ Some a → IsFollowed a
    follows-targets no_target digest a e = absurd (none-found a e)
    follows-targets (target x ts) digest a e =
        on-first IsFollowed (pointwise nat_eq (tree_digest constants x) digest) x (first_target constants digest ts) (follows-tree x)
        (follows-targets ts digest) a e

  -- the course of a tree's run
  pub course-of : (tree : Tree) (s : State) → Course (Block tree ∷ []) s (run_of tree s)
  course-of tree s = rw then-nothing at ((follows-tree tree s).rule [] (λ t. Done t []) (λ t l. finished))
