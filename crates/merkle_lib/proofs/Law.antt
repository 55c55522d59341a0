-- From a run of a walk to the path on its tape.
use Rattle.std.proofs.Common.{◌≡◌, ℕ, zero, suc, ◌≤◌, List, [], ◌∷◌, ◌++◌, length, append_assoc, Ok, refl, sym, ap, subst, ◌∙◌, arith}
use Rattle.std.specs.List.{All}
use Rattle.std.proofs.lemmas.List.Elements.{All-cons, All-nil}
use Rattle.vm_field.specs.Limits.{number_of_constants}
use Rattle.vm_field.specs.Field.{AreElements}
use Rattle.vm_field.specs.Machine.{State, IsWellFormed, IsWord, filled_up, start}
use Rattle.vm_field.proofs.Elements.{length-filled_up}
use Rattle.vm_field.proofs.WellFormed.{start-IsWellFormed}
use Rattle.vm_ops.specs.Runs.{run}
use Rattle.op_pack.specs.Packing.{packed}
use Rattle.op_pack.specs.RoundTrip.{without_noops}
use Rattle.op_pack.proofs.BatchLemmas.{read_back}
use Rattle.masm_effects.proofs.Sized.{sized-of}
use Rattle.merkle_lib.specs.declared.paths.Step.{Step}
use Rattle.merkle_lib.specs.Paths.{Leads, tape_of, tape_of_step}
use Rattle.merkle_lib.specs.Programs.{last_items, leaf_on, level_items, levels, root_on, walk_items}
use Rattle.merkle_lib.specs.Walks.{IsPath, RunIsPath, RunsOut}
use Rattle.merkle_lib.proofs.Clocks.{AreUnclocked}
use Rattle.merkle_lib.proofs.Levels.{Holds, Level, compared, level-done, through}
use Rattle.merkle_lib.proofs.Packed.{free-walk, kept-walk, walk-packs}
use Rattle.merkle_lib.proofs.Spans.{span-run}

module _ (constants : List ℕ) (count : length constants ≡ number_of_constants) where
  record Walk (depth : ℕ) (leaf root tape : List ℕ) : Type 0 where
    path : List Step
    steps : length path ≡ depth
    words : All (λ step. IsWord step.sibling) path
    tape_is : tape ≡ tape_of path
    leads : Leads constants leaf path root

  -- one step more below
  below : (depth : ℕ) (n0 n1 n2 n3 r0 r1 r2 r3 : ℕ) (tape : List ℕ) (t : State)
      → (l : Level constants count n0 n1 n2 n3 r0 r1 r2 r3 tape t)
      → Walk depth (l.m0 ∷ l.m1 ∷ l.m2 ∷ l.m3 ∷ []) (r0 ∷ r1 ∷ r2 ∷ r3 ∷ []) l.later
      → Walk (suc depth) (n0 ∷ n1 ∷ n2 ∷ n3 ∷ []) (r0 ∷ r1 ∷ r2 ∷ r3 ∷ []) tape
  below depth n0 n1 n2 n3 r0 r1 r2 r3 tape t l w = record {
    path = l.step ∷ w.path;
    steps = ap suc w.steps;
    words = All-cons (λ step. IsWord step.sibling) l.step w.path l.word w.words;
    tape_is = l.tape_is ∙ ap (λ (later : List ℕ). tape_of_step l.step ++ later) w.tape_is;
    leads = subst (λ (node : List ℕ). Leads constants node w.path (r0 ∷ r1 ∷ r2 ∷ r3 ∷ [])) l.node w.leads;
  }

  walked : (depth : ℕ) (n0 n1 n2 n3 r0 r1 r2 r3 : ℕ) (tape : List ℕ) (s t : State)
      → Holds constants count (n3 ∷ n2 ∷ n1 ∷ n0 ∷ r3 ∷ r2 ∷ r1 ∷ r0 ∷ []) tape s → run constants (walk_items depth) s ≡ Ok t → t.tape ≡ []
      → Walk depth (n0 ∷ n1 ∷ n2 ∷ n3 ∷ []) (r0 ∷ r1 ∷ r2 ∷ r3 ∷ []) tape
  walked zero n0 n1 n2 n3 r0 r1 r2 r3 tape s t held ran used =
      let same = compared constants count n0 n1 n2 n3 r0 r1 r2 r3 tape s t held ran in
      record {
        path = [];
        steps = refl;
        words = All-nil (λ step. IsWord step.sibling);
        tape_is = sym same.1 ∙ used;
        leads = same.0;
      }
  walked (suc n) n0 n1 n2 n3 r0 r1 r2 r3 tape s t held ran used =
      let split = through constants level_items (walk_items n) s t
      (ap (λ (items : _). run constants items s) (sym (append_assoc level_items (levels n) last_items)) ∙ ran) in
      let l = level-done constants count n0 n1 n2 n3 r0 r1 r2 r3 tape s split.mid held split.first in
      below n n0 n1 n2 n3 r0 r1 r2 r3 tape split.mid l
      (walked n l.m0 l.m1 l.m2 l.m3 r0 r1 r2 r3 l.later split.mid t l.holds split.second used)

  -- the eight cells on top of a stack that has as many
  record Eight (stack : List ℕ) : Type 0 where
    a : ℕ
    b : ℕ
    c : ℕ
    d : ℕ
    e : ℕ
    f : ℕ
    g : ℕ
    h : ℕ
    rest : List ℕ
    is : stack ≡ (a ∷ b ∷ c ∷ d ∷ e ∷ f ∷ g ∷ h ∷ []) ++ rest

  eight : (stack : List ℕ) → 8 ≤ length stack → Eight stack
  eight [] deep = absurd (omega arith)
  eight (a ∷ []) deep = absurd (omega arith)
  eight (a ∷ b ∷ []) deep = absurd (omega arith)
  eight (a ∷ b ∷ c ∷ []) deep = absurd (omega arith)
  eight (a ∷ b ∷ c ∷ d ∷ []) deep = absurd (omega arith)
  eight (a ∷ b ∷ c ∷ d ∷ e ∷ []) deep = absurd (omega arith)
  eight (a ∷ b ∷ c ∷ d ∷ e ∷ f ∷ []) deep = absurd (omega arith)
  eight (a ∷ b ∷ c ∷ d ∷ e ∷ f ∷ g ∷ []) deep = absurd (omega arith)
  eight (a ∷ b ∷ c ∷ d ∷ e ∷ f ∷ g ∷ h ∷ rest) deep =
      record { a = a; b = b; c = c; d = d; e = e; f = f; g = g; h = h; rest = rest; is = refl }

  as-path : (depth : ℕ) (stack tape : List ℕ) (o : Eight stack)
      → Walk depth (o.d ∷ o.c ∷ o.b ∷ o.a ∷ []) (o.h ∷ o.g ∷ o.f ∷ o.e ∷ []) tape
      → (path : List Step) × IsPath constants depth stack tape path
  as-path depth stack tape o w =
      let leaf : o.d ∷ o.c ∷ o.b ∷ o.a ∷ [] ≡ leaf_on stack = sym (ap leaf_on o.is) in
      let root : o.h ∷ o.g ∷ o.f ∷ o.e ∷ [] ≡ root_on stack = sym (ap root_on o.is) in (
        w.path,
        record {
          steps = w.steps;
          words = w.words;
          tape_is = w.tape_is;
          leads = subst (λ (x : List ℕ). Leads constants x w.path (root_on stack)) leaf
              (subst (λ (x : List ℕ). Leads constants (o.d ∷ o.c ∷ o.b ∷ o.a ∷ []) w.path x) root w.leads);
        },
      )

  pub run-is-path : (depth : ℕ) (inputs tape : List ℕ) → AreElements inputs → AreElements tape → RunsOut constants depth inputs tape
      → (path : List Step) × IsPath constants depth (filled_up inputs) tape path
  unfolding start
  run-is-path depth inputs tape cells elements r =
      let well : IsWellFormed (start inputs tape) = start-IsWellFormed inputs tape cells elements in
      let reads = read_back (walk_items depth) (walk-packs depth) in
      let same : without_noops reads.read ≡ walk_items depth = reads.same ∙ kept-walk depth in
      let went = span-run constants r.kernel r.limit (packed (walk_items depth)) reads.read (start inputs tape) r.state r.events count reads.is
      (subst AreUnclocked (sym same) (free-walk depth)) (sized-of (start inputs tape).core well.core) r.done in
      let o = eight (filled_up inputs) (let deep = length-filled_up inputs in omega arith) in
      let tape_left : went.behind.tape ≡ [] = ap (λ (x : State). x.tape) went.like.is ∙ r.used in
      let P : List ℕ → State = λ stack. record { core = record (start inputs tape).core { stack = stack }; tape = tape } in
      as-path depth (filled_up inputs) tape o
      (walked depth o.d o.c o.b o.a o.h o.g o.f o.e tape (start inputs tape) went.behind
      (record { core = (start inputs tape).core; rest = o.rest; is = ap P o.is; well = subst (λ (x : List ℕ). IsWellFormed (P x)) o.is well })
      (ap (λ (items : _). run constants items (start inputs tape)) (sym same) ∙ went.ran) tape_left)

pub run-path : RunIsPath
run-path constants depth inputs tape count cells elements r = run-is-path constants count depth inputs tape cells elements r
