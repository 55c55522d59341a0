-- The clocks of a run's accesses grow, so that no two accesses are at one clock.
use Rattle.complete_rows.proofs.Words
use Words.{◌≡◌, ℕ, zero, suc, ◌+◌, ◌<◌, ◌≤◌, List, [], ◌∷◌, ◌++◌, length, slice_index_or, All, refl, sym, ap, subst, arith, All-cons, All-nil, Core, State}
use Words.{WordMap, Task, cycle-clock, Access, Event, AreLinked, Decoder, accesses_of}
use Words.chains
use Rattle.complete_requests.proofs.MemorySteps as steps
use Rattle.complete_requests.proofs.MemorySteps.{Leaves, mark_leaves}

-- from a clock on
abbrev pub Rising : ℕ → List Access → Type 0
Rising clock [] = Unit {0}
Rising clock (a ∷ accesses) = (clock ≤ a.clk) × Rising (a.clk + 1) accesses

rises_from : (early clock : ℕ) (accesses : List Access) → early ≤ clock → Rising clock accesses → Rising early accesses
rises_from early clock [] before rising = tt
rises_from early clock (a ∷ accesses) before rising = (let here = rising.0 in omega (arith, before, here), rising.1)

pub none_before : (clock : ℕ) (accesses : List Access) → Rising clock accesses → All (λ a. clock ≤ a.clk) accesses
none_before clock [] rising = All-nil (λ a. clock ≤ a.clk)
none_before clock (a ∷ accesses) rising =
    All-cons (λ a. clock ≤ a.clk) a accesses rising.0
    (none_before clock accesses (rises_from clock (a.clk + 1) accesses (let here = rising.0 in omega (arith, here)) rising.1))

later_apart : {A : Type 0} (x : Access) (accesses : List Access) (j : ℕ) (a b : Access) → x.clk + 1 ≤ (slice_index_or accesses j b).clk → x ≡ a
    → slice_index_or accesses j b ≡ b → a.clk ≡ b.clk → A
later_apart x accesses j a b late first other same =
    absurd (let is = ap (λ o. o.clk) first in let are = ap (λ o. o.clk) other in omega (arith, late, is, are, same))

rising_apart : (clock : ℕ) (accesses : List Access) → Rising clock accesses → (i j : ℕ) (a b : Access) → slice_index_or accesses i a ≡ a
    → slice_index_or accesses j b ≡ b → a.clk ≡ b.clk → i < length accesses → j < length accesses → i ≡ j
rising_apart clock [] rising i j a b first other same low also = absurd (omega (arith, low))
rising_apart clock (x ∷ accesses) rising zero zero a b first other same low also = refl
rising_apart clock (x ∷ accesses) rising zero (suc j) a b first other same low also =
    later_apart x accesses j a b (none_before (x.clk + 1) accesses rising.1 j b (omega (arith, also))) first other same
rising_apart clock (x ∷ accesses) rising (suc i) zero a b first other same low also =
    later_apart x accesses i b a (none_before (x.clk + 1) accesses rising.1 i a (omega (arith, low))) other first (sym same)
rising_apart clock (x ∷ accesses) rising (suc i) (suc j) a b first other same low also =
    ap suc (rising_apart (x.clk + 1) accesses rising.1 i j a b first other same (omega (arith, low)) (omega (arith, also)))

-- one cycle has one access at most, at its clock
rises : {c : Core} {after : WordMap} {accesses : List Access} (rest : List Access) → Leaves c after accesses
    → Rising (c.clock + 1) rest → Rising c.clock (accesses ++ rest)
rises {c = c} rest (steps.nothing same) rising = rises_from c.clock (c.clock + 1) rest (omega arith) rising
rises rest (steps.one step) rising =
    let clk = step.clk in (omega (arith, clk), subst (λ n. Rising (n + 1) rest) (sym clk) rising)

module _ {constants : List ℕ} {kernel : List (List ℕ)} {limit : ℕ} {u : State} where
  pub clocks_rise : {todo : List Task} {d : Decoder} {s : State} {events : List Event} {rows : List (List ℕ)}
      → AreLinked constants kernel limit u todo d s events rows → Rising s.core.clock (accesses_of events)
  unfolding accesses_of
  clocks_rise (chains.ends e) = tt
  clocks_rise (chains.goes m later) =
      rises (accesses_of m.later) (mark_leaves m.mark m.s m.t m.cycle)
      (subst (λ n. Rising n (accesses_of m.later)) (cycle-clock constants kernel limit m.mark m.s m.t m.cycle) (clocks_rise later))

  pub accesses_apart : {todo : List Task} {d : Decoder} {s : State} {events : List Event} {rows : List (List ℕ)}
      → AreLinked constants kernel limit u todo d s events rows → (i j : ℕ) (a b : Access) → slice_index_or (accesses_of events) i a ≡ a
      → slice_index_or (accesses_of events) j b ≡ b → a.clk ≡ b.clk → i < length (accesses_of events) → j < length (accesses_of events) → i ≡ j
  accesses_apart {s = s} {events = events} linked = rising_apart s.core.clock (accesses_of events) (clocks_rise linked)
