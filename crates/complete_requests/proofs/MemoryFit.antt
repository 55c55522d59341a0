-- The accesses of a run fit: each shows the word that those before it leave.
use Rattle.complete_rows.proofs.Words
use Words.{◌≡◌, ℕ, ◌+◌, ◌^◌, ◌<◌, ◌≤◌, List, [], ◌∷◌, ◌++◌, All, sym, ap, subst, unwrap_or, arith, append_assoc, append-nil, All-append, All-cons, All-nil}
use Words.{Core, State, WordMap, start, word_at, zero_word, op_of_mark, Task, cycle-clock, Access, Event, AreLinked, Decoder, accesses_by, accesses_of}
use Words.chains
use Rattle.std.specs.FinMap.{get-empty}
use Rattle.vm_field.specs.Machine.{place_cmp}
use Rattle.air_kit.specs.Requests.{FitsMemory}
use Rattle.complete_rows.proofs.MomentFacts.{moment_event}
use Rattle.complete_requests.proofs.MemoryClocks.{Rising, clocks_rise, none_before}
use Rattle.complete_requests.proofs.MemorySteps as steps
use Rattle.complete_requests.proofs.MemorySteps.{Leaves, mark_leaves}
use Rattle.complete_requests.proofs.MemoryWords.{IsAt, IsLatest, none, one_later, word_before}

-- ---- one cycle

module _ {c : Core} {after : WordMap} (past : List Access) where
  stay_past : {accesses : List Access} → Leaves c after accesses → All (λ o. o.clk < c.clock) past
      → All (λ o. o.clk < c.clock + 1) (past ++ accesses)
  stay_past (steps.nothing same) low =
      subst (All (λ o. o.clk < c.clock + 1)) (sym (append-nil past)) (λ k d h. let less = low k d h in omega (arith, less))
  stay_past (steps.one {a = a} step) low =
      All-append (λ o. o.clk < c.clock + 1) past (a ∷ []) (λ k d h. let less = low k d h in omega (arith, less))
      (All-cons (λ o. o.clk < c.clock + 1) a [] (let clk = step.clk in omega (arith, clk)) (All-nil (λ o. o.clk < c.clock + 1)))

  stay_latest : {accesses : List Access} → Leaves c after accesses → All (λ o. o.clk < c.clock) past
      → ((context address : ℕ) → IsLatest past context address (word_at c.memory context address))
      → (context address : ℕ) → IsLatest (past ++ accesses) context address (word_at after context address)
  stay_latest (steps.nothing same) low latest context address =
      subst (λ l. IsLatest l context address (word_at after context address)) (sym (append-nil past))
      (subst (λ memory. IsLatest past context address (word_at memory context address)) (sym same) (latest context address))
  stay_latest (steps.one {a = a} step) low latest context address =
      one_later past a context address (word_at c.memory context address) (word_at after context address)
      (subst (λ n. All (λ o. o.clk < n) past) (sym step.clk) low) (latest context address)
      (λ at. rw (sym at.0, sym at.1) step.here) (step.elsewhere context address)

  fits : {accesses : List Access} (rest : List Access) → Leaves c after accesses → c.clock < 2 ^ 19 → All (λ o. o.clk < c.clock) past
      → Rising c.clock (accesses ++ rest) → ((context address : ℕ) → IsLatest past context address (word_at c.memory context address))
      → All (FitsMemory (past ++ (accesses ++ rest))) accesses
  fits rest (steps.nothing same) early low rising latest = All-nil (FitsMemory (past ++ rest))
  fits rest (steps.one {a = a} step) early low rising latest =
      let clk : a.clk ≡ c.clock = step.clk in
      All-cons (FitsMemory (past ++ (a ∷ rest))) a []
      (record {
        kind = step.kind;
        clk = omega (arith, clk, early);
        before = word_at c.memory a.ctx a.addr;
        is_before = word_before past (a ∷ rest) a (word_at c.memory a.ctx a.addr) (subst (λ n. All (λ o. o.clk < n) past) (sym clk) low)
            (subst (λ n. All (λ o. n ≤ o.clk) (a ∷ rest)) (sym clk) (none_before c.clock (a ∷ rest) rising)) (latest a.ctx a.addr);
        reads = step.reads;
        keeps = step.keeps;
      })
      (All-nil (FitsMemory (past ++ (a ∷ rest))))

-- ---- all cycles

module _ {constants : List ℕ} {kernel : List (List ℕ)} {limit : ℕ} {u : State} where
  fits_along : {todo : List Task} {d : Decoder} {s : State} {events : List Event} {rows : List (List ℕ)}
      → AreLinked constants kernel limit u todo d s events rows → (past : List Access) → All (λ o. o.clk < s.core.clock) past
      → ((context address : ℕ) → IsLatest past context address (word_at s.core.memory context address))
      → All (FitsMemory (past ++ accesses_of events)) (accesses_of events)
  unfolding accesses_of
  fits_along (chains.ends e) past low latest = All-nil (FitsMemory (past ++ []))
  fits_along (chains.goes m later) past low latest =
      let here = accesses_by (op_of_mark m.mark) (moment_event m) in
      let leaves = mark_leaves m.mark m.s m.t m.cycle in
      let ticks = cycle-clock constants kernel limit m.mark m.s m.t m.cycle in
      let whole = m.bounded.whole in
      let behind = fits_along later (past ++ here)
      (subst (λ n. All (λ o. o.clk < n) (past ++ here)) (sym ticks) (stay_past past leaves low))
      (stay_latest past leaves low latest) in
      All-append (FitsMemory (past ++ (here ++ accesses_of m.later))) here (accesses_of m.later)
      (fits past (accesses_of m.later) leaves (omega (arith, whole)) low
      (clocks_rise (chains.goes m later)) latest)
      (subst (λ l. All (FitsMemory l) (accesses_of m.later)) (append_assoc past here (accesses_of m.later)) behind)

  pub accesses_fit : (inputs tape : List ℕ) {todo : List Task} {d : Decoder} {events : List Event} {rows : List (List ℕ)}
      → AreLinked constants kernel limit u todo d (start inputs tape) events rows → All (FitsMemory (accesses_of events)) (accesses_of events)
  unfolding start
  accesses_fit inputs tape linked =
      fits_along linked [] (All-nil (λ o. o.clk < 0))
      (λ context address. subst (IsLatest [] context address) (sym (ap (λ o. unwrap_or o zero_word) (get-empty place_cmp (context, address))))
      (none (All-nil (λ o. IsAt o context address → ⊥))))
