-- What the row of a moment of a run shows, by the operation that its bits spell, and what it and the row behind it show.
use Rattle.complete_rows.proofs.Words
use Words.{◌≡◌, ℕ, ◌<◌, ◌≤◌, List, [], ◌∷◌, ◌++◌, slice_index, take, unwrap_or, refl, sym, ap, ◌∙◌, subst, arith, most_cycles, Core, State, elements-take}
use Words.{code_of, op_at, Op, code_of-below, IsAllowed, core_behind, Mark, advice_taken, effect_of, accessed, behind, op_of_mark, Task, IsCycle, behind-cycle}
use Words.{hash-batch, visible_of, Event, b, h, t, w, ReadsAs, IsRow, IsPair, Decoder, advance, halted, hash_by, line_of, witnesses_by, kind_of, limbs_of, Line}
use Words.{laid_out, Comes, IsLastMoment, IsMoment, IsRowAt, event_at, Shows}
use Words.ops
use Words.flags
use Rattle.vm_field.proofs.Elements.{elements-replicate, word-zero}
use Rattle.vm_ops.proofs.CodeLemmas.{op_at-code_of}
use Rattle.block_tree.proofs.RowLemmas.{accessed-word, shown-behind}
use Rattle.complete_rows.proofs.BatchLemmas.{IsLaid, laid}
use Rattle.complete_rows.proofs.ColumnLemmas.{col_b, col_t}
use Rattle.complete_rows.proofs.LineLemmas.{ha_low, low_line, next_low}
use Rattle.complete_rows.proofs.LowLemmas.{bits_spell, line_reads}
use Rattle.complete_rows.proofs.PairLemmas.{Known, pair_shown, ticked}
use Rattle.complete_rows.proofs.RowLemmas.{halt_row, row_shown}
use Rattle.complete_rows.proofs.ShowLemmas.{shows_row}

-- the operation that the bits of a row spell is that of its line
pub line_op : (l : Line) → flags.op_of (laid_out l) ≡ l.op
unfolding flags.op_of
line_op l =
    let few = code_of-below l.op in
    let spells = bits_spell (b (laid_out l)) (code_of l.op) (omega (arith, few)) (col_b l) in
    ap (λ o. unwrap_or o ops.Noop) (ap op_at (sym spells) ∙ op_at-code_of l.op)

module _ {constants : List ℕ} {todo : List Task} {d : Decoder} {c : Core} {x : List ℕ} (at : IsRowAt constants todo d c x) where
  -- the operation of a row at a place, and what it shows
  pub place_op : flags.op_of x ≡ at.event.op
  place_op = ap flags.op_of at.row ∙ line_op (line_of d at.event at.next at.later)

  pub place_shows : Shows (flags.op_of x) d c x
  place_shows =
      subst (λ op. Shows op d c x) (sym place_op)
      (subst (λ z. Shows at.event.op d c z) (sym at.row) (shows_row d at.event at.next at.later c at.before))

  pub place_comes : Comes constants todo c (flags.op_of x)
  place_comes = subst (Comes constants todo c) (sym place_op) at.comes

-- the state but for the tape behind a cycle
pub core_after : {constants : List ℕ} {kernel : List (List ℕ)} {limit : ℕ} {mark : Mark} {s t : State} → IsCycle constants kernel limit mark s t
    → t.core ≡ ticked (core_behind constants mark (take (advice_taken mark) s.tape) s.core)
core_after {constants = constants} {kernel = kernel} {mark = mark} {s = s} cycle =
    ap (λ x. x.core) cycle.now
    ∙ ap ticked (behind-cycle constants kernel mark (take (advice_taken mark) s.tape) s.core cycle.core cycle.made).1

module _ {constants : List ℕ} {kernel : List (List ℕ)} {limit : ℕ} {x y : List ℕ} (m : IsMoment constants kernel limit x y) where
  -- the advice that its cycle takes, its event, the line that its row lays out, and the state behind it
  abbrev pub advice_of : List ℕ
  advice_of = take (advice_taken m.mark) m.s.tape

  abbrev pub moment_event : Event
  moment_event = event_at constants kernel m.mark m.s

  abbrev pub moment_line : Line
  moment_line = line_of m.d moment_event (visible_of m.t.core) m.later

  abbrev pub moment_behind : Core
  moment_behind = behind (effect_of constants kernel m.mark advice_of m.s.core) m.s.core

  pub moment_allowed : IsAllowed constants kernel m.mark advice_of m.s.core
  moment_allowed = (behind-cycle constants kernel m.mark advice_of m.s.core m.cycle.core m.cycle.made).0

  -- what is known of its cycle
  pub known : limit ≤ most_cycles → Known constants kernel m.mark advice_of m.s.core m.d
  known within = record {
    allowed = moment_allowed;
    whole = m.whole;
    formed = m.before.core;
    small = m.small;
    early = (let early : m.s.core.clock < limit = m.cycle.before in omega (arith, early, within));
    ha = m.bounded.ha;
  }

  -- the operation of its row; what a laid out line shows is shown by the row
  pub moment_op : flags.op_of x ≡ op_of_mark m.mark
  moment_op = ap flags.op_of m.row ∙ line_op moment_line

  by_op : (P : Op → List ℕ → Type 0) → P (op_of_mark m.mark) x → P (flags.op_of x) x
  by_op P shown = subst (λ op. P op x) (sym moment_op) shown

  laid_out_shows : Shows (op_of_mark m.mark) m.d m.s.core x
  laid_out_shows =
      subst (Shows (op_of_mark m.mark) m.d m.s.core) (sym m.row)
      (shows_row m.d moment_event (visible_of m.t.core) m.later m.s.core refl)

  is_laid : IsLaid moment_line x
  is_laid = subst (IsLaid moment_line) (sym m.row) (laid moment_line)

  pub moment_shows : Shows (flags.op_of x) m.d m.s.core x
  moment_shows = by_op (λ op z. Shows op m.d m.s.core z) laid_out_shows

  pub moment_reads : ReadsAs (flags.op_of x) x
  moment_reads =
      let word : accessed m.mark m.s.core moment_behind ≡ accessed m.mark m.s.core m.t.core
      = (shown-behind constants kernel limit m.mark m.s m.t m.cycle).0 in
      by_op ReadsAs (subst (ReadsAs (op_of_mark m.mark)) (sym m.row) (line_reads moment_line
      (low_line m.d moment_event (visible_of m.t.core) m.s.core m.later (record {
        before = refl;
        formed = m.before.core;
        small = m.small;
        unread = m.agrees.low;
        next = next_low m.d m.s.core.clock (moment_event ∷ m.later) m.bounded;
        ha = ha_low m.d m.s.core.clock (moment_event ∷ m.later) m.bounded;
        blocks = m.bounded.blocks;
        keys = m.bounded.keys;
        hash = (hash-batch m.mark m.whole).below;
        word = rw word (accessed-word m.mark m.s.core m.t.core m.behind.core).below;
        behind = elements-take 16 m.t.core.stack m.behind.core.cells;
        clock = (let whole = m.bounded.whole in omega (arith, whole));
        few = (let whole = m.bounded.whole in omega (arith, whole));
      }))))

  pub moment_row : limit ≤ most_cycles → IsRow (flags.op_of x) x
  moment_row within = by_op IsRow (row_shown m.later moment_behind (visible_of m.t.core) m.first (known within) m.agrees laid_out_shows is_laid)

  -- its cells
  pub moment_hash : (j : ℕ) → j < 8 → h x j ≡ slice_index (hash_by (kind_of (op_of_mark m.mark)) m.d moment_event) j
  moment_hash = is_laid.hash

  pub moment_witness : (j : ℕ) → j < 4
      → w x j ≡ slice_index (witnesses_by (kind_of (op_of_mark m.mark)) m.d moment_event (visible_of m.t.core) m.later) j
  moment_witness = is_laid.witness

  pub moment_limb : (j : ℕ) → j < 10 → t x j ≡ slice_index (limbs_of moment_event (visible_of m.t.core)) j
  moment_limb j low = ap (λ z. t z j) m.row ∙ col_t moment_line j low

  -- and what the row behind it shows
  pub behind_shows : Shows (flags.op_of y) (advance m.d moment_event m.later) (ticked (core_behind constants m.mark advice_of m.s.core)) y
  behind_shows = subst (λ c. Shows (flags.op_of y) (advance m.d moment_event m.later) c y) (core_after m.cycle) (place_shows m.next)

  pub moment_pair : limit ≤ most_cycles → IsPair (flags.op_of x) (flags.op_of y) x y
  moment_pair within =
      by_op (λ op z. IsPair op (flags.op_of y) z y) (pair_shown m.later moment_behind (visible_of m.t.core) m.first (known within) m.agrees laid_out_shows is_laid behind_shows
      (subst (λ c. Comes constants (m.rest ++ m.todo) c (flags.op_of y)) (core_after m.cycle) (place_comes m.next)))

-- ---- the row of HALT

module _ {d : Decoder} {u : State} {x : List ℕ} (e : IsLastMoment d u x) where
  abbrev end_line : Line
  end_line = line_of d (halted (visible_of u.core)) (visible_of u.core) []

  pub end_op : flags.op_of x ≡ ops.Halt
  end_op = ap flags.op_of e.row ∙ line_op end_line

  at_end : (P : Op → List ℕ → Type 0) → P ops.Halt (laid_out end_line) → P (flags.op_of x) x
  at_end P shown = subst (λ op. P op x) (sym end_op) (subst (P ops.Halt) (sym e.row) shown)

  pub end_reads : ReadsAs (flags.op_of x) x
  end_reads =
      at_end ReadsAs (line_reads end_line (low_line d (halted (visible_of u.core)) (visible_of u.core) u.core [] (record {
        before = refl;
        formed = e.whole.core;
        small = e.small;
        unread = e.agrees.low;
        next = next_low d u.core.clock [] e.bounded;
        ha = ha_low d u.core.clock [] e.bounded;
        blocks = e.bounded.blocks;
        keys = e.bounded.keys;
        hash = elements-replicate 8;
        word = word-zero.below;
        behind = elements-take 16 u.core.stack e.whole.core.cells;
        clock = (let whole = e.bounded.whole in omega (arith, whole));
        few = omega arith;
      })))

  pub end_row_shown : IsRow (flags.op_of x) x
  end_row_shown = at_end IsRow (halt_row d (visible_of u.core) u.core e.agrees)

  pub end_shows : Shows (flags.op_of x) d u.core x
  end_shows = at_end (λ op z. Shows op d u.core z) (shows_row d (halted (visible_of u.core)) (visible_of u.core) [] u.core refl)
