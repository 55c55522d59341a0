-- The row behind an operation shows the cells that it leaves on top.
use Rattle.complete_rows.proofs.Words
use Words.{◌≡◌, ℕ, ◌<◌, List, [], ◌∷◌, length, take, reverse, slice_index, sym, ap, ◌∙◌, subst, arith, lit<, ext_get_or, get_or-take, number_of_constants}
use Words.{leaves_of, left_cells, seen_at, Seen, Item, Op, stepped, s, Do, IsCycle, cycle-step, twelve, IsMoment}
use Rattle.vm_ops.proofs.FrameLemmas.{index-left}
use Rattle.vm_ops.proofs.MoveLemmas.{leaves_of-below}
use Rattle.vm_ops.proofs.StepLemmas.{seen_at-sized}
use Rattle.complete_rows.proofs.ColumnLemmas.{below_by}
use Rattle.complete_rows.proofs.MomentFacts.{moment_shows, place_shows}

-- the cells that an operation leaves are on top of the row behind it
abbrev pub ShowsTops : Op → Seen → List ℕ → Type 0
ShowsTops op sn y = (j : ℕ) → j < leaves_of op → s y j ≡ slice_index (left_cells op sn) j

module _ {constants : List ℕ} (len : length constants ≡ number_of_constants) {kernel : List (List ℕ)} {limit : ℕ} {x y : List ℕ}
    (m : IsMoment constants kernel limit x y) where
  pub moment_tops : (item : Item) → m.mark ≡ Do item → ShowsTops item.op (seen_at constants item m.s) y
  moment_tops item is j low =
      let cycle = subst (λ mark. IsCycle constants kernel limit mark m.s m.t) is m.cycle in
      let done = stepped constants item m.s m.t (cycle-step constants kernel limit item m.s m.t cycle) in
      let sized = seen_at-sized constants item m.s len m.before done.enough in
      let few = leaves_of-below item.op in
      (place_shows m.next).cells j (omega (arith, low, few)) ∙ ap (λ z. slice_index z.core.stack j) done.is
      ∙ index-left item.op (seen_at constants item m.s) m.s.core.stack j sized low

  -- the row shows the cells before it
  pub moment_cell : (j : ℕ) → j < 16 → s x j ≡ slice_index (take 16 m.s.core.stack) j
  moment_cell j low = (moment_shows m).cells j low ∙ sym (get_or-take 16 m.s.core.stack j 0 low)

-- ---- twelve cells

top_cells : List ℕ → List ℕ
top_cells y =
    s y 0 ∷ s y 1 ∷ s y 2 ∷ s y 3 ∷ s y 4 ∷ s y 5 ∷ s y 6 ∷ s y 7 ∷ s y 8 ∷ s y 9 ∷ s y 10 ∷ s y 11 ∷ []

pub twelve_are : (xs y : List ℕ) → length xs ≡ 12 → ((j : ℕ) → j < 12 → s y j ≡ slice_index xs j) → twelve y ≡ reverse xs
unfolding top_cells
twelve_are xs y size f =
    ap reverse (ext_get_or 0 (top_cells y) xs (sym size) (below_by 12 (λ j. slice_index (top_cells y) j ≡ slice_index xs j) (
      f 0 (lit< tt),
      (
        f 1 (lit< tt),
        (
          f 2 (lit< tt),
          (
            f 3 (lit< tt),
            (
              f 4 (lit< tt),
              (
                f 5 (lit< tt),
                (
                  f 6 (lit< tt),
                  (
                    f 7 (lit< tt),
                    (
                      f 8 (lit< tt),
                      (f 9 (lit< tt), (f 10 (lit< tt), (f 11 (lit< tt), tt))),
                    ),
                  ),
                ),
              ),
            ),
          ),
        ),
      ),
    )))
