use Rattle.std.proofs.Common.{◌≡◌, [], ◌∷◌, get_or, ◌∙◌}
use Rattle.vm_field.specs.Permutation.{mixed, row_product}
use Rattle.rpo_hash.proofs.Halves.{row_of_halves, rows_of_high, rows_of_low}
use Rattle.rpo_hash.proofs.Lists.{twelve_places}
use Rattle.rpo_hash.proofs.permutation.mixed.Goals as goal

pub returns : goal.returns
unfolding mixed row_product
returns c =
    let state = c.args.state.now in
    let a = get_or state 0 c.index-state-0.result in
    let b = get_or state 1 c.index-state-1.result in
    let c' = get_or state 2 c.index-state-2.result in
    let d = get_or state 3 c.index-state-3.result in
    let e = get_or state 4 c.index-state-4.result in
    let f = get_or state 5 c.index-state-5.result in
    let g = get_or state 6 c.index-state-6.result in
    let h = get_or state 7 c.index-state-7.result in
    let i = get_or state 8 c.index-state-8.result in
    let j = get_or state 9 c.index-state-9.result in
    let k = get_or state 10 c.index-state-10.result in
    let l = get_or state 11 c.index-state-11.result in
    let literal : state ≡ a ∷ b ∷ c' ∷ d ∷ e ∷ f ∷ g ∷ h ∷ i ∷ j ∷ k ∷ l ∷ [] =
    twelve_places state _ _ _ _ _ _ _ _ _ _ _ _ c.told-state in
    let lows =
    rows_of_low c.product-low.result c.low_halves.result c.low_halves-2.result c.low_halves-3.result a b c' d e f g h i j k l
    c.low_halves.ensures.are c.low_halves-2.ensures.are c.low_halves-3.ensures.are c.product-low.ensures.rows in
    let highs =
    rows_of_high c.product-high.result c.high_halves.result c.high_halves-2.result c.high_halves-3.result a b c' d e f g h i j k l
    c.high_halves.ensures.are c.high_halves-2.ensures.are c.high_halves-3.ensures.are c.product-high.ensures.rows in
    c.all_joined.ensures ∙ rw literal (cc (
      row_of_halves a b c' d e f g h i j k l _ _ lows.0 highs.0,
      row_of_halves b c' d e f g h i j k l a _ _ lows.1 highs.1,
      row_of_halves c' d e f g h i j k l a b _ _ lows.2 highs.2,
      row_of_halves d e f g h i j k l a b c' _ _ lows.3 highs.3,
      row_of_halves e f g h i j k l a b c' d _ _ lows.4 highs.4,
      row_of_halves f g h i j k l a b c' d e _ _ lows.5 highs.5,
      row_of_halves g h i j k l a b c' d e f _ _ lows.6 highs.6,
      row_of_halves h i j k l a b c' d e f g _ _ lows.7 highs.7,
      row_of_halves i j k l a b c' d e f g h _ _ lows.8 highs.8,
      row_of_halves j k l a b c' d e f g h i _ _ lows.9 highs.9,
      row_of_halves k l a b c' d e f g h i j _ _ lows.10 highs.10,
      row_of_halves l a b c' d e f g h i j k _ _ lows.11 highs.11,
    ))
