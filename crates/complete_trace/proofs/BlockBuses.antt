-- The buses of blocks, children, loops and groups: the small tables have no part in them.
use Rattle.complete_rows.proofs.Words
use Words.{◌≡◌, ℕ, ◌+◌, List, [], ◌∷◌, ◌∙◌, arith, counted, over_rows, with_next, counted-none, asked_on, given_on, child, blocks_asked, blocks_given}
use Words.{children_asked, children_given, groups_asked, groups_given, loops_asked, loops_given, Claim, Trace}
use Words.bus
use Rattle.complete_trace.proofs.Quiet.{chips_give, chips_quiet}

named_sides : (asked more named given rest : ℕ) → named + given ≡ asked → more ≡ 0 → rest ≡ 0 → asked + more ≡ named + given + rest
named_sides asked more named given rest even zm zr = omega (arith, even, zm, zr)

sides : (asked more named given rest : ℕ) → given ≡ asked → named ≡ 0 → more ≡ 0 → rest ≡ 0 → asked + more ≡ named + given + rest
sides asked more named given rest even zn zm zr = omega (arith, even, zn, zm, zr)

module _ (k : Claim) (t : Trace) (v : List ℕ) where
  pub blocks_alike : over_rows (with_next blocks_given) t.main v ≡ over_rows (with_next blocks_asked) t.main v
      → chips_give bus.Blocks t v ≡ counted [] v → asked_on k t bus.Blocks v ≡ given_on k t bus.Blocks v
  unfolding asked_on given_on
  blocks_alike even none = sides _ _ _ _ _ even (counted-none v) (chips_quiet t v) (none ∙ counted-none v)

  pub children_alike
      : counted (child 0 k.digest 0 ∷ []) v + over_rows (with_next children_given) t.main v
      ≡ over_rows (with_next children_asked) t.main v
      → chips_give bus.Children t v ≡ counted [] v
      → asked_on k t bus.Children v ≡ given_on k t bus.Children v
  unfolding asked_on given_on
  children_alike even none = named_sides _ _ _ _ _ even (chips_quiet t v) (none ∙ counted-none v)

  pub loops_alike : over_rows (with_next loops_given) t.main v ≡ over_rows (with_next loops_asked) t.main v
      → chips_give bus.Loops t v ≡ counted [] v → asked_on k t bus.Loops v ≡ given_on k t bus.Loops v
  unfolding asked_on given_on
  loops_alike even none = sides _ _ _ _ _ even (counted-none v) (chips_quiet t v) (none ∙ counted-none v)

  pub groups_alike : over_rows (with_next groups_given) t.main v ≡ over_rows (with_next groups_asked) t.main v
      → chips_give bus.Groups t v ≡ counted [] v → asked_on k t bus.Groups v ≡ given_on k t bus.Groups v
  unfolding asked_on given_on
  groups_alike even none = sides _ _ _ _ _ even (counted-none v) (chips_quiet t v) (none ∙ counted-none v)
