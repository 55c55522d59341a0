-- What several events have in common stands once, in lists beside them, and has a name there.
use Rattle.std.specs.Prelude.{◌≡◌, ℕ, zero, suc, false, ◌+◌, ◌<◌, ◌≤◌, List, ◌++◌, drop, length, reverse, slice_index_or, take}
use Rattle.vm_field.specs.Machine.{zero_word}
use Rattle.machine_cycles.specs.declared.event.Visible.{Visible}
use Rattle.machine_cycles.specs.declared.names.Lists.{Lists}
use Rattle.machine_cycles.specs.declared.names.Names.{Names}
use Rattle.machine_cycles.specs.declared.names.Scene.{Scene}

abbrev pub zeros : List ℕ
zeros = zero_word ++ zero_word

-- what a number names of a list: 0 the zeros, n + 1 what stands at n
abbrev pub named : List ℕ → List (List ℕ) → ℕ → List ℕ
named none xs zero = none
named none xs (suc n) = slice_index_or xs n none

-- the scene that is named where there is none
abbrev pub nowhere : Scene
nowhere = record { fmp = 0; digest = zero_word; context = 0; nesting = 0; in_syscall = false }

abbrev pub scene_of : Visible → Scene
scene_of v = record { fmp = v.fmp; digest = v.digest; context = v.context; nesting = v.nesting; in_syscall = v.in_syscall }

-- the cells below the fourth that a place of a list of cells names: twelve, the highest last
abbrev pub under : List ℕ → ℕ → List ℕ
under list place = reverse (take 12 (drop place list))

-- these cells, the highest last, stand at a place
abbrev pub Stands : List ℕ → ℕ → List ℕ → Type 0
Stands list place lower = (place + 12 ≤ length list) × (take 12 (drop place list) ≡ lower)

-- they would stand there, if the highest were added
abbrev pub Lacks : List ℕ → ℕ → List ℕ → Type 0
Lacks list place lower = (place ≤ length list) × (drop place list ≡ take 11 lower)

-- the lists have grown at their ends
pub record HaveGrown (before after : Lists) : Type 0 where
  pub scenes : List Scene
  pub cells : List ℕ
  pub uses : List (List ℕ)
  pub more_scenes : after.scenes.items ≡ before.scenes.items ++ scenes
  pub more_cells : after.cells.items ≡ before.cells.items ++ cells
  pub more_uses : after.uses.items ≡ before.uses.items ++ uses

-- each place and number names something
pub record AreWithin (lists : Lists) (n : Names) : Type 0 where
  pub scene : n.scene < length lists.scenes.items
  pub lower : n.lower + 12 ≤ length lists.cells.items
  pub elements : n.elements ≤ length lists.uses.items

abbrev pub scene_named : Lists → Names → Scene
scene_named lists n = slice_index_or lists.scenes.items n.scene nowhere

abbrev pub lower_named : Lists → Names → List ℕ
lower_named lists n = under lists.cells.items n.lower

abbrev pub elements_named : Lists → Names → List ℕ
elements_named lists n = named zeros lists.uses.items n.elements

-- they name what an event shows
pub record AreNames (lists : Lists) (before : Visible) (used : List ℕ) (n : Names) : Type 0 where
  pub within : AreWithin lists n
  pub scene : scene_named lists n ≡ scene_of before
  pub lower : lower_named lists n ≡ drop 4 before.cells
  pub elements : elements_named lists n ≡ used
