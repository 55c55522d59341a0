-- The walk over the syntax trees of a source and its kernel along the cycles of a run.
use Rattle.std.specs.Prelude.{ℕ, List, [], ◌∷◌, Option, Some, None}
use Rattle.vm_ops.specs.declared.item.Item.{Item}
use Rattle.masm_places.specs.declared.level.Part.TheVariants as parts
use Rattle.masm_places.specs.Texts.{Texts, Found, found_main}
use Rattle.masm_places.specs.Pending.{Walk, begun, entry_items}
use Rattle.masm_places.specs.Steps.{stepped}

-- a cycle, as far as the walk sees it: its operation, and the cell on top of the stack before it
pub record Seen : Type 0 where
  pub item : Item
  pub top : ℕ

-- the body between begin and end is still to come; without one nothing is known
abbrev pub first_walk : Option Found → Walk
first_walk None = record { levels = []; items = []; done = 0; literals = 0; nested = 0 }
first_walk (Some f) =
    record { levels = begun parts.Call f 0 ∷ []; items = entry_items f.procedure.locals; done = 0; literals = 0; nested = 0 }

abbrev pub begin : Texts → Walk
begin texts = first_walk (found_main texts)

-- behind these cycles
abbrev pub walked_from : Texts → Walk → List Seen → Walk
walked_from texts w [] = w
walked_from texts w (e ∷ cycles) = walked_from texts (stepped texts e.item e.top w) cycles

abbrev pub walked : Texts → List Seen → Walk
walked texts cycles = walked_from texts (begin texts) cycles
