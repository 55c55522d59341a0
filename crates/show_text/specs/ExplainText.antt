-- What a refusal speaks of (docs/SHOW.md).
use Rattle.std.specs.Prelude.{ℕ, ◌+◌, ◌-◌, ◌/◌, nat_lt, if◌then◌else◌, min, Option, Some, None, List, [], ◌∷◌, ◌++◌, length, codes, decimal, slice_index, slice_index_or}
use Rattle.std.specs.List.{flat_map, range_with_len}
use Rattle.vm_field.specs.Field.{prime}
use Rattle.air_kit.specs.declared.fault.Fault.{Fault}
use Rattle.air_kit.specs.declared.trace.TableName.{TableName}
use Rattle.air_kit.specs.declared.trace.Trace.{Trace}
use Rattle.buses.specs.declared.bus.Bus.{Bus}
use Rattle.buses.specs.declared.bus.Bus.TheVariants as bus
use Rattle.show_constraints.specs.Meanings.{kinds_of, meaning_line}
use Rattle.show_constraints.specs.Parts.{Part, part_in, part_text, parts_of}
use Rattle.show_constraints.specs.Terms.{term_of}
use Rattle.show_constraints.specs.Words.{words_of}
use Rattle.show_text.specs.RowText.{rows_text}
use Rattle.show_text.specs.Sides.{operation_at, side_of, side_text}
use Rattle.show_text.specs.declared.sides.Side.{Side}

-- a constraint in words
abbrev pub constraint_line : TableName → ℕ → List ℕ
constraint_line name number = codes "constraint " ++ words_of name number ++ codes "\n"

-- a value above half of all elements, as a negative number
abbrev pub value_line : ℕ → List ℕ
value_line value =
    if nat_lt ((prime - 1) / 2) value then codes "value " ++ decimal value ++ codes " is -" ++ decimal (prime - value) ++ codes "\n" else []

-- the side of a constraint, or else its term, or the part of its words that is meant
abbrev pub here_line : Fault → Option Side → Option (List ℕ) → Option Part → List ℕ
here_line fault (Some side) term part = codes "here " ++ side_text fault side ++ codes "\n"
here_line fault None (Some term) part = codes "here " ++ term ++ codes "\n"
here_line fault None None (Some part) = codes "here " ++ part_text fault.number part ++ codes "\n"
here_line fault None None None = []

-- the value of a fault, its constraint with the cell, the term or the part that is meant, and the cells that are not 0 of its row and of the next one
abbrev pub fault_text : Trace → Fault → List ℕ
fault_text trace fault =
    value_line fault.value ++ constraint_line fault.table fault.number
    ++ here_line fault (side_of trace fault) (term_of fault.number (operation_at trace fault)) (part_in fault.number (parts_of fault.table))
    ++ rows_text trace fault.table fault.row (fault.row + 1)

-- the fields of a bus's tuples, in their order (docs/CONSTRAINTS.md, "Buses")
abbrev pub fields_of : Bus → List (List ℕ)
fields_of bus.Blocks =
    codes "block" ∷ codes "parent" ∷ codes "kind" ∷ codes "ctx" ∷ codes "fmp" ∷ codes "sys" ∷ codes "depth" ∷ codes "key" ∷ codes "f0" ∷
    codes "f1" ∷ codes "f2" ∷ codes "f3" ∷ []
fields_of bus.Children = codes "parent" ∷ codes "d0" ∷ codes "d1" ∷ codes "d2" ∷ codes "d3" ∷ codes "more" ∷ []
fields_of bus.Loops = codes "block" ∷ codes "d0" ∷ codes "d1" ∷ codes "d2" ∷ codes "d3" ∷ []
fields_of bus.Groups = codes "batch" ∷ codes "left" ∷ codes "group" ∷ []
fields_of bus.Overflow = codes "key" ∷ codes "cell" ∷ codes "below" ∷ []
fields_of bus.Hasher =
    codes "tag" ∷ codes "address" ∷ codes "x0" ∷ codes "x1" ∷ codes "x2" ∷ codes "x3" ∷ codes "x4" ∷ codes "x5" ∷ codes "x6" ∷ codes "x7" ∷
    codes "x8" ∷ codes "x9" ∷ codes "x10" ∷ codes "x11" ∷ []
fields_of bus.Bitwise = codes "op" ∷ codes "a" ∷ codes "b" ∷ codes "z" ∷ []
fields_of bus.Memory =
    codes "kind" ∷ codes "ctx" ∷ codes "addr" ∷ codes "clk" ∷ codes "v0" ∷ codes "v1" ∷ codes "v2" ∷ codes "v3" ∷ []
fields_of bus.Range = codes "v" ∷ []
fields_of bus.Kernel = codes "d0" ∷ codes "d1" ∷ codes "d2" ∷ codes "d3" ∷ []

-- a space, the field's name and the element
abbrev pub field_text : List ℕ → ℕ → List ℕ
field_text name value = 32 ∷ name ++ codes "=" ++ decimal value

-- the elements of a tuple by these names, as far as there are both
abbrev pub fields_text : List (List ℕ) → List ℕ → List ℕ
fields_text names tuple =
    flat_map (λ i. field_text (slice_index_or names i []) (slice_index tuple i)) (range_with_len 0 (min (length names) (length tuple)))

-- a bus's tuple by its fields, and what its kind means
abbrev pub tuple_text : Bus → List ℕ → List ℕ
tuple_text bus tuple = codes "tuple" ++ fields_text (fields_of bus) tuple ++ codes "\n" ++ meaning_line (kinds_of bus) tuple
