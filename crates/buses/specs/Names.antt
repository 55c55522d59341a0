-- The buses' numbers and names.
use Rattle.std.specs.Prelude.{ℕ, List, [], ◌∷◌, codes}
use Rattle.buses.specs.declared.bus.Bus.{Bus}
use Rattle.buses.specs.declared.bus.Bus.TheVariants as bus

-- a bus's number
abbrev pub bus_number : Bus → ℕ
bus_number bus.Blocks = 1
bus_number bus.Children = 2
bus_number bus.Loops = 3
bus_number bus.Groups = 4
bus_number bus.Overflow = 5
bus_number bus.Hasher = 6
bus_number bus.Bitwise = 7
bus_number bus.Memory = 8
bus_number bus.Range = 9
bus_number bus.Kernel = 10

-- its name, as it is printed
abbrev pub text_of_bus : Bus → List ℕ
text_of_bus bus.Blocks = codes "blocks"
text_of_bus bus.Children = codes "children"
text_of_bus bus.Loops = codes "loops"
text_of_bus bus.Groups = codes "groups"
text_of_bus bus.Overflow = codes "overflow"
text_of_bus bus.Hasher = codes "hasher"
text_of_bus bus.Bitwise = codes "bitwise"
text_of_bus bus.Memory = codes "memory"
text_of_bus bus.Range = codes "range"
text_of_bus bus.Kernel = codes "kernel"

-- all buses, in the order of their numbers
unfoldable pub every_bus : List Bus
every_bus =
    bus.Blocks ∷ bus.Children ∷ bus.Loops ∷ bus.Groups ∷ bus.Overflow ∷ bus.Hasher ∷ bus.Bitwise ∷ bus.Memory ∷ bus.Range
    ∷ bus.Kernel ∷ []
