-- The constants of a source, and their index by name.
use Rattle.std.specs.Prelude.{◌≡◌, ℕ, if◌then◌else◌, List, [], ◌∷◌, Option, Some, None, bytes_eq}
use Rattle.std.specs.Cmp.Lexicographic.{slice_cmp}
use Rattle.std.specs.Ordering.{nat_cmp}
use Rattle.std.specs.BTreeMap.{BTreeMap, get_by}
use Rattle.std.specs.declared.vec.Vec.{Vec}
use Rattle.std.specs.declared.alloc.Global.{Global}
use Rattle.masm_reading.specs.declared.constant.Const.{Const}

-- the value of the first constant of the name
abbrev pub constant_of : List Const → List ℕ → Option ℕ
constant_of [] name = None
constant_of (c ∷ cs) name = if bytes_eq c.name name then Some c.value else constant_of cs name

-- the value that a map has at a name
abbrev pub value_at : BTreeMap (Vec ℕ Global) ℕ → List ℕ → Option ℕ
value_at values name = get_by (λ key. slice_cmp nat_cmp name key.items) values

-- the map has the first value of each name
abbrev pub IsIndex : BTreeMap (Vec ℕ Global) ℕ → List Const → Type 0
IsIndex values consts = (name : List ℕ) → value_at values name ≡ constant_of consts name
