-- What the dynexecs of a body ask for, told by the body's form.
use Rattle.masm_flat.proofs.Words.{[], ◌∷◌, ◌++◌, refl, arith, Contains, Position, Body, Empty, Leaf_then}
use Rattle.masm_flat.proofs.Words.{If_then, While_then, Repeat_then, dynexecs_of}
use Rattle.masm_names.proofs.UsesOnly.{each_left, each_right}
use Rattle.masm_tree.specs.declared.terminal.Leaf.TheVariants as leaves

-- this holds where the body has a dynexec
abbrev pub DynexecsOnly : Type 0 → Body → Type 0
DynexecsOnly D Empty = Unit {0}
DynexecsOnly D (Leaf_then at leaves.DynExec rest) = D × DynexecsOnly D rest
DynexecsOnly D (Leaf_then at other rest) = DynexecsOnly D rest
DynexecsOnly D (If_then at first second rest) = DynexecsOnly D first × DynexecsOnly D second × DynexecsOnly D rest
DynexecsOnly D (While_then at turn rest) = DynexecsOnly D turn × DynexecsOnly D rest
DynexecsOnly D (Repeat_then at n turn rest) = DynexecsOnly D turn × DynexecsOnly D rest

module _ (D : Type 0) where
  abbrev Asked : Position → Type 0
  Asked at = D

  pub dynexecs_only : (b : Body) → ((at : Position) → Contains (dynexecs_of b) at → D) → DynexecsOnly D b
  dynexecs_only Empty h = tt
  dynexecs_only (Leaf_then at leaves.DynExec rest) h =
      (h at (0, omega arith, refl), dynexecs_only rest (each_right Asked (at ∷ []) (dynexecs_of rest) h))
  dynexecs_only (Leaf_then at other rest) h = dynexecs_only rest h
  dynexecs_only (If_then at first second rest) h =
      let behind = each_right Asked (dynexecs_of first) (dynexecs_of second ++ dynexecs_of rest) h in (
        dynexecs_only first (each_left Asked (dynexecs_of first) (dynexecs_of second ++ dynexecs_of rest) h),
        dynexecs_only second (each_left Asked (dynexecs_of second) (dynexecs_of rest) behind),
        dynexecs_only rest (each_right Asked (dynexecs_of second) (dynexecs_of rest) behind),
      )
  dynexecs_only (While_then at turn rest) h = (
    dynexecs_only turn (each_left Asked (dynexecs_of turn) (dynexecs_of rest) h),
    dynexecs_only rest (each_right Asked (dynexecs_of turn) (dynexecs_of rest) h),
  )
  dynexecs_only (Repeat_then at n turn rest) h = (
    dynexecs_only turn (each_left Asked (dynexecs_of turn) (dynexecs_of rest) h),
    dynexecs_only rest (each_right Asked (dynexecs_of turn) (dynexecs_of rest) h),
  )
