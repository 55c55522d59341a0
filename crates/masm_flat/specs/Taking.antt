-- Lists that are taken where they are used for the last time.
use Rattle.std.specs.Prelude.{◌≡◌, ◌≢◌, ℕ, ◌-◌, true, false, List, ◌++◌, length, slice_get, slice_index, slice_set, ◌⊎◌}
use Rattle.std.specs.List.{Contains}
use Rattle.block_tree.specs.Trees.{Tree}
use Rattle.masm_flat.specs.declared.known.Scope.{Scope}
use Rattle.masm_flat.specs.declared.table.Table.{Table}
use Rattle.masm_flat.specs.Flattening.{Known}
use Rattle.masm_flat.specs.KnownLists.{list_at, digest_at, tree_at, dispatch_in}
use Rattle.masm_names.specs.Names.{place_at}
use Rattle.masm_names.specs.UsedPlaces.{places_used, times_among}
use Rattle.masm_names.specs.Uses.{Use, Own}

-- how many uses are left of a list that is taken by its last one; 0 for one that stays
abbrev pub left_at : Table → ℕ → ℕ
left_at table place = slice_index table.left.items place

abbrev pub HasNoneLeft : Table → Type 0
HasNoneLeft table = (place : ℕ) → left_at table place ≡ 0

-- the list at a place is used once more, and is taken by its last use
pub record TakesList (place : ℕ) (old new : Table) : Type 0 where
  pub left : new.left.items ≡ slice_set old.left.items place (left_at old place - 1)
  pub others : (q : ℕ) → q ≢ place → slice_get new.lists.items q ≡ slice_get old.lists.items q
  pub stays : left_at old place ≢ 1 → new.lists ≡ old.lists
  pub count : length new.lists.items ≡ length old.lists.items

-- lists that stay are not touched
pub record Keeps (old new : Table) : Type 0 where
  pub lists : (place : ℕ) → left_at old place ≡ 0 → slice_get new.lists.items place ≡ slice_get old.lists.items place
  pub left : (place : ℕ) → left_at old place ≡ 0 → left_at new place ≡ 0
  pub count : length new.lists.items ≡ length old.lists.items
  pub left_count : length new.left.items ≡ length old.left.items

-- The table has what is known for these uses, where names lead to these places, and each of its lists is taken by the last of
-- them or stays.
pub record Serves (scope : Scope) (known : Known Tree) (table : Table) (uses : List Use) : Type 0 where
  pub exported : (name : List ℕ) → known.exported name ≡ tree_at scope.outside.now.exports.now name
  pub dispatch : known.dispatch ≡ dispatch_in scope.dispatch.now
  pub lists : (u : Use) → Contains uses u → u.kind ≡ Own → u.refers ≡ false
      → list_at table.lists.items (place_at scope.names.now u.name) ≡ known.list u.name
  pub digests : (u : Use) → Contains uses u → u.kind ≡ Own → u.refers ≡ true
      → digest_at scope.digests.now (place_at scope.names.now u.name) ≡ known.digest u.name
  pub left : (place : ℕ) → (left_at table place ≡ 0)
      ⊎ (left_at table place ≡ times_among (places_used (place_at scope.names.now) uses) place)

-- Behind these uses the result is this value of what the table had for them, and the table has what it had for others.
pub record ComesTo {A : Type 0} (scope : Scope) (uses : List Use) (value : Known Tree → A) (old new : Table) (result : A) : Type 0 where
  pub gives : (known : Known Tree) (rest : List Use) → Serves scope known old (uses ++ rest) → (result ≡ value known) × Serves scope known new rest
  pub keeps : Keeps old new
