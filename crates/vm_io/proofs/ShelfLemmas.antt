-- For the crates above: names, counts, told files, and files that were put.
use Rattle.std.proofs.Common.{◌≡◌, ◌≢◌, ℕ, ◌-◌, ◌^◌, ◌<◌, ◌≤◌, max, List, length, cond, refl, ap, ◌∙◌, arith}
use Rattle.std.specs.Prelude.{Option, Some, None, IfSome}
use Rattle.std.specs.Option.{option_map}
use Rattle.std.specs.Cmp.Lexicographic.{nat_list_cmp_total}
use Rattle.std.specs.FinMap.{get, insert, get-insert}
use Rattle.std.proofs.lemmas.List.{take_all}
use Rattle.std.proofs.lemmas.Option.{IfSome_then}
use Rattle.std.proofs.lemmas.Map.Text.{is_eq-slice_cmp}
use Rattle.std.proofs.lemmas.Slice.Eq.{bytes_eq-Decides}
use Rattle.std.proofs.lemmas.Bool.{false_from_ne_true}
use Rattle.vm_field.specs.Limits.{most_name_bytes}
use Rattle.vm_io.specs.Count.{Rose, one_more}
use Rattle.vm_io.specs.Shelf.{Files, ShelfState, Told, kept_name, with_failed_name}

-- a name of at most 200 bytes is kept whole
pub kept_whole : (name : List ℕ) → length name ≤ most_name_bytes → kept_name name ≡ name
kept_whole name short = take_all 200 name short

-- the name that failed is this one
pub failed_whole : (told : Option (List ℕ)) (name : List ℕ) → length name ≤ most_name_bytes → with_failed_name told name ≡ option_map (λ _. name) told
failed_whole told name short = ap (λ kept. option_map (λ _. kept) told) (kept_whole name short)

-- a rise shows, unless the count had stopped
pub rose_above : (before now : ℕ) → Rose before now → before < 2 ^ 64 - 1 → before < now
rose_above before now rose below = omega arith

-- a count that rose, and did not fall from then on
pub rose_before : (a b c : ℕ) → Rose a b → b ≤ c → c ≤ max b (2 ^ 64 - 1) → Rose a c
rose_before a b c rose later within = record { later = omega arith; risen = omega arith; within = omega arith }

-- a count that did not fall, and then rose
pub rose_after : (a b c : ℕ) → a ≤ b → b ≤ max a (2 ^ 64 - 1) → Rose b c → Rose a c
rose_after a b c later within rose = record { later = omega arith; risen = omega arith; within = omega arith }

-- at its last number a count may stay, and has risen
pub rose_at_end : Rose (2 ^ 64 - 1) (2 ^ 64 - 1)
rose_at_end = record { later = omega arith; risen = omega arith; within = omega arith }

-- one more is a rise
pub rose_by_one : (n : ℕ) → n ≤ 2 ^ 64 - 1 → Rose n (one_more n)
rose_by_one n fits = record { later = omega arith; risen = omega arith; within = omega arith }

each_some : (o : Option Files) (P : Files → Type 0) → ((m : Files) → P m) → IfSome o P
each_some None P each = tt
each_some (Some m) P each = each m

both_some : (o : Option Files) (P Q : Files → Type 0) → IfSome o P → IfSome o Q → IfSome o (λ m. P m × Q m)
both_some None P Q first second = tt
both_some (Some m) P Q first second = (first, second)

-- what holds of all files holds of those that are told
pub told_each : (s : ShelfState) (P : Files → Type 0) → ((m : Files) → P m) → Told s P
told_each s P each = each_some s.files P each

pub told_weaker : (s : ShelfState) (P Q : Files → Type 0) → ((m : Files) → P m → Q m) → Told s P → Told s Q
told_weaker s P Q weaker told = IfSome_then s.files told weaker

pub told_both : (s : ShelfState) (P Q : Files → Type 0) → Told s P → Told s Q → Told s (λ m. P m × Q m)
told_both s P Q = both_some s.files P Q

-- what was put under a name stands there
pub get_put : (m : Files) (name bytes : List ℕ) → get (insert m name bytes) name ≡ Some bytes
get_put m name bytes =
    get-insert nat_list_cmp_total m name bytes name
    ∙ ap (λ same. cond same (Some bytes) (get m name)) (is_eq-slice_cmp name name ∙ (bytes_eq-Decides name name).1 refl)

-- every other file stays
pub get_beside : (m : Files) (name bytes other : List ℕ) → other ≢ name → get (insert m name bytes) other ≡ get m other
get_beside m name bytes other apart =
    get-insert nat_list_cmp_total m name bytes other
    ∙ ap (λ same. cond same (Some bytes) (get m other))
    (is_eq-slice_cmp other name ∙ false_from_ne_true _ (λ same. apart ((bytes_eq-Decides other name).0 same)))
