-- How many rows a table may have in a file of a version.
use Rattle.table_file.proofs.Words.{◌≡◌, ℕ, ◌^◌, ◌<◌, ◌≤◌, ◌&&◌, Bool, true, false, ◌==◌, nat_le, inl, inr, refl, arith, and_parts, eqb-true, le-leb}
use Rattle.table_file.proofs.Words.{leb-true, ne_eqb, or_cases, IsCount, most_rows, TableName, first_version, is_version, may_have_in, most_in, this_version}
use Rattle.air_kit.specs.declared.trace.TableName.TheVariants as table
use Rattle.air_kit.specs.Counts.{may_have}
use Rattle.air_kit.proofs.CountLaws.{is_count, may_have_if}

-- a version fits its bytes
pub version_fits : (version : ℕ) → is_version version ≡ true → version < 256 ^ 4
version_fits version is = elim (or_cases (version == first_version) (version == this_version) is) [
  | inl first ↦ (let one = eqb-true version first_version first in omega arith)
  | inr this ↦ (let two = eqb-true version this_version this in omega arith)
]

-- a table may have so many rows in a file of a version
pub record IsCountIn (version : ℕ) (name : TableName) (n : ℕ) : Type 0 where
  pub is : IsCount name n
  pub fits : n ≤ most_in version name

pub is_count_in : (version : ℕ) (name : TableName) (n : ℕ) → may_have_in version name n ≡ true → IsCountIn version name n
unfolding may_have_in
is_count_in version name n h =
    let both = and_parts (may_have name n) (nat_le n (most_in version name)) h in
    record { is = is_count name n both.0; fits = leb-true n (most_in version name) both.1 }

pub may_have_in_if : (version : ℕ) (name : TableName) (n : ℕ) → IsCountIn version name n → may_have_in version name n ≡ true
unfolding may_have_in
may_have_in_if version name n h = rw (may_have_if name n h.is, le-leb n (most_in version name) h.fits) refl

-- what a test holds for says nothing new behind it
said : (test : Bool) (n most : ℕ) → (test ≡ true → n ≤ most) → (test && nat_le n most) ≡ test
said true n most holds = le-leb n most (holds refl)
said false n most holds = refl

-- a table's own most is tested already
own_most : (name : TableName) (n : ℕ) → (may_have name n && nat_le n (most_rows name)) ≡ may_have name n
own_most name n = said (may_have name n) n (most_rows name) (λ has. (is_count name n has).most)

pub left_in_first : (version n : ℕ) → version ≡ first_version
    → may_have_in version table.Left n ≡ (may_have table.Left n && nat_le n (2 ^ 19))
unfolding may_have_in
left_in_first version n is = rw is refl

pub left_in_this : (version n : ℕ) → (version ≡ first_version → ⊥) → may_have_in version table.Left n ≡ may_have table.Left n
unfolding may_have_in
left_in_this version n not = rw (ne_eqb version first_version not) (own_most table.Left n)

pub others_in : (version : ℕ) (name : TableName) (n : ℕ) → (name ≡ table.Left → ⊥) → may_have_in version name n ≡ may_have name n
unfolding may_have_in
others_in version table.Left n not = absurd (not refl)
others_in version table.Main n not = own_most table.Main n
others_in version table.Range n not = own_most table.Range n
others_in version table.Hasher n not = own_most table.Hasher n
others_in version table.Bitwise n not = own_most table.Bitwise n
others_in version table.Memory n not = own_most table.Memory n
others_in version table.Kernel n not = own_most table.Kernel n
