-- The tuples of children: which row gives which.
use Rattle.sound_buses.proofs.Words.{◌≡◌, ℕ, suc, ◌<◌, ◌≤◌, ◌⊎◌, inl, inr, Bool, true, false, ◌||◌, ◌==◌, cond, List, [], ◌∷◌, ◌++◌, refl, sym}
use Rattle.sound_buses.proofs.Words.{subst, arith, eqb-true, counted, Op, addr, s, is_op, back, called_digest, child, children_of, front, row_at, IsAt, own}
use Rattle.std.proofs.lemmas.List.{same_from_push}
use Rattle.sound_buses.proofs.Words.ops
use Rattle.sound_buses.specs.Children.{IsNamed, first, second, on_one, on_zero, body, callee, kernel, target, turn}
use Rattle.sound_buses.proofs.Splits.{zero_or}
use Rattle.sound_buses.proofs.Tuples.{first_or, hit_self, more_counts, nothing_counts, single_is, tested_is}

-- the tuple of a child
abbrev pub child_tuple : ℕ → List ℕ → ℕ → List ℕ
child_tuple parent digest more = parent ∷ digest ++ more ∷ []

-- two of them that are the same
pub record SameChild (p q : ℕ) (d e : List ℕ) (m n : ℕ) : Type 0 where
  pub parent : p ≡ q
  pub digest : d ≡ e
  pub more : m ≡ n

pub same_child : (p q : ℕ) (d e : List ℕ) (m n : ℕ) → child_tuple p d m ≡ child_tuple q e n → SameChild p q d e m n
same_child p q d e m n same = let rest = same_from_push d e m n (cc) in record { parent = cc; digest = rest.0; more = rest.1 }

-- whether a further child starts behind it, as an element
abbrev pub bit_of : Bool → ℕ
bit_of more = cond more 1 0

pub same_bit : (b c : Bool) → bit_of b ≡ bit_of c → b ≡ c
same_bit true true e = refl
same_bit false false e = refl
same_bit b c e = absurd (omega arith)

bit_or : (n : ℕ) → n < 2 → (n ≡ 1) ⊎ (n ≡ 0)
bit_or n h = grind arith

-- A row that gives a child's tuple names the child.
module _ (rows : List (List ℕ)) (root : List ℕ) (parent : ℕ) (digest : List ℕ) (more : Bool) where
  abbrev Named : Bool → Type 0
  Named b = IsNamed rows root parent digest b

  -- by a tuple
  pub same_named : (address : ℕ) (word : List ℕ) (b : Bool) → child_tuple address word (bit_of b) ≡ child_tuple parent digest (bit_of more)
      → (address ≡ parent → digest ≡ word → Named b) → Named more
  same_named address word b e named =
      let k = same_child address parent word digest (bit_of b) (bit_of more) e in subst Named (same_bit b more k.more) (named k.parent (sym k.digest))

  only : (address : ℕ) (word : List ℕ) → 0 < counted (child address word 0 ∷ []) (child_tuple parent digest (bit_of more))
      → (address ≡ parent → digest ≡ word → Named false) → Named more
  only address word h named = same_named address word false (single_is (child address word 0) _ h) named

  pub named_by : (j : ℕ) (op : Op) → IsAt rows j op → (is_op op ops.Split || is_op op ops.Loop ≡ true → s (row_at rows j) 0 < 2)
      → 0 < counted (children_of op (row_at rows j) (row_at rows (suc j))) (child_tuple parent digest (bit_of more)) → Named more
  unfolding children_of
  named_by j ops.Join at bit h = elim (first_or _ _ _ h) [
    | inl e ↦ same_named (own rows j) (front (row_at rows j)) true e (first j at)
    | inr later ↦ only (own rows j) (back (row_at rows j)) later (second j at)
  ]
  named_by j ops.Split at bit h = elim (bit_or (s (row_at rows j) 0) (bit refl)) [
    | inl e ↦ only (own rows j) (front (row_at rows j)) (rw e at h) (on_one j at e)
    | inr e ↦ only (own rows j) (back (row_at rows j)) (rw e at h) (on_zero j at e)
  ]
  named_by j ops.Loop at bit h =
      let e = tested_is (s (row_at rows j) 0 == 1) (child (own rows j) (front (row_at rows j)) 0) _ h in
      same_named (own rows j) (front (row_at rows j)) false e.1 (body j at (eqb-true (s (row_at rows j) 0) 1 e.0))
  named_by j ops.Call at bit h = only (own rows j) (front (row_at rows j)) h (callee j at)
  named_by j ops.Syscall at bit h = only (own rows j) (front (row_at rows j)) h (kernel j at)
  named_by j ops.Dyn at bit h = only (own rows j) (called_digest (row_at rows j)) h (target j at)
  named_by j ops.Repeat at bit h = only (addr (row_at rows j)) (front (row_at rows j)) h (turn j at)
  named_by j op at bit h = nothing_counts _ h

-- ---- the tuple of a first child, which joins alone give

-- what a row gives whose tuple says that another child starts behind
pub record GivesFirst (op : Op) (x y : List ℕ) (parent : ℕ) (digest : List ℕ) : Type 0 where
  pub is : op ≡ ops.Join
  pub parent_is : addr y ≡ parent
  pub digest_is : front x ≡ digest

pub last_apart : {P : Type 0} (p q : ℕ) (d e : List ℕ) → child_tuple p d 0 ≡ child_tuple q e 1 → P
last_apart p q d e same = absurd (omega (arith, (same_child p q d e 0 1 same).more))

never_first : {P : Type 0} (p q : ℕ) (d e : List ℕ) → 0 < counted (child p d 0 ∷ []) (child_tuple q e 1) → P
never_first p q d e h = last_apart p q d e (single_is (child p d 0) (child_tuple q e 1) h)

module _ (x y : List ℕ) (parent : ℕ) (digest : List ℕ) where
  pub gives_first : (op : Op) → 0 < counted (children_of op x y) (child_tuple parent digest 1) → GivesFirst op x y parent digest
  unfolding children_of
  gives_first ops.Join h = elim (first_or _ _ _ h) [
    | inl e ↦ let k = same_child (addr y) parent (front x) digest 1 1 e in record { is = refl; parent_is = k.parent; digest_is = k.digest }
    | inr later ↦ never_first (addr y) parent (back x) digest later
  ]
  gives_first ops.Split h = never_first (addr y) parent (cond (s x 0 == 1) (front x) (back x)) digest h
  gives_first ops.Loop h = last_apart (addr y) parent (front x) digest (tested_is (s x 0 == 1) (child (addr y) (front x) 0) _ h).1
  gives_first ops.Call h = never_first (addr y) parent (front x) digest h
  gives_first ops.Syscall h = never_first (addr y) parent (front x) digest h
  gives_first ops.Dyn h = never_first (addr y) parent (called_digest x) digest h
  gives_first ops.Repeat h = never_first (addr x) parent (front x) digest h
  gives_first op h = nothing_counts _ h

-- a join gives it once
pub join_gives : (x y : List ℕ) → counted (children_of ops.Join x y) (child_tuple (addr y) (front x) 1) ≡ 1
unfolding children_of
join_gives x y =
    let u = child_tuple (addr y) (front x) 1 in
    let later = child (addr y) (back x) 0 ∷ [] in
    let n : counted later u ≡ 0 = elim (zero_or (counted later u)) [ inl h ↦ never_first (addr y) (addr y) (back x) (front x) h | inr z ↦ z ] in
    omega (arith, n, more_counts (child (addr y) (front x) 1) later u, hit_self u 1)

-- and no row more often
pub first_few : (op : Op) (x y : List ℕ) (parent : ℕ) (digest : List ℕ) → counted (children_of op x y) (child_tuple parent digest 1) ≤ 1
first_few op x y parent digest = elim (zero_or (counted (children_of op x y) (child_tuple parent digest 1))) [
  | inl h ↦
      let g = gives_first x y parent digest op h in
      let e : counted (children_of op x y) (child_tuple parent digest 1) ≡ counted (children_of ops.Join x y) (child_tuple (addr y) (front x) 1)
      = cc (g.is, g.parent_is, g.digest_is) in
      omega (arith, e, join_gives x y)
  | inr none ↦ omega (arith, none)
]
