-- From how often tuples count: each row's access is asked, and each one asked has a row.
use Rattle.facts_memory.proofs.Words.{◌≡◌, ℕ, zero, suc, ◌+◌, ◌<◌, ◌⊎◌, inl, inr, ⊎_elim, cond, nat_eq, List, [], ◌∷◌, length, Option, Some, None, refl, sym}
use Rattle.facts_memory.proofs.Words.{ap, subst, ◌∙◌, arith, cases_Bool, tuple-same, Access, access_given, AreSmall, access_at, AreAsked, AreAsks, GivesAsks}
use Rattle.facts_memory.proofs.Words.{HasRow, asked_of}
use Rattle.facts_memory.proofs.Numbers.{last_or}
use Rattle.std.specs.Cmp.Lexicographic.{same_text}
use lib.Pointwise.{pointwise}
use Rattle.buses.specs.Counts.{counted, hits, once, over_first, over_rows, total}
use Rattle.buses.specs.declared.bus.Bus.TheVariants as bus
use Rattle.air_kit.specs.declared.trace.TableName.TheVariants as table
use Rattle.air_kit.specs.ChipTuples.{chip_given, memory_given}

-- ---- sums

pub record SomeBelow (n : ℕ) (f : ℕ → ℕ) : Type 0 where
  pub at : ℕ
  pub below : at < n
  pub positive : 0 < f at

positive_part : (a b : ℕ) → 0 < a + b → (0 < a) ⊎ (0 < b)
positive_part zero b h = inr (omega (arith, h))
positive_part (suc a) b h = inl (omega arith)

-- a positive sum has a positive term
some_of : (n : ℕ) (f : ℕ → ℕ) → 0 < total n f → SomeBelow n f
unfolding total
some_of zero f h = absurd (omega (arith, h))
some_of (suc n) f h =
    ⊎_elim (λ before. let s = some_of n f before in record { at = s.at; below = (let b = s.below in omega (arith, b)); positive = s.positive })
    (λ here. record { at = n; below = omega arith; positive = here }) (positive_part (total n f) (f n) h)

-- and a positive term makes one
term_of : (n : ℕ) (f : ℕ → ℕ) (i : ℕ) → i < n → 0 < f i → 0 < total n f
unfolding total
term_of zero f i h p = absurd (omega (arith, h))
term_of (suc n) f i h p =
    ⊎_elim (λ before. let le = term_of n f i before p in omega (arith, le)) (λ e. let same : f i ≡ f n = ap f e in omega (arith, same, p))
    (last_or i n h)

-- ---- tuples

one_counts : (t : List ℕ) → 0 < counted (once t ∷ []) t
unfolding counted
one_counts t = let e : hits t 1 t ≡ 1 = ap (λ b. cond b 1 0) (tuple-same t) in omega (arith, e)

one_is : (t u : List ℕ) → 0 < counted (once t ∷ []) u → t ≡ u
unfolding counted
one_is t u h = elim (cases_Bool (pointwise nat_eq t u)) [
  | inl is ↦ same_text t u (sym is)
  | inr not ↦ absurd (let e : hits t 1 u ≡ 0 = ap (λ b. cond b 1 0) not in omega (arith, e, h))
]

none_counts : {P : Type 0} (u : List ℕ) → 0 < counted [] u → P
unfolding counted
none_counts u h = absurd (omega (arith, h))

abbrev pub tuple_of : Access → List ℕ
tuple_of a = a.kind ∷ a.ctx ∷ a.addr ∷ a.clk ∷ a.word

pub same_fields : (a b : Access) → a.kind ≡ b.kind → a.ctx ≡ b.ctx → a.addr ≡ b.addr → a.clk ≡ b.clk → a.word ≡ b.word → a ≡ b
same_fields a b k c d l w = λ i. record { kind = k i; ctx = c i; addr = d i; clk = l i; word = w i }

-- a tuple is that of one access
same_access : (a b : Access) → tuple_of a ≡ tuple_of b → a ≡ b
same_access a b e =
    same_fields a b (let k : a.kind ≡ b.kind = cc in k) (let c : a.ctx ≡ b.ctx = cc in c) (let d : a.addr ≡ b.addr = cc in d)
    (let l : a.clk ≡ b.clk = cc in l) (let w : a.word ≡ b.word = cc in w)

-- ---- both ways

abbrev pub rows_give : List (List ℕ) → List ℕ → ℕ
rows_give rows u = total (length rows) (λ q. counted (access_given (access_at rows q) ∷ []) u)

pub given_is : (rows : List (List ℕ)) (u : List ℕ) → over_rows (chip_given bus.Memory table.Memory) rows u ≡ rows_give rows u
unfolding over_first memory_given
given_is rows u = refl

asked_is : (o : Option Access) (u : List ℕ) → 0 < counted (asked_of o) u → (a : Access) × (o ≡ Some a) × (tuple_of a ≡ u)
asked_is None u h = none_counts u h
asked_is (Some a) u h = (a, refl, one_is (tuple_of a) u h)

module _ (asks : ℕ → Option Access) (m : ℕ) (rows : List (List ℕ)) (gives : GivesAsks asks m rows) where
  -- a row's access is asked somewhere
  row_asked : (q : ℕ) → q < length rows → (i : ℕ) × (i < m) × (asks i ≡ Some (access_at rows q))
  row_asked q h =
      let u : List ℕ = tuple_of (access_at rows q) in
      let positive : 0 < rows_give rows u = term_of (length rows) (λ r. counted (access_given (access_at rows r) ∷ []) u) q h (one_counts u) in
      let e = gives u in
      let g = given_is rows u in
      let some = some_of m (λ i. counted (asked_of (asks i)) u) (omega (arith, e, g, positive)) in
      let found = asked_is (asks some.at) u some.positive in
      (some.at, some.below, found.1 ∙ ap (λ a. Some a) (same_access found.0 (access_at rows q) found.2))

  ask_given : (i : ℕ) (a : Access) → i < m → asks i ≡ Some a → HasRow rows a
  ask_given i a h is =
      let u : List ℕ = tuple_of a in
      let here : 0 < counted (asked_of (asks i)) u = subst (λ o. 0 < counted (asked_of o) u) (sym is) (one_counts u) in
      let positive = term_of m (λ j. counted (asked_of (asks j)) u) i h here in
      let e = gives u in
      let g = given_is rows u in
      let some = some_of (length rows) (λ q. counted (access_given (access_at rows q) ∷ []) u) (omega (arith, e, g, positive)) in
      record {
        at = some.at;
        within = some.below;
        shows = same_access (access_at rows some.at) a (one_is (tuple_of (access_at rows some.at)) u some.positive);
      }

  module _ (are : AreAsks asks m) where
    -- at its clock
    clock_asked : (q : ℕ) → q < length rows → ((access_at rows q).clk < m) × (asks (access_at rows q).clk ≡ Some (access_at rows q))
    clock_asked q h =
        let r = row_asked q h in
        let c = are.clocks r.0 (access_at rows q) r.1 r.2 in
        let l = r.1 in
        (omega (arith, c, l), subst (λ k. asks k ≡ Some (access_at rows q)) (sym c) r.2)

    pub are_asked : AreAsked asks m rows
    are_asked = record { within = λ q h. (clock_asked q h).0; given = λ q h. (clock_asked q h).1; asked = ask_given }

    pub rows_small : AreSmall rows
    rows_small = record {
      contexts = λ q h. (let r = clock_asked q h in are.contexts (access_at rows q).clk (access_at rows q) r.0 r.1);
      clocks = λ q h. (let w = (clock_asked q h).0 in let f = are.few in omega (arith, w, f));
    }
