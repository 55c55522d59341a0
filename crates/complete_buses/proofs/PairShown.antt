-- What the row of a cycle and the row behind it show to the buses.
use Rattle.complete_rows.proofs.Words
use Words.{◌≡◌, ℕ, ◌<◌, List, [], ◌∷◌, ◌++◌, length, slice_index, refl, arith, lit<, Core, h, Mark, IsAllowed, core_behind, IsWholeMark, op_of_mark, back}
use Words.{front, shown_between, Event, Decoder, advance, hash_by, kind_of, IsMoment, Shows}
use Words.flags
use Rattle.complete_rows.proofs.MomentFacts.{advice_of, behind_shows, moment_allowed, moment_behind, moment_hash, moment_op, moment_shows}
use Rattle.complete_rows.proofs.PairLemmas.{ticked}

-- a cycle of this mark from a state, with the advice that it takes, and its event before later ones
pub record Pair (constants : List ℕ) (kernel : List (List ℕ)) (mark : Mark) (advice : List ℕ) (c b : Core) (d : Decoder)
    (later : List Event) (x y : List ℕ)
    : Type 0 where
  pub allowed : IsAllowed constants kernel mark advice c
  pub whole : IsWholeMark mark
  pub op : flags.op_of x ≡ op_of_mark mark
  pub here : Shows (flags.op_of x) d c x
  pub hash : (j : ℕ) → j < 8 → h x j ≡ slice_index (hash_by (kind_of (op_of_mark mark)) d (shown_between mark advice c b)) j
  pub next : Shows (flags.op_of y) (advance d (shown_between mark advice c b) later) (ticked (core_behind constants mark advice c)) y

pub pair_of : {constants : List ℕ} {kernel : List (List ℕ)} {limit : ℕ} {x y : List ℕ} → (m : IsMoment constants kernel limit x y)
    → Pair constants kernel m.mark (advice_of m) m.s.core (moment_behind m) m.d m.later x y
pair_of m = record {
  allowed = moment_allowed m;
  whole = m.whole;
  op = moment_op m;
  here = moment_shows m;
  hash = moment_hash m;
  next = behind_shows m;
}

-- the two words of a row
pub front_is : (word more x : List ℕ) → length word ≡ 4 → ((j : ℕ) → j < 8 → h x j ≡ slice_index (word ++ more) j) → front x ≡ word
front_is (a ∷ b ∷ c ∷ d ∷ []) more x size hash = rw (hash 0 (lit< tt), hash 1 (lit< tt), hash 2 (lit< tt), hash 3 (lit< tt)) refl
front_is word more x size hash = absurd (omega (arith, size))

pub back_is : (word more x : List ℕ) → length word ≡ 4 → length more ≡ 4 → ((j : ℕ) → j < 8 → h x j ≡ slice_index (word ++ more) j) → back x ≡ more
back_is (a ∷ b ∷ c ∷ d ∷ []) (i ∷ j ∷ k ∷ l ∷ []) x size few hash = rw (hash 4 (lit< tt), hash 5 (lit< tt), hash 6 (lit< tt), hash 7 (lit< tt)) refl
back_is (a ∷ b ∷ c ∷ d ∷ []) more x size few hash = absurd (omega (arith, few))
back_is word more x size few hash = absurd (omega (arith, size))
