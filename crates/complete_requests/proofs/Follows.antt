-- The permutations of a run follow one another.
use Rattle.complete_rows.proofs.Words
use Words.{◌≡◌, ℕ, All, true, false, List, [], ◌∷◌, ◌++◌, length, take, refl, arith, All-head, All-nil, All-tail, number_of_constants, State, permuted}
use Words.{absorbed, begun, Op, IsBatch, op_of_mark, Task, hash-batch, Perm, Event, Visible, never, off, AreLinked, Decoder, Kind, kind_of, chain}
use Words.{hash_perms, perms_by, perms_by_op, perms_of, respans}
use Words.ops
use Words.chains
use Words.kinds
use Rattle.air_kit.specs.Requests.{FollowsOn}
use Rattle.complete_requests.proofs.Chains.{absorbed_twelve}
use Rattle.complete_rows.proofs.MomentFacts.{moment_event}
use Rattle.complete_requests.proofs.Following.{coming_whole}

-- the first four elements of a state stay
take_taken : (state block : List ℕ) → length state ≡ 12 → take 4 (take 4 state ++ block) ≡ take 4 state
take_taken (a ∷ b ∷ c ∷ d ∷ state) block size = refl
take_taken state block size = absurd (omega (arith, size))

-- whatever comes before
abbrev pub Follow : List ℕ → List Perm → Type 0
Follow constants perms = (state : List ℕ) → FollowsOn constants false state perms

module _ (constants : List ℕ) (len : length constants ≡ number_of_constants) where
  goes_on : (state block : List ℕ) (blocks : List (List ℕ)) (others : List Perm) → length state ≡ 12 → IsBatch block → All IsBatch blocks
      → Follow constants others → FollowsOn constants true state (chain constants state true (block ∷ blocks) ++ others)
  unfolding chain
  goes_on state block [] others size h all rest =
      (refl, off, λ e. take_taken state block size, λ e g. never g, rest (permuted constants (take 4 state ++ block)))
  goes_on state block (next ∷ blocks) others size h all rest = (
    refl,
    off,
    λ e. take_taken state block size,
    λ e g. never g,
    goes_on (absorbed constants state block) next blocks others (absorbed_twelve constants len state block size h)
        (All-head IsBatch next blocks all) (All-tail IsBatch next blocks all) rest,
  )

  begins : (domain : ℕ) (block : List ℕ) (blocks : List (List ℕ)) (others : List Perm) → IsBatch block → All IsBatch blocks
      → Follow constants others → Follow constants (hash_perms constants domain (block ∷ blocks) ++ others)
  unfolding chain
  begins domain block [] others h all rest state =
      (refl, off, off, λ e g. (refl, refl, refl), rest (permuted constants (take 4 (begun domain) ++ block)))
  begins domain block (next ∷ blocks) others h all rest state = (
    refl,
    off,
    off,
    λ e g. (refl, refl, refl),
    goes_on (absorbed constants (begun domain) block) next blocks others (absorbed_twelve constants len (begun domain) block refl h)
        (All-head IsBatch next blocks all) (All-tail IsBatch next blocks all) rest,
  )

  op_follows : (op : Op) (seen : Visible) (others : List Perm) → Follow constants others → Follow constants (perms_by_op op seen ++ others)
  op_follows ops.HPerm seen others rest state = (refl, λ e. (refl, refl), off, λ e g. never e, rest _)
  op_follows op seen others rest state = rest state

  follows_by : (k : Kind) (e : Event) (later : List Event) (others : List Perm) → IsBatch e.hash → All IsBatch (respans later) → Follow constants others
      → Follow constants (perms_by k constants e later ++ others)
  follows_by kinds.Ordinary e later others h all rest = op_follows e.op e.before others rest
  follows_by kinds.Span e later others h all rest = begins 0 e.hash (respans later) others h all rest
  follows_by kinds.End e later others h all rest = rest
  follows_by kinds.Repeat e later others h all rest = rest
  follows_by kinds.Respan e later others h all rest = rest
  follows_by kinds.Halt e later others h all rest = rest
  follows_by kind e later others h all rest = begins _ e.hash [] others h (All-nil IsBatch) rest

module _ {constants : List ℕ} (len : length constants ≡ number_of_constants) where
  pub perms_follow : {kernel : List (List ℕ)} {limit : ℕ} {u : State} {todo : List Task} {d : Decoder} {s : State} {events : List Event}
      {rows : List (List ℕ)} → AreLinked constants kernel limit u todo d s events rows → Follow constants (perms_of constants events)
  unfolding perms_of
  perms_follow (chains.ends e) = λ state. refl
  perms_follow (chains.goes m later) =
      follows_by constants len (kind_of (op_of_mark m.mark)) (moment_event m) m.later (perms_of constants m.later) (hash-batch m.mark m.whole)
      (coming_whole later) (perms_follow later)
