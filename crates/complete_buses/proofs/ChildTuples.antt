-- The tuples of children that a row gives and asks, by its operation.
use Rattle.complete_rows.proofs.Words
use Words.{◌≡◌, ℕ, ◌+◌, true, false, cond, List, [], ◌∷◌, ◌++◌, refl, ap, ◌∙◌, arith, counted, counted-none, is_ordinary_op, is_start_op, Op, addr, back, child}
use Words.{children_asked, children_given, children_of, front}
use Words.ops
use Words.flags
use Rattle.air_kit.specs.MainTuples.{children_by}
use Rattle.complete_rows.proofs.AgreeLemmas.{kind_is}
use Rattle.complete_buses.proofs.Hits.{hit, one_count, stays_owed, two_count}

-- the tuple of a child
abbrev pub child_tuple : ℕ → List ℕ → ℕ → List ℕ
child_tuple parent digest more = parent ∷ digest ++ more ∷ []

pub ordinary_names : (op : Op) (x y : List ℕ) → is_ordinary_op op ≡ true → children_of op x y ≡ []
unfolding children_of
ordinary_names op x y is = ap (λ k. children_by k x y) (kind_is op is)

pub one_named : {i n k more : ℕ} {v w : List ℕ} → i ≡ n → v ≡ w → k ≡ more → child i v k ∷ [] ≡ child n w more ∷ []
one_named at is goes = rw (at, is, goes) refl

two_named : {i n : ℕ} {v w a z : List ℕ} → i ≡ n → v ≡ a → w ≡ z → child i v 1 ∷ child i w 0 ∷ [] ≡ child n a 1 ∷ child n z 0 ∷ []
two_named at first second = rw (at, first, second) refl

module _ (x y u : List ℕ) where
  given_by : {op : Op} → flags.op_of x ≡ op → counted (children_given x y) u ≡ counted (children_of op x y) u
  unfolding children_given
  given_by is = ap (λ o. counted (children_of o x y) u) is

  pub none_asked : {op : Op} → flags.op_of x ≡ op → flags.is_op op ops.End ≡ false → counted (children_asked x y) u ≡ 0
  unfolding children_asked
  none_asked is apart = rw (is, apart) (counted-none u)

  -- two children, one, or none are named; so much is owed beside them
  pub names_two : {a z : List ℕ} {n : ℕ} → flags.op_of x ≡ ops.Join → addr y ≡ n → front x ≡ a → back x ≡ z → (owed : ℕ)
      → counted (children_given x y) u + owed
      ≡ counted (children_asked x y) u + (hit (child_tuple n a 1) u + (hit (child_tuple n z 0) u + owed))
  unfolding children_of
  names_two {a = a} {z = z} {n = n} is at first second owed =
      let given : counted (children_given x y) u ≡ hit (child_tuple n a 1) u + hit (child_tuple n z 0) u
      = given_by is ∙ ap (λ cs. counted cs u) (two_named at first second) ∙ two_count (child_tuple n a 1) (child_tuple n z 0) u in
      omega (arith, given, none_asked is refl)

  pub names_one : (n : ℕ) (word : List ℕ) {op : Op} → flags.op_of x ≡ op → flags.is_op op ops.End ≡ false
      → children_of op x y ≡ child n word 0 ∷ [] → (owed : ℕ)
      → counted (children_given x y) u + owed ≡ counted (children_asked x y) u + (hit (child_tuple n word 0) u + owed)
  names_one n word is apart named owed =
      let given = given_by is ∙ ap (λ cs. counted cs u) named ∙ one_count (child_tuple n word 0) u in
      omega (arith, given, none_asked is apart)

  pub names_none : {op : Op} → flags.op_of x ≡ op → flags.is_op op ops.End ≡ false → children_of op x y ≡ [] → (owed : ℕ)
      → counted (children_given x y) u + owed ≡ counted (children_asked x y) u + owed
  names_none is apart named owed =
      stays_owed (given_by is ∙ ap (λ cs. counted cs u) named ∙ counted-none u) (none_asked is apart) owed

  -- an END asks what was named
  pub ends : {word : List ℕ} {n more : ℕ} → flags.op_of x ≡ ops.End → addr y ≡ n → front x ≡ word
      → cond (is_start_op (flags.op_of y)) 1 0 ≡ more → (owed : ℕ)
      → counted (children_given x y) u + (hit (child_tuple n word more) u + owed) ≡ counted (children_asked x y) u + owed
  unfolding children_asked children_of
  ends {word = word} {n = n} {more = more} is at digest goes owed =
      let asked : counted (children_asked x y) u ≡ hit (child_tuple n word more) u
      = ap (λ o. counted (cond (flags.is_op o ops.End) (child (addr y) (front x) (cond (is_start_op (flags.op_of y)) 1 0) ∷ []) []) u) is
      ∙ ap (λ cs. counted cs u) (one_named at digest goes) ∙ one_count (child_tuple n word more) u in
      let none = given_by is ∙ counted-none u in
      omega (arith, asked, none)
