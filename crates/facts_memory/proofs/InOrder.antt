-- Of accesses in order, the one before shows the latest word of its place.
use Rattle.facts_memory.proofs.Words.{◌≡◌, ℕ, zero, suc, ◌<◌, inl, inr, true, false, cond, List, length, Option, Some, sym, ap, subst, ◌∙◌, arith}
use Rattle.facts_memory.proofs.Words.{Bool, refl, zero_word, Access, IsEarlier, Keeps, is_at, access_key, word_behind, AreOrdered, AreSmall, access_at}
use Rattle.facts_memory.proofs.Words.{access_before, AreAsked, HasRow}
use Rattle.facts_memory.proofs.Keys.{earlier_before, right_before}
use Rattle.facts_memory.proofs.Latest.{KeepLatest, latest, latest-at, latest-none}
use Rattle.facts_memory.proofs.RowOrder.{at_same, place_is}

pub record InTable (asks : ℕ → Option Access) (m : ℕ) (rows : List (List ℕ)) : Type 0 where
  pub ordered : AreOrdered rows
  pub small : AreSmall rows
  pub asked : AreAsked asks m rows
  pub clocks : (i : ℕ) (a : Access) → i < m → asks i ≡ Some a → a.clk ≡ i

module _ (asks : ℕ → Option Access) (m : ℕ) (rows : List (List ℕ)) (t : InTable asks m rows) where
  -- an access before the clock of a row and of its place has a row
  row_of : (q k : ℕ) (b : Access) → q < length rows → k < (access_at rows q).clk → asks k ≡ Some b
      → is_at b (access_at rows q).ctx (access_at rows q).addr ≡ true
      → (r : ℕ) × (r < length rows) × IsEarlier (access_at rows q) (access_at rows r) × ((access_at rows r).clk ≡ k)
  row_of q k b h less is at =
      let within : k < m = (let w = t.asked.within q h in omega (arith, w, less)) in
      let row : HasRow rows b = t.asked.asked k b within is in
      let clock : b.clk ≡ k = t.clocks k b within is in
      let place = place_is b (access_at rows q).ctx (access_at rows q).addr at in (
        row.at,
        row.within,
        subst (IsEarlier (access_at rows q)) (sym row.shows) (record { ctx = place.0; addr = place.1; clk = omega (arith, clock, less) }),
        ap (λ (a : Access). a.clk) row.shows ∙ clock,
      )

  first_row : 0 < length rows → latest asks (access_at rows 0).clk (access_at rows 0).ctx (access_at rows 0).addr ≡ zero_word
  first_row h =
      latest-none asks (access_at rows 0).clk (access_at rows 0).ctx (access_at rows 0).addr
      (λ k b low high is at.
      (let r = row_of 0 k b h high is at in
      let less = earlier_before (access_at rows) (length rows) t.ordered.grows 0 r.0 h r.1 r.2 in omega (arith, less)))

  -- the row of an access behind another one
  latest_behind : (q : ℕ) → suc q < length rows
      → latest asks (access_at rows (suc q)).clk (access_at rows (suc q)).ctx (access_at rows (suc q)).addr
      ≡ word_behind (Some (access_at rows q)) (access_at rows (suc q))
  latest_behind q h = go (is_at p a.ctx a.addr) refl
    where
      p : Access
      p = access_at rows q

      a : Access
      a = access_at rows (suc q)

      -- an access of its place is no later than the row before, which is of that place too
      found : (k : ℕ) (b : Access) → k < a.clk → asks k ≡ Some b → is_at b a.ctx a.addr ≡ true → IsEarlier a p × (k < suc p.clk)
      found k b high is at =
          let r = row_of (suc q) k b h high is at in
          let e = right_before (access_at rows) (length rows) t.ordered.grows t.ordered.addresses t.small.clocks q r.0 h r.1 r.2 in
          let clock = r.3 in (
            e.0,
            elim e.1 [
              | inl same ↦ let k : (access_at rows r.0).clk ≡ p.clk = ap (λ i. (access_at rows i).clk) same in omega (arith, k, clock)
              | inr less ↦ omega (arith, less, clock)
            ],
          )

      go : (t : Bool) → is_at p a.ctx a.addr ≡ t → latest asks a.clk a.ctx a.addr ≡ cond t p.word zero_word
      go true same =
          let place = place_is p a.ctx a.addr same in
          let c = place.0 in
          let d = place.1 in
          let grows : access_key p < access_key a = t.ordered.grows q h in
          latest-at asks a.clk p.clk a.ctx a.addr p (omega (arith, c, d, grows)) (t.asked.given q (omega (arith, h))) same
          (λ k b low high is at. (let few = (found k b high is at).1 in omega (arith, few, low)))
      go false apart =
          latest-none asks a.clk a.ctx a.addr (λ k b low high is at.
          (let e = (found k b high is at).0 in
          let same : is_at p a.ctx a.addr ≡ true = at_same p a.ctx a.addr e.ctx e.addr in let clash : ⊥ = cc in clash))

  latest_is : (q : ℕ) → q < length rows
      → latest asks (access_at rows q).clk (access_at rows q).ctx (access_at rows q).addr ≡ word_behind (access_before rows q) (access_at rows q)
  latest_is zero h = first_row h
  latest_is (suc q) h = latest_behind q h

  pub keep_latest : KeepLatest asks m
  keep_latest i a h is =
      let row : HasRow rows a = t.asked.asked i a h is in
      let keeps : Keeps (access_at rows row.at) (latest asks (access_at rows row.at).clk (access_at rows row.at).ctx (access_at rows row.at).addr) =
      subst (Keeps (access_at rows row.at)) (sym (latest_is row.at row.within)) (t.ordered.keeps row.at row.within) in
      subst (λ k. Keeps a (latest asks k a.ctx a.addr)) (t.clocks i a h is)
      (subst (λ x. Keeps x (latest asks x.clk x.ctx x.addr)) row.shows keeps)
