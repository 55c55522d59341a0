-- What the END of a block shows of its hash.
use Rattle.sound_blocks.proofs.Words.{◌≡◌, ◌≢◌, inl, inr, lit<, ℕ, suc, ◌+◌, ◌%◌, ◌<◌, cond, List, [], ◌∷◌, refl, sym, ap, subst, ◌∙◌, cases_Bool, cond-false}
use Rattle.sound_blocks.proofs.Words.{◌⊞◌, Op, h, is_op, domain_of, eight, front, hash_end, Claim, GivesOn, row_at, ShowsRows, op_in, Starts, Closes, own}
use Rattle.sound_blocks.proofs.Words.{HashFacts, hasher_gives, IsHashedAt, op_from}
use Rattle.sound_blocks.proofs.Words.ops
use Rattle.sound_blocks.proofs.Addresses.{address_of_block, last_row}

pub gives_at : (hasher : List (List ℕ)) (tag : ℕ) {a b : ℕ} (xs : List ℕ) → a ≡ b → 0 < hasher_gives hasher (tag ∷ a ∷ xs)
    → 0 < hasher_gives hasher (tag ∷ b ∷ xs)
gives_at hasher tag xs e h = subst (λ n. 0 < hasher_gives hasher (tag ∷ n ∷ xs)) e h

-- the last digest of a hash
pub gives_digest : (hasher : List (List ℕ)) {end : ℕ} (address : ℕ) (digest : List ℕ) → end ≡ address + 7 → 0 < hasher_gives hasher (3 ∷ end ∷ digest)
    → GivesOn (hasher_gives hasher) address [] digest
unfolding GivesOn
gives_digest hasher address digest e h = gives_at hasher 3 digest e h

-- a further block in front of what is given behind it
pub gives_block : (hasher : List (List ℕ)) (address next : ℕ) (block : List ℕ) (blocks : List (List ℕ)) (digest : List ℕ) → next ≡ address + 8
    → 0 < hasher_gives hasher (2 ∷ next ∷ block) → GivesOn (hasher_gives hasher) next blocks digest
    → GivesOn (hasher_gives hasher) address (block ∷ blocks) digest
unfolding GivesOn
gives_block hasher address next block blocks digest e h later =
    (gives_at hasher 2 block e h, subst (λ n. GivesOn (hasher_gives hasher) n blocks digest) e later)

flag_off : (op : Op) (n : ℕ) → op ≢ ops.Span → n ≡ cond (is_op op ops.Span) 1 0 → n ≡ 0
flag_off op n other e = elim (cases_Bool (is_op op ops.Span)) [
  | inl is ↦ absurd (other (op_from is))
  | inr apart ↦ e ∙ cond-false (is_op op ops.Span) 1 0 apart
]

module _ {constants : List ℕ} {rows hasher : List (List ℕ)} (hashes : HashFacts constants rows hasher) where
  -- the address of a block that starts
  pub address_is : {j : ℕ} → Starts rows j → own rows j % 8 ≡ 1
  address_is {j} starts =
      address_of_block hasher 1 (own rows j) (domain_of (op_in rows j) ∷ eight (row_at rows j)) (lit< tt) (hashes.starts j starts)

  pub hashed_at : {j : ℕ} (e : ℕ) → Starts rows j → (domain : ℕ) → domain_of (op_in rows j) ≡ domain → (blocks : List (List ℕ))
      → GivesOn (hasher_gives hasher) (own rows j) blocks (front (row_at rows e))
      → IsHashedAt constants hasher rows j e (record { domain = domain; blocks = eight (row_at rows j) ∷ blocks })
  hashed_at {j} e starts domain is blocks given =
      let opens = subst (λ (n : ℕ). 0 < hasher_gives hasher (1 ∷ own rows j ∷ n ∷ eight (row_at rows j))) is (hashes.starts j starts) in
      let hash = hashes.table.hashes (own rows j) domain (eight (row_at rows j)) blocks (front (row_at rows e)) opens given in
      record { computation = hash.computation; digest = hash.digest_is }

  -- a block that is no span
  pub block_hashed : {k : Claim} → ShowsRows k rows → (j e : ℕ) → Closes rows j e → op_in rows j ≢ ops.Span
      → IsHashedAt constants hasher rows j e (record { domain = domain_of (op_in rows j); blocks = eight (row_at rows j) ∷ [] })
  block_hashed shows j e closes other =
      hashed_at e closes.starts (domain_of (op_in rows j)) refl [] (gives_digest hasher (own rows j) (front (row_at rows e)) end (hashes.ends e closes.ends))
    where
      flag : h (row_at rows e) 5 ≡ 0
      flag = flag_off (op_in rows j) (h (row_at rows e) 5) other closes.flags.span

      end : hash_end (row_at rows e) ≡ own rows j + 7
      end =
          rw flag (ap (λ n. n ⊞ 7) (sym closes.own_is)
          ∙ last_row (own rows j) ((shows.row_is (suc j) closes.starts.within).reads.low 8) (address_is closes.starts))
