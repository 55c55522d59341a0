-- The law of the cells below the sixteenth.
use Rattle.sound_blocks.proofs.Words.{◌≡◌, ◌≢◌, ℕ, suc, ◌+◌, ◌<◌, ◌≤◌, ◌^◌, true, List, [], ◌∷◌, length, length-drop, drop, sym, ap, subst, ◌∙◌, arith}
use Rattle.sound_blocks.proofs.Words.{nil_from_length, s, depth, is_call_op, row_shifts_left, Claim, Overflow, claim_of, Public, Trace, row_at, op_in, Closes}
use Rattle.sound_blocks.proofs.Words.{Granted, FrameFacts, below_at, GrantedOverflow, Chain, GrantedChains}
use Rattle.vm_field.specs.Limits.{most_inputs}
use Rattle.vm_field.proofs.Elements.{elements-drop}
use Rattle.facts_main.specs.Bounds.{IsLastRow}
use Rattle.sound_blocks.proofs.Chains.{elements_of}
use Rattle.sound_blocks.proofs.RowKinds.{behind_deeper, left_right_apart}
use Rattle.sound_blocks.proofs.Asides.{returns_is}
use Rattle.sound_blocks.proofs.Returns.{overflow_in, next_is, return_back, aside_is}
use Rattle.sound_blocks.proofs.Holds.{Known, differ_of, holds, front_at}
use Rattle.sound_blocks.proofs.Outputs.{Leaves, stack_is, walk}

module _ {k : Claim} {rows left_rows : List (List ℕ)} (known : Known k rows left_rows) where
  deep_at : (i : ℕ) → suc i < length rows → row_shifts_left (row_at rows i) ≡ true → depth (row_at rows i) ≢ 16
      → below_at k rows i ≡ s (row_at rows (suc i)) 15 ∷ below_at k rows (suc i)
  deep_at i within l a =
      let f = front_at known within (holds known i (omega (arith, within))) l a in
      let behind = behind_deeper (row_at rows i) (overflow_in k rows i) (left_right_apart (row_at rows i) l) l a in
      f.is
      ∙ ap (λ (xs : List ℕ). s (row_at rows (suc i)) 15 ∷ xs)
      (sym (ap (λ (o : Overflow). o.below) (next_is k rows i ∙ behind) ∙ ap (λ (xs : List ℕ). drop 1 xs) f.is))

  returns_at : (j e : ℕ) → Closes rows j e → is_call_op (op_in rows j) ≡ true
      → (below_at k rows e ≡ []) × (below_at k rows (suc e) ≡ below_at k rows j)
  returns_at j e closes call =
      let within : e < length rows = omega (arith, closes.ends.within) in
      let flat = (known.shows.row_is e within).stack.returns (returns_is rows j e closes ∙ call) in (
        nil_from_length (below_at k rows e) (omega (arith, (holds known e within).depth_is, flat)),
        ap (λ (o : Overflow). o.below)
            (return_back k rows j e (known.frames.closed j e closes) call (aside_is k rows known.shows known.frames e within)),
      )

-- few inputs are below the sixteenth
pub few_inputs : (inputs : List ℕ) → length inputs ≤ most_inputs → 16 + length (drop 16 inputs) ≤ 2 ^ 19
few_inputs inputs few = omega (arith, few, length-drop 16 inputs)

module _ (p : Public) (t : Trace) (granted : Granted p t) (frames : FrameFacts t.main) where
  pub known_of : Known (claim_of p t) t.main t.left
  known_of = record {
    shows = granted.rows;
    few = granted.few;
    shallow = few_inputs p.statement.inputs p.statement.inputs_few;
    inputs = elements-drop 16 p.statement.inputs p.statement.inputs_below;
    overflow = granted.overflow;
    frames = frames;
  }

  -- what the last row leaves
  module _ (i : ℕ) (e : suc i ≡ length t.main) where
    last : IsLastRow (claim_of p t) (op_in t.main i) (row_at t.main i)
    last = granted.rows.last i e

    count : length t.left + 16 ≡ length p.statement.outputs
    count = (granted.rows.first (omega (arith, e))).left

    leaves : Leaves (claim_of p t) t.main t.left (below_at (claim_of p t) t.main i)
    leaves =
        let here = holds known_of i (omega (arith, e)) in
        record {
          differ = differ_of known_of (omega (arith, e));
          overflow = granted.overflow;
          chain = λ more. subst (λ (n : ℕ). Chain (claim_of p t) t.main n (below_at (claim_of p t) t.main i)) last.key_is here.chain;
          size = omega (arith, here.depth_is, last.depth_is, count);
        }

pub overflow_law : GrantedOverflow
overflow_law p t granted frames = record {
  depth_is = λ i h. (holds known i h).depth_is;
  bounded = λ i h. (let here = holds known i h in omega (arith, here.depth_is, here.few));
  elements = λ i h. elements_of (claim_of p t) t.main known.inputs (λ r few. (granted.rows.row_is r few).reads.low 45) (holds known i h).chain;
  deep = deep_at known;
  returns = returns_at known;
  stack_left = λ i e. stack_is (leaves p t granted frames i e) (row_at t.main i) (last p t granted frames i e).outputs (count p t granted frames i e);
}
  where
    known : Known (claim_of p t) t.main t.left
    known = known_of p t granted frames

pub chain_law : GrantedChains
chain_law p t granted frames = record {
  chain = λ i h. (holds (known_of p t granted frames) i h).chain;
  left_size = λ i e. sym (leaves p t granted frames i e).size;
  left_keys = λ i e q h. walk (leaves p t granted frames i e) q h;
}
