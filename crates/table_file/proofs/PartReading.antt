-- What is read from bytes that stand at a place.
use Rattle.table_file.proofs.Words.{◌≡◌, ℕ, ◌+◌, ◌*◌, ◌<◌, ◌≤◌, List, ◌++◌, drop, length, Ok, Err, refl, sym, ap, ◌∙◌, arith, append_assoc, take-append_seam}
use Rattle.table_file.proofs.Words.{drop-append_seam, le-ltb, lt-ltb, drop-append-le, drop-drop, length-append, length-drop, prime, little_number}
use Rattle.table_file.proofs.Words.{little_from-take, Bad, element_at, number_at, StandsAt}
use Rattle.table_file.specs.declared.cause.FileCause.TheVariants as cause

-- a number is that of its own bytes, whatever stands behind them
pub little-front : (size : ℕ) (xs more : List ℕ) → size ≤ length xs → little_number size (xs ++ more) ≡ little_number size xs
little-front size xs more long =
    sym (little_from-take 0 size (length xs) (xs ++ more) (omega (arith, long))) ∙ ap (little_number size) (take-append_seam xs more)

module _ (all xs ys : List ℕ) (at : ℕ) (stands : StandsAt all at (xs ++ ys)) where
  pub stands_front : StandsAt all at xs
  stands_front = (ys ++ stands.0, stands.1 ∙ append_assoc xs ys stands.0)

  pub stands_back : (count : ℕ) → length xs ≡ count → StandsAt all (at + count) ys
  stands_back count long = (
    stands.0,
    sym (drop-drop count at all) ∙ ap (drop count) (stands.1 ∙ append_assoc xs ys stands.0)
        ∙ ap (λ (n : ℕ). drop n (xs ++ (ys ++ stands.0))) (sym long) ∙ drop-append_seam xs (ys ++ stands.0),
  )

-- what follows bytes that were read
pub stands_behind : (done part more : List ℕ) (at : ℕ) → length done ≡ at → StandsAt (done ++ (part ++ more)) at part
stands_behind done part more at long = (more, ap (λ (n : ℕ). drop n (done ++ (part ++ more))) (sym long) ∙ drop-append_seam done (part ++ more))

module _ (all part : List ℕ) (at j : ℕ) (stands : StandsAt all at part) (inside : 8 * j + 8 ≤ length part) where
  there : at + 8 * j + 8 ≤ length all
  there = omega (arith, inside, ap length stands.1, length-append part stands.0, length-drop at all)

  same : little_number 8 (drop (8 * j) part) ≡ little_number 8 (drop (at + 8 * j) all)
  same =
      let long : 8 ≤ length (drop (8 * j) part) = omega (arith, inside, length-drop (8 * j) part) in
      let before : 8 * j ≤ length part = omega (arith, inside) in
      sym (little-front 8 (drop (8 * j) part) stands.0 long)
      ∙ ap (little_number 8) (sym (drop-append-le (8 * j) part stands.0 before) ∙ ap (drop (8 * j)) (sym stands.1) ∙ drop-drop (8 * j) at all)

  pub good : (n : ℕ) → n ≡ little_number 8 (drop (8 * j) part) → n < prime → element_at all (at + 8 * j) ≡ Ok n
  unfolding number_at
  good n e low =
      let number : little_number 8 (drop (at + 8 * j) all) ≡ n = sym same ∙ sym e in
      rw (le-ltb (length all) (at + 8 * j + 8) there, number, lt-ltb n prime low) refl

  pub wrong : (n : ℕ) → n ≡ little_number 8 (drop (8 * j) part) → prime ≤ n → element_at all (at + 8 * j) ≡ Err (Bad (at + 8 * j) cause.Element)
  unfolding number_at
  wrong n e high =
      let number : little_number 8 (drop (at + 8 * j) all) ≡ n = sym same ∙ sym e in
      rw (le-ltb (length all) (at + 8 * j + 8) there, number, le-ltb n prime high) refl
