-- What rows look up in memory as the rows before them leave it, which is made of words.
use Rattle.sound_runs.proofs.Words.{◌≡◌, ℕ, zero, suc, ◌<◌, List, [], length, arith, slice_index, Some, refl, sym, prime, word-of, Op, ctx, s, t, deep_at_start}
use Rattle.sound_runs.proofs.Words.{Claim, elsewhere_at, memory_at, memory_behind, written_by, ServesRow, access_by, row_at, op_in, off, LooksUpWord}
use Rattle.std.proofs.lemmas.Option.{slice_get-get_or}
use Rattle.vm_field.specs.Machine.{IsWord, WordMap, word_at}
use Rattle.vm_field.proofs.Places.{words-empty, words-insert}
use Rattle.sound_runs.proofs.Words.ops
use Rattle.air_kit.specs.declared.requests.Access.{Access}
use Rattle.sound_runs.proofs.Premises.{Known}

-- ---- what is looked up

-- the access of row i, by its operation and the row behind it
abbrev Serves : List (List ℕ) → ℕ → Op → List ℕ → List ℕ → Type 0
Serves rows i op x y = (a : Access) → access_by op x y ≡ Some a → ServesRow rows i a

looks_up_word : (deep : List ℕ) (rows : List (List ℕ)) (i : ℕ) (op : Op) (x y : List ℕ) → Serves rows i op x y
    → LooksUpWord op x y (elsewhere_at deep rows i)
looks_up_word deep rows i ops.MLoad x y serves =
    let r = serves _ refl in
    record { address = λ is. r.address; element = λ is. sym (r.keeps.reads refl); word = λ is. off is; kept = λ is. off is }
looks_up_word deep rows i ops.MLoadW x y serves =
    let r = serves _ refl in
    record { address = λ is. r.address; element = λ is. off is; word = λ is. sym (r.keeps.reads refl); kept = λ is. off is }
looks_up_word deep rows i ops.MStore x y serves =
    let r = serves _ refl in
    record { address = λ is. r.address; element = λ is. off is; word = λ is. off is; kept = λ is. sym (r.keeps.keeps refl) }
looks_up_word deep rows i ops.MStoreW x y serves =
    let r = serves _ refl in record { address = λ is. r.address; element = λ is. off is; word = λ is. off is; kept = λ is. off is }
looks_up_word deep rows i op x y serves =
    record { address = λ is. off is; element = λ is. off is; word = λ is. off is; kept = λ is. off is }

-- ---- memory is made of words

abbrev pub MadeOfWords : WordMap → Type 0
MadeOfWords memory = (context place : ℕ) → IsWord (word_at memory context place)

stays_words : (op : Op) (x : List ℕ) (memory : WordMap) → ((k : ℕ) → slice_index x k < prime)
    → MadeOfWords memory → MadeOfWords (memory_behind x (written_by op x) memory)
stays_words ops.MStore x memory low words =
    words-insert memory (ctx x, s x 0) _ (word-of (s x 1) (t x 0) (t x 1) (t x 2) (low 31) (low 55) (low 56) (low 57))
    words
stays_words ops.MStoreW x memory low words =
    words-insert memory (ctx x, s x 0) _ (word-of (s x 4) (s x 3) (s x 2) (s x 1) (low 34) (low 33) (low 32) (low 31))
    words
stays_words op x memory low words = words

module _ {constants : List ℕ} {kernel rows : List (List ℕ)} {k : Claim} (known : Known constants kernel k rows) where
  pub word_looked_up : (i : ℕ) → suc i < length rows
      → LooksUpWord (op_in rows i) (row_at rows i) (row_at rows (suc i)) (elsewhere_at (deep_at_start k) rows i)
  word_looked_up i within =
      looks_up_word (deep_at_start k) rows i (op_in rows i) (row_at rows i) (row_at rows (suc i))
      (λ a is. known.memory i (row_at rows (suc i)) a (slice_get-get_or rows (suc i) [] within) is)

  pub words_at : (i : ℕ) → i < length rows → MadeOfWords (memory_at rows i)
  unfolding memory_at
  words_at zero h = words-empty
  words_at (suc i) h =
      stays_words (op_in rows i) (row_at rows i) (memory_at rows i) (known.shows.row_is i (omega (arith, h))).reads.low
      (words_at i (omega (arith, h)))
