-- An access that fits behind another one, with the flags and the step of its row.
use Rattle.facts_memory.proofs.Words.{◌≡◌, ℕ, suc, ◌≤◌, List, [], ◌∷◌, drop, slice_index, Option, Some, refl, sym, ap, ◌∙◌, IsWord, Access, Keeps, word_behind}
use Rattle.facts_memory.proofs.Entries.{Limited}
use Rattle.facts_memory.proofs.RowOrder.{Follows}

-- an access that a row can show
pub record IsShown (a : Access) : Type 0 where
  pub kind : a.kind ≤ 2
  pub limits : Limited a
  pub word : IsWord a.word

-- and that stands right behind another one
pub record FitsBehind (before : Option Access) (a : Access) : Type 0 where
  pub shown : IsShown a
  pub order : (b : Access) → before ≡ Some b → Follows b a
  pub keeps : Keeps a (word_behind before a)

drop_at : (w : List ℕ) (j : ℕ) → slice_index (drop 1 w) j ≡ slice_index w (suc j)
drop_at [] j = refl
drop_at (x ∷ w) j = refl

-- what is kept, element by element
pub kept_at : (a : Access) (old : List ℕ) (j : ℕ) → Keeps a old → a.kind ≡ 2 → slice_index a.word (suc j) ≡ slice_index old (suc j)
kept_at a old j keeps is = sym (drop_at a.word j) ∙ ap (λ w. slice_index w j) (keeps.keeps is) ∙ drop_at old j

pub read_at : (a : Access) (old : List ℕ) (j : ℕ) → Keeps a old → a.kind ≡ 0 → slice_index a.word j ≡ slice_index old j
read_at a old j keeps is = ap (λ w. slice_index w j) (keeps.reads is)
