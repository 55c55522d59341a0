-- The words of a map: looking one up, and putting one in.
use Rattle.std.proofs.Common.{◌≡◌, ℕ, List, [], ◌∷◌, cond, refl, ap, sym, ◌∙◌}
use Rattle.std.specs.Prelude.{Some}
use Rattle.std.specs.Ordering.{is_eq, eq_by_cmp}
use Rattle.std.specs.FinMap.{get, insert, find, get-from_entries, get-insert, same_map}
use Rattle.std.specs.Cmp.{eq_by_cmp_equiv}
use Rattle.std.specs.Map.{lookup}
use Rattle.std.specs.BTreeMap as btree
use Rattle.std.specs.BTreeMap.{BTreeMap, is_at, Updates}
use Rattle.vm_field.specs.Machine.{place_cmp}
use Rattle.vm_field.proofs.Places.{place_cmp_total, place_cmp-IsAntisymmetric}
use Rattle.vm_state.specs.Memory.{words_of}

find-lookup : (entries : List ((ℕ × ℕ) × List ℕ)) (place : ℕ × ℕ) → find place_cmp place entries ≡ lookup (is_at (place_cmp place)) entries
find-lookup [] place = refl
find-lookup (e ∷ entries) place = ap (cond (is_eq (place_cmp place e.0)) (Some e.1)) (find-lookup entries place)

-- a word is what the map has at its place
pub get-words_of : (m : BTreeMap (ℕ × ℕ) (List ℕ)) (place : ℕ × ℕ) → get (words_of m.entries) place ≡ btree.get place_cmp m place
get-words_of m place = get-from_entries place_cmp_total _ place ∙ find-lookup m.entries place

-- an entry that is put into the map is a word that is put in
pub words_of-insert : (m n : BTreeMap (ℕ × ℕ) (List ℕ)) (place : ℕ × ℕ) (word : List ℕ) → Updates place_cmp m n place (Some word)
    → words_of n.entries ≡ insert (words_of m.entries) place word
words_of-insert m n place word updates = same_map place_cmp_total place_cmp-IsAntisymmetric _ _ (λ q.
    get-words_of n q
    ∙ updates.0 q
    ∙ ap (λ b. cond b (Some word) (btree.get place_cmp m q)) ((eq_by_cmp_equiv place_cmp_total).symm place q)
    ∙ sym (get-insert place_cmp_total (words_of m.entries) place word q ∙ ap (cond (eq_by_cmp place_cmp q place) (Some word)) (get-words_of m q)))

pub ruleset memory_steps = (get-words_of, words_of-insert)
