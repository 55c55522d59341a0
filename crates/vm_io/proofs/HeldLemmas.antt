-- The files of a map from texts: looking one up, and putting one in.
use Rattle.std.proofs.Common.{◌≡◌, List, [], ◌∷◌, cond, refl, ap, sym, ◌∙◌, ℕ}
use Rattle.std.specs.Prelude.{Some, map}
use Rattle.std.specs.Ordering.{nat_cmp, is_eq, eq_by_cmp}
use Rattle.std.specs.Cmp.{eq_by_cmp_equiv}
use Rattle.std.specs.Cmp.Lexicographic.{slice_cmp, nat_list_cmp_total}
use Rattle.std.specs.FinMap.{get, insert, find, get-from_entries, get-insert, same_map}
use Rattle.std.specs.Map.{lookup}
use Rattle.std.specs.BTreeMap.{BTreeMap, is_at, Updates, get_by_text}
use Rattle.std.specs.Str.{bytes_eq}
use Rattle.std.specs.String.{string_bytes, string_cmp}
use Rattle.std.specs.declared.string.String.{String}
use Rattle.std.proofs.lemmas.Map.Lookups.{exact_bytes}
use Rattle.std.proofs.lemmas.Map.Text.{btree_map_updates_text, is_eq-slice_cmp}
use Rattle.vm_io.specs.MemShelf.{files_of}

same_test : (a b : List ℕ) → bytes_eq a b ≡ eq_by_cmp (slice_cmp nat_cmp) b a
same_test a b = sym (is_eq-slice_cmp a b) ∙ (eq_by_cmp_equiv nat_list_cmp_total).symm a b

module _ {A : Type 0} where
  find_text : (entries : List (String A × List ℕ)) (name : List ℕ)
      → find (slice_cmp nat_cmp) name (map (λ e. (string_bytes e.0, e.1)) entries)
      ≡ lookup (is_at (λ k. slice_cmp nat_cmp name (string_bytes k))) entries
  find_text [] name = refl
  find_text (e ∷ entries) name = ap (cond (is_eq (slice_cmp nat_cmp name (string_bytes e.0))) (Some e.1)) (find_text entries name)

  -- a file is what the map has at the name
  pub get-files_of : (m : BTreeMap (String A) (List ℕ)) (name : List ℕ) → get (files_of m.entries) name ≡ get_by_text m name
  get-files_of m name = get-from_entries nat_list_cmp_total _ name ∙ find_text m.entries name

  -- an entry that is put into the map is a file that is put in
  pub files_of-put : (m n : BTreeMap (String A) (List ℕ)) (key : String A) (bytes : List ℕ)
      → Updates string_cmp m n key (Some bytes) → files_of n.entries ≡ insert (files_of m.entries) (string_bytes key) bytes
  files_of-put m n key bytes updates = same_map nat_list_cmp_total exact_bytes _ _ (λ q.
      get-files_of n q
      ∙ btree_map_updates_text (string_bytes key) m n (Some bytes) updates q
      ∙ ap (λ b. cond b (Some bytes) (get_by_text m q)) (same_test (string_bytes key) q)
      ∙ sym (get-insert nat_list_cmp_total (files_of m.entries) (string_bytes key) bytes q
      ∙ ap (cond (eq_by_cmp (slice_cmp nat_cmp) q (string_bytes key)) (Some bytes)) (get-files_of m q)))

pub ruleset held_steps = (get-files_of, files_of-put)
