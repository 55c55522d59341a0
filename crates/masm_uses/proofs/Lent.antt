-- The rows of uses and their graph, as they are lent.
use Rattle.masm_uses.proofs.Words.{◌≡◌, ℕ, List, Option, Vec, Global, map, length, sym, ap, ◌∙◌, length-map, Link, rows_of, links_in, main_links_in, own_places}
use Rattle.masm_uses.proofs.Words.{places_referred, Proc}

-- rows in memory are as many as their lists
pub count_of : {X : Type 0} (vecs : List (Vec X Global)) {rows : List (List X)} → rows_of vecs ≡ rows → length vecs ≡ length rows
count_of {X} vecs is = sym (length-map vecs (λ (v : Vec X Global). v.items)) ∙ ap length is

module _ (own kernel : List ℕ → Option ℕ) where
  pub rows_are : {procs lent : List Proc} {rows lent_rows : List (Vec Link Global)} → lent ≡ procs → lent_rows ≡ rows
      → rows_of rows ≡ map (links_in own kernel) lent → rows_of lent_rows ≡ map (links_in own kernel) procs
  rows_are same same_rows is = ap rows_of same_rows ∙ (is ∙ ap (map (links_in own kernel)) same)

  pub graph_is : (procs : List Proc) (lent_rows : List (Vec Link Global)) {graph lent_graph : List (Vec ℕ Global)}
      → rows_of lent_rows ≡ map (links_in own kernel) procs → lent_graph ≡ graph → rows_of graph ≡ map own_places (rows_of lent_rows)
      → rows_of lent_graph ≡ map own_places (map (links_in own kernel) procs)
  graph_is procs lent_rows rows same is = ap rows_of same ∙ (is ∙ ap (map own_places) rows)

  pub count_rows : (procs : List Proc) (rows : List (Vec Link Global)) → rows_of rows ≡ map (links_in own kernel) procs → length rows ≡ length procs
  count_rows procs rows is = count_of rows is ∙ length-map procs (links_in own kernel)

  pub referred_is : (procs : List Proc) (last : Option Proc) (rows : List (Vec Link Global)) {row : List Link}
      → rows_of rows ≡ map (links_in own kernel) procs → row ≡ main_links_in own kernel last
      → places_referred (rows_of rows) row ≡ places_referred (map (links_in own kernel) procs) (main_links_in own kernel last)
  referred_is procs last rows {row} same is =
      ap (λ rs. places_referred rs row) same ∙ ap (places_referred (map (links_in own kernel) procs)) is
