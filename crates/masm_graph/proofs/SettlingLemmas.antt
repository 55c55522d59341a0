-- Numbers of a graph's places: where no edge leads to a lesser number, none leads back from a greater one.
use Rattle.std.proofs.Common.{◌≡◌, ℕ, ◌+◌, ◌<◌, ◌≤◌, Bool, true, false, List, [], ◌∷◌, ◌++◌, length, map, get_or, inl, inr, sym, ap, subst, ◌∙◌, arith}
use Rattle.std.specs.Prelude.{nat_lt, nat_le}
use Rattle.std.proofs.lemmas.Bool.{false≢true, cases_lt, and_parts}
use Rattle.std.proofs.lemmas.Bool.Decides.{nat_tests, eqb_tells}
use Rattle.std.proofs.lemmas.List.{get_or_past, get_or_append_left, length_push}
use Rattle.std.proofs.Math.Seq.{get_or-append_seam}
use Rattle.std.specs.List.{Contains, list_all}
use Rattle.masm_graph.specs.declared.links.Link.{Link}
use Rattle.graphs.specs.Graph.{Edge, Leads, itself, through}
use Rattle.masm_graph.specs.Links.{own_places}
use Rattle.masm_graph.specs.Users.{UsesProcedure, AreUsers}
use Rattle.graphs.proofs.SortLemmas.{contains_none}
use Rattle.masm_names.proofs.DoubleLemmas.{cons_cases}
use Rattle.masm_graph.proofs.OwnLemmas.{goes_edge}

all_at : (p : ℕ → Bool) (xs : List ℕ) (x : ℕ) → list_all p xs ≡ true → Contains xs x → p x ≡ true
all_at p [] x h has = absurd (contains_none x has)
all_at p (y ∷ ys) x h has =
    let parts = and_parts (p y) (list_all p ys) h in
    elim (cons_cases y ys x has) [ inl same ↦ ap p (sym same) ∙ parts.0 | inr later ↦ all_at p ys x parts.1 later ]

-- the numbers of a row
pub no_less : (numbers row : List ℕ) (number b : ℕ) → list_all (λ place. nat_le number (get_or numbers place 0)) row ≡ true → Contains row b
    → number ≤ get_or numbers b 0
no_less numbers row number b h has =
    let at : nat_le number (get_or numbers b 0) ≡ true = all_at (λ place. nat_le number (get_or numbers place 0)) row b h has in
    grind (arith, nat_tests)

greater : (numbers row : List ℕ) (number b : ℕ) → list_all (λ place. nat_lt number (get_or numbers place 0)) row ≡ true → Contains row b
    → number < get_or numbers b 0
greater numbers row number b h has =
    let at : nat_lt number (get_or numbers b 0) ≡ true = all_at (λ place. nat_lt number (get_or numbers place 0)) row b h has in
    grind (arith, nat_tests)

pub edge_from : (graph : List (List ℕ)) (a b : ℕ) → Edge graph a b → a < length graph
edge_from graph a b h = elim (cases_lt a (length graph)) [
  | inl below ↦ below
  | inr past ↦ absurd (let none = ap length (get_or_past graph a [] past) in let within = h.1 in omega arith)
]

-- one row more whose edges lead to no lesser numbers
pub ascends-more : (graph : List (List ℕ)) (numbers row : List ℕ) (i : ℕ) → row ≡ get_or graph i []
    → ((a b : ℕ) → a < i → Edge graph a b → get_or numbers a 0 ≤ get_or numbers b 0)
    → list_all (λ place. nat_le (get_or numbers i 0) (get_or numbers place 0)) row ≡ true
    → (a b : ℕ) → a < i + 1 → Edge graph a b → get_or numbers a 0 ≤ get_or numbers b 0
ascends-more graph numbers row i is before here a b below edge = elim (eqb_tells a i) [
  | inl same ↦
      subst (λ p. get_or numbers p 0 ≤ get_or numbers b 0) (sym same.1)
      (no_less numbers row (get_or numbers i 0) b here (subst (λ xs. Contains xs b) (sym is) (subst (λ p. Edge graph p b) same.1 edge)))
  | inr apart ↦ before a b (let other = apart.1 in omega arith) edge
]

-- marks of rows whose edges lead to greater numbers
abbrev pub Ascend : List (List ℕ) → List ℕ → List Bool → Type 0
Ascend graph numbers marks = (a b : ℕ) → get_or marks a false ≡ true → Edge graph a b → get_or numbers a 0 < get_or numbers b 0

pub ascend-none : (graph : List (List ℕ)) (numbers : List ℕ) → Ascend graph numbers []
ascend-none graph numbers a b marked edge = absurd (false≢true marked)

pub ascend-more : (graph : List (List ℕ)) (numbers row : List ℕ) (marks : List Bool) (i : ℕ) (mark : Bool) → length marks ≡ i
    → row ≡ get_or graph i []
    → Ascend graph numbers marks → mark ≡ list_all (λ place. nat_lt (get_or numbers i 0) (get_or numbers place 0)) row
    → Ascend graph numbers (marks ++ mark ∷ [])
ascend-more graph numbers row marks i mark count is before here a b marked edge = elim (cases_lt a i) [
  | inl low ↦ before a b (sym (get_or_append_left marks (mark ∷ []) false a (omega arith)) ∙ marked) edge
  | inr high ↦ elim (eqb_tells a i) [
    | inl same ↦
        let is_marked =
        sym here ∙ (sym (get_or-append_seam marks mark [] false)
        ∙ (ap (λ k. get_or (marks ++ mark ∷ []) k false) (count ∙ sym same.1) ∙ marked)) in
        subst (λ p. get_or numbers p 0 < get_or numbers b 0) (sym same.1)
        (greater numbers row (get_or numbers i 0) b is_marked (subst (λ xs. Contains xs b) (sym is) (subst (λ p. Edge graph p b) same.1 edge)))
    | inr apart ↦
        let long = length_push marks mark in
        let other = apart.1 in
        absurd (false≢true (sym (get_or_past (marks ++ mark ∷ []) a false (omega arith)) ∙ marked))
  ]
]

module _ (rows : List (List Link)) (users : List (List ℕ)) (are : AreUsers rows users) (numbers : List ℕ) where
  abbrev graph : List (List ℕ)
  graph = map own_places rows

  leads_down : ((a b : ℕ) → Edge graph a b → get_or numbers a 0 ≤ get_or numbers b 0) → (a b : ℕ) → Leads users a b
      → get_or numbers b 0 ≤ get_or numbers a 0
  leads_down ascends a b itself = omega arith
  leads_down ascends a b (through {b = c} edge more) =
      let first = ascends c a (goes_edge rows c a ((are.edges a c).0 edge)) in
      let rest = leads_down ascends c b more in
      omega arith

  pub settles : ((a b : ℕ) → Edge graph a b → get_or numbers a 0 ≤ get_or numbers b 0) → (marks : List Bool) → Ascend graph numbers marks
      → (user place : ℕ) → get_or marks user false ≡ true → UsesProcedure rows user place → Leads users user place → ⊥
  settles ascends marks ascend user place marked goes leads =
      let up = ascend user place marked (goes_edge rows user place goes) in
      let down = leads_down ascends user place leads in
      omega arith
