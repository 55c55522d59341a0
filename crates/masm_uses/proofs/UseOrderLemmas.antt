-- The graph of a source's procedures, and its orders.
use Rattle.masm_uses.proofs.Words.{◌≡◌, ℕ, List, map, length, take, get_or, Option, sym, ap, subst, ◌∙◌, arith, Contains, length-map, Proc, Source}
use Rattle.masm_uses.proofs.Words.{procedure_of, IsGraph, Leads, itself, through, links_in, own_places, recursive, IsClosed, IsAcyclic, IsOrder, IsUseOrder}
use Rattle.masm_uses.proofs.Words.{first_place, Reaches, IsTarget, HasDynexec}
use Rattle.masm_names.specs.declared.refusal.LinkCause.TheVariants as causes
use Rattle.masm_names.specs.Uses as uses
use Rattle.masm_graph.proofs.OwnLemmas.{edge_goes, goes_edge}
use Rattle.masm_uses.proofs.UsedLemmas.{goes_used, goes_within, used_goes}

module _ (own kernel : List ℕ → Option ℕ) (procs : List Proc) (places : (name : List ℕ) → own name ≡ first_place (map procedure_of procs) name) where
  abbrev graph : List (List ℕ)
  graph = map own_places (map (links_in own kernel) procs)

  pub counts : length graph ≡ length procs
  counts = length-map (map (links_in own kernel) procs) own_places ∙ length-map procs (links_in own kernel)

  pub is-graph : IsGraph graph
  is-graph a b edge =
      let below = goes_within own kernel procs places a b (edge_goes (map (links_in own kernel) procs) a b edge) in
      let same = counts in
      omega arith

  pub leads_reaches : (a b : ℕ) → Leads graph a b → Reaches (map procedure_of procs) a b
  leads_reaches a b itself = uses.itself
  leads_reaches a b (through {b = c} edge more) =
      let goes = goes_used own kernel procs places a c (edge_goes (map (links_in own kernel) procs) a c edge) in
      uses.through goes.0 goes.1 (leads_reaches c b more)

  pub reaches_leads : (a b : ℕ) → Reaches (map procedure_of procs) a b → Leads graph a b
  reaches_leads a b uses.itself = itself
  reaches_leads a b (uses.through {j = c} u first more) =
      through (goes_edge (map (links_in own kernel) procs) a c (used_goes own kernel procs places a u c first)) (reaches_leads c b more)

  module _ (source : Source) (names : List (List ℕ)) (is : source.procs ≡ map procedure_of procs) (closed : IsClosed source names) where
    pub is-acyclic : IsAcyclic graph
    is-acyclic a b edge back =
        let goes = goes_used own kernel procs places a b (edge_goes (map (links_in own kernel) procs) a b edge) in
        closed goes.0.at causes.Recursive (recursive a goes.0 b (subst (λ ps. uses.UsedIn ps a goes.0 b) (sym is) goes.1)
        (subst (λ ps. Reaches ps b a) (sym is) (leads_reaches b a back)))

  pub use-order : (source : Source) (order : List ℕ) → source.procs ≡ map procedure_of procs → IsOrder graph order
      → ((k j : ℕ) → HasDynexec source.procs (get_or order k 0) → IsTarget source j → Contains (take k order) j) → IsUseOrder source order
  use-order source order same is before = record {
    all = λ place below. is.all place (let all = counts in let count = ap length same ∙ length-map procs procedure_of in omega arith);
    within = λ k below. let low = is.within k below in let all = counts in let count = ap length same ∙ length-map procs procedure_of in omega arith;
    behind = λ k u j below used.
        is.behind k j below (goes_edge (map (links_in own kernel) procs) _ j
        (used_goes own kernel procs places _ u j (subst (λ ps. uses.UsedIn ps (get_or order k 0) u j) same used)));
    targets = λ k j below has target. before k j has target;
  }
