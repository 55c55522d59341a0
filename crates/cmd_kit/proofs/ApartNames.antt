-- The words of `run` and of `make` give the outputs names that no other file of the command has.
use Rattle.std.proofs.lemmas.Bool.{both_ways, not-true, not_from_false, or_parts}
use Rattle.cmd_kit.proofs.Words.{if◌then◌else◌, ◌≡◌, ◌≢◌, ℕ, Bool, true, false, codes, List, [], ◌∷◌, Option, Some, None, refl, sym, subst}
use Rattle.cmd_kit.proofs.Words.{list_any, bytes_eq, and_parts, bytes_eq-Decides, most_turns, MadeNames, Outputs, hash, assemble, check}
use Rattle.cmd_kit.proofs.Words.{check_source, make, chain, runs, member, asked}
use Rattle.cmd_words.specs.Words.{name_at, number_at, optional_name}
use Rattle.cmd_kit.specs.Asked.{Asked, nothing, run, are_apart, are_made_apart, is_apart, given_name, check_against, run_of_names, outputs_in, limit_in, pieces_in, check_of_names, hash_of_names, assemble_of_names, make_of_names, made_names_in, chain_of_names, runs_of_names, depth_in, member_of_names}

-- what is asked has outputs apart
abbrev AreOutputsApart : Asked → Type 0
AreOutputsApart nothing = Unit {0}
AreOutputsApart (hash params numbers) = Unit {0}
AreOutputsApart (assemble params source kernel) = Unit {0}
AreOutputsApart (run params source inputs outputs kernel limit) = are_apart outputs (params ∷ source ∷ inputs ∷ given_name kernel) ≡ true
AreOutputsApart (check params table statement evidence) = Unit {0}
AreOutputsApart (check_source params table statement evidence source kernel) = Unit {0}
AreOutputsApart (make params turns names) = are_made_apart names params ≡ true
AreOutputsApart (chain params list evidence) = is_apart evidence (params ∷ list ∷ []) ≡ true
AreOutputsApart (runs params list) = Unit {0}
AreOutputsApart (member params table statement evidence depth) = is_apart evidence (params ∷ table ∷ statement ∷ []) ≡ true

if_either : (b : Bool) (x y : Asked) → (b ≡ true → AreOutputsApart x) → AreOutputsApart y → AreOutputsApart (if b then x else y)
if_either true x y then_it otherwise = then_it refl
if_either false x y then_it otherwise = otherwise

of_hash : (params numbers : Option (List ℕ)) → AreOutputsApart (hash_of_names params numbers)
of_hash (Some params) (Some numbers) = tt
of_hash params numbers = tt

of_assemble : (params source : Option (List ℕ)) (kernel : Option (Option (List ℕ))) → AreOutputsApart (assemble_of_names params source kernel)
of_assemble (Some params) (Some source) (Some kernel) = tt
of_assemble params source kernel = tt

of_check_against : (params table statement evidence : List ℕ) (source kernel : Option (List ℕ))
    → AreOutputsApart (check_against params table statement evidence source kernel)
of_check_against params table statement evidence None None =
    if_either (is_apart evidence (params ∷ table ∷ statement ∷ [])) (check params table statement evidence) nothing (λ apart. tt) tt
of_check_against params table statement evidence None (Some kernel) = tt
of_check_against params table statement evidence (Some source) kernel =
    if_either (is_apart evidence (params ∷ table ∷ statement ∷ source ∷ given_name kernel))
    (check_source params table statement evidence source kernel) nothing (λ apart. tt) tt

of_check : (params table statement : Option (List ℕ)) (evidence : Option (Option (List ℕ))) (pieces : Option (Option ℕ))
    (source kernel : Option (Option (List ℕ))) → AreOutputsApart (check_of_names params table statement evidence pieces source kernel)
of_check (Some params) (Some table) (Some statement) (Some (Some evidence)) (Some pieces) (Some source) (Some kernel) =
    of_check_against params table statement evidence source kernel
of_check params table statement evidence pieces source kernel = tt

of_run : (params source inputs : Option (List ℕ)) (outputs : Option Outputs) (kernel : Option (Option (List ℕ))) (limit : Option ℕ)
    → AreOutputsApart (run_of_names params source inputs outputs kernel limit)
of_run (Some params) (Some source) (Some inputs) (Some outputs) (Some kernel) (Some limit) =
    if_either (are_apart outputs (params ∷ source ∷ inputs ∷ given_name kernel)) (run params source inputs outputs kernel limit)
    nothing (λ apart. apart) tt
of_run params source inputs outputs kernel limit = tt

of_make : (params : Option (List ℕ)) (turns : Option ℕ) (names : Option MadeNames) → AreOutputsApart (make_of_names params turns names)
of_make (Some params) (Some turns) (Some names) =
    if_either (are_made_apart names params) (make params turns names) nothing (λ apart. apart) tt
of_make params turns names = tt

of_chain : (params list : Option (List ℕ)) (evidence : Option (Option (List ℕ))) (pieces : Option (Option ℕ))
    → AreOutputsApart (chain_of_names params list evidence pieces)
of_chain (Some params) (Some list) (Some (Some evidence)) (Some pieces) =
    if_either (is_apart evidence (params ∷ list ∷ [])) (chain params list evidence) nothing (λ apart. apart) tt
of_chain params list evidence pieces = tt

of_runs : (params list : Option (List ℕ)) → AreOutputsApart (runs_of_names params list)
of_runs (Some params) (Some list) = tt
of_runs params list = tt

of_member : (params table statement : Option (List ℕ)) (depth : Option (Option ℕ)) (evidence : Option (Option (List ℕ)))
    (pieces : Option (Option ℕ)) → AreOutputsApart (member_of_names params table statement depth evidence pieces)
of_member (Some params) (Some table) (Some statement) (Some (Some depth)) (Some (Some evidence)) (Some pieces) =
    if_either (is_apart evidence (params ∷ table ∷ statement ∷ [])) (member params table statement evidence depth) nothing (λ apart. apart) tt
of_member params table statement depth evidence pieces = tt

behind_form : (b : Bool) (x : Asked) → AreOutputsApart x → AreOutputsApart (if b then x else nothing)
behind_form b x h = if_either b x nothing (λ is. h) tt

all_apart : (words : List (List ℕ)) → AreOutputsApart (asked words)
unfolding asked
all_apart [] = tt
all_apart (command ∷ words) =
    if_either (bytes_eq command (codes "check")) _ _
    (λ is. behind_form _ _ (of_check (name_at 0 words) (name_at 1 words) (name_at 2 words) evidence (pieces_in words)
    (optional_name (codes "--source") words) kernel))
    (if_either (bytes_eq command (codes "hash")) _ _ (λ is. behind_form _ _ (of_hash (name_at 0 words) (name_at 1 words)))
    (if_either (bytes_eq command (codes "assemble")) _ _ (λ is. behind_form _ _ (of_assemble (name_at 0 words) (name_at 1 words) kernel))
    (if_either (bytes_eq command (codes "run")) _ _
    (λ is. behind_form _ _ (of_run (name_at 0 words) (name_at 1 words) (name_at 2 words) (outputs_in words) kernel (limit_in words)))
    (if_either (bytes_eq command (codes "make")) _ _
    (λ is. behind_form _ _ (of_make (name_at 0 words) (number_at 1 most_turns 1 words) (made_names_in words)))
    (if_either (bytes_eq command (codes "chain")) _ _
    (λ is. behind_form _ _ (of_chain (name_at 0 words) (name_at 1 words) evidence (pieces_in words)))
    (if_either (bytes_eq command (codes "runs")) _ _ (λ is. behind_form _ _ (of_runs (name_at 0 words) (name_at 1 words)))
    (behind_form (bytes_eq command (codes "member")) _
    (behind_form _ _ (of_member (name_at 0 words) (name_at 1 words) (name_at 2 words) (depth_in words) evidence (pieces_in words))))))))))
  where
    kernel : Option (Option (List ℕ))
    kernel = optional_name (codes "--kernel") words

    evidence : Option (Option (List ℕ))
    evidence = optional_name (codes "--evidence") words

-- a name that is none of these is not the first of them, nor one behind it
not_first : (output name : List ℕ) (names : List (List ℕ)) → is_apart output (name ∷ names) ≡ true → name ≢ output
not_first output name names apart same =
    let none = or_parts (bytes_eq output name) (list_any (bytes_eq output) names) (not-true _ apart) in
    both_ways _ none.0 ((bytes_eq-Decides output name).1 (sym same))

not_behind : (output name : List ℕ) (names : List (List ℕ)) → is_apart output (name ∷ names) ≡ true → is_apart output names ≡ true
not_behind output name names apart =
    not_from_false _ (or_parts (bytes_eq output name) (list_any (bytes_eq output) names) (not-true _ apart)).1

pub record AreApart (params : List ℕ) (outputs : Outputs) : Type 0 where
  pub params_table : params ≢ outputs.table
  pub params_statement : params ≢ outputs.statement
  pub table_statement : outputs.table ≢ outputs.statement

-- so no output of a run is its file of parameters, or the other output
pub run_apart_names : (words : List (List ℕ)) (params source inputs : List ℕ) (outputs : Outputs) (kernel : Option (List ℕ)) (limit : ℕ)
    → asked words ≡ run params source inputs outputs kernel limit → AreApart params outputs
run_apart_names words params source inputs outputs kernel limit is =
    let others = source ∷ inputs ∷ given_name kernel in
    let apart = and_parts (is_apart outputs.table (outputs.statement ∷ params ∷ others)) (is_apart outputs.statement (params ∷ others))
    (subst AreOutputsApart is (all_apart words)) in
    record {
      params_table = not_first outputs.table params others (not_behind outputs.table outputs.statement (params ∷ others) apart.0);
      params_statement = not_first outputs.statement params others apart.1;
      table_statement = λ same. not_first outputs.table outputs.statement (params ∷ others) apart.0 (sym same);
    }

-- and the evidence of a chain is neither its parameters nor its list
pub chain_apart_names : (words : List (List ℕ)) (params list evidence : List ℕ) → asked words ≡ chain params list evidence
    → (params ≢ evidence) × (list ≢ evidence)
chain_apart_names words params list evidence is =
    let apart = subst AreOutputsApart is (all_apart words) in
    (not_first evidence params (list ∷ []) apart, not_first evidence list [] (not_behind evidence params (list ∷ []) apart))
