-- The form of the words behind each command's name, and what the texts in them ask for.
use Rattle.std.specs.Prelude.{ℕ, List, [], ◌∷◌, codes, Option}
use Rattle.vm_field.specs.Limits.{most_cycles}
use Rattle.cmd_reading.specs.Form.{WordForm}
use Rattle.cmd_reading.specs.Meaning.{FormTexts}
use Rattle.cmd_reading.specs.Values.{name_in, number_in, option_name, option_number, option_number_or_most}
use Rattle.miden_app.specs.declared.names.CommandName.{CommandName}
use Rattle.miden_app.specs.declared.names.CommandName.TheVariants as name
use Rattle.workloads.specs.Workloads.{most_turns}
use Rattle.cmd_kit.specs.Asked.{Asked, MadeNames, Outputs, assemble_of_names, assemble_words, chain_of_names, chain_words, check_of_names, check_words, hash_of_names, hash_words, made_names, make_of_names, make_words, member_of_names, member_words, most_depth, most_pieces, outputs_named, run_of_names, run_words, runs_of_names, runs_words}

-- what the words behind the name ask for
abbrev pub asked_by : CommandName → List (List ℕ) → Asked
asked_by name.Check words = check_words words
asked_by name.Hash words = hash_words words
asked_by name.Assemble words = assemble_words words
asked_by name.Run words = run_words words
asked_by name.Make words = make_words words
asked_by name.Chain words = chain_words words
asked_by name.Runs words = runs_words words
asked_by name.Member words = member_words words

-- the names of what the command takes
abbrev pub form_named : CommandName → WordForm
form_named name.Check = record {
  places = codes "params" ∷ codes "table" ∷ codes "statement" ∷ [];
  needed = codes "evidence" ∷ [];
  free = codes "pieces" ∷ codes "source" ∷ codes "kernel" ∷ [];
}
form_named name.Hash = record { places = codes "params" ∷ codes "numbers" ∷ []; needed = []; free = [] }
form_named name.Assemble = record { places = codes "params" ∷ codes "source" ∷ []; needed = []; free = codes "kernel" ∷ [] }
form_named name.Run = record {
  places = codes "params" ∷ codes "source" ∷ codes "inputs" ∷ [];
  needed = codes "out" ∷ codes "statement" ∷ [];
  free = codes "kernel" ∷ codes "limit" ∷ [];
}
form_named name.Make = record {
  places = codes "params" ∷ codes "turns" ∷ [];
  needed = codes "source" ∷ codes "inputs" ∷ [];
  free = [];
}
form_named name.Chain = record {
  places = codes "params" ∷ codes "list" ∷ [];
  needed = codes "evidence" ∷ [];
  free = codes "pieces" ∷ [];
}
form_named name.Runs = record { places = codes "params" ∷ codes "list" ∷ []; needed = []; free = [] }
form_named name.Member = record {
  places = codes "params" ∷ codes "table" ∷ codes "statement" ∷ [];
  needed = codes "depth" ∷ codes "evidence" ∷ [];
  free = codes "pieces" ∷ [];
}

-- what the texts behind the name ask for
abbrev pub check_in : FormTexts → Asked
check_in t =
    check_of_names (name_in 0 t.places) (name_in 1 t.places) (name_in 2 t.places) (option_name 0 t.needed) (option_number 1 most_pieces 0 t.free)
    (option_name 1 t.free) (option_name 2 t.free)

abbrev pub hash_in : FormTexts → Asked
hash_in t = hash_of_names (name_in 0 t.places) (name_in 1 t.places)

abbrev pub assemble_in : FormTexts → Asked
assemble_in t = assemble_of_names (name_in 0 t.places) (name_in 1 t.places) (option_name 0 t.free)

abbrev pub outputs_read : FormTexts → Option Outputs
outputs_read t = outputs_named (option_name 0 t.needed) (option_name 1 t.needed)

abbrev pub limit_read : FormTexts → Option ℕ
limit_read t = option_number_or_most 1 most_cycles 1 t.free

abbrev pub run_in : FormTexts → Asked
run_in t = run_of_names (name_in 0 t.places) (name_in 1 t.places) (name_in 2 t.places) (outputs_read t) (option_name 0 t.free) (limit_read t)

abbrev pub made_names_read : FormTexts → Option MadeNames
made_names_read t = made_names (option_name 0 t.needed) (option_name 1 t.needed)

abbrev pub make_in : FormTexts → Asked
make_in t = make_of_names (name_in 0 t.places) (number_in 1 most_turns 1 t.places) (made_names_read t)

abbrev pub chain_in : FormTexts → Asked
chain_in t = chain_of_names (name_in 0 t.places) (name_in 1 t.places) (option_name 0 t.needed) (option_number 1 most_pieces 0 t.free)

abbrev pub runs_in : FormTexts → Asked
runs_in t = runs_of_names (name_in 0 t.places) (name_in 1 t.places)

abbrev pub member_in : FormTexts → Asked
member_in t =
    member_of_names (name_in 0 t.places) (name_in 1 t.places) (name_in 2 t.places) (option_number 1 most_depth 0 t.needed) (option_name 1 t.needed)
    (option_number 1 most_pieces 0 t.free)

abbrev pub asked_in : CommandName → FormTexts → Asked
asked_in name.Check t = check_in t
asked_in name.Hash t = hash_in t
asked_in name.Assemble t = assemble_in t
asked_in name.Run t = run_in t
asked_in name.Make t = make_in t
asked_in name.Chain t = chain_in t
asked_in name.Runs t = runs_in t
asked_in name.Member t = member_in t
