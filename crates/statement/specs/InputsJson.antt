-- The JSON value of inputs.
use Rattle.std.specs.Prelude.{ℕ, List, codes}
use Rattle.serde_json.specs.Data.{Data, array, object, no_members, member}
use Rattle.statement.specs.ToJson.{numbers_of}

abbrev pub inputs_data : List ℕ → List ℕ → Data
inputs_data stack advice =
    object (member (codes "advice") (array (numbers_of advice)) (member (codes "stack") (array (numbers_of stack)) no_members))
