-- The JSON value of a statement.
use Rattle.std.specs.Prelude.{codes}
use Rattle.serde_json.specs.Data.{Data, string, array, object, no_members, member}
use Rattle.vm_field.specs.WordText.{word_hex}
use Rattle.statement.specs.ToJson.{numbers_of, texts_of}
use Rattle.statement.specs.Statements.{Stated}

abbrev pub statement_data : Stated → Data
statement_data claim =
    object (member (codes "digest") (string (word_hex claim.digest)) (member (codes "inputs") (array (numbers_of claim.inputs))
    (member (codes "kernel") (array (texts_of claim.kernel)) (member (codes "outputs") (array (numbers_of claim.outputs)) no_members))))
