use Rattle.table_file.proofs.Words.{List, ℕ, ◌++◌, ap, ◌∙◌, little_bytes, row_bytes}
use Rattle.table_file.proofs.PartBytes.{flat}
use Rattle.table_file.proofs.writing.add_row.Goals as goal

pub returns-clause-is : goal.returns-clause-is
returns-clause-is g c =
    let added = rw c.unwrap.ensures at c.try_extend_from_slice.ensures.ok in
    added
    ∙ ap (λ (part : List ℕ). c.args.room.now.items ++ part)
    (c.write_u64_into.ensures ∙ flat (little_bytes 8) c.numbers_of-numbers.result ∙ ap row_bytes c.numbers_of-numbers.ensures)
