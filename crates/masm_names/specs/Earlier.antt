-- The earlier of two refusals.
use Rattle.std.specs.Prelude.{Bool, Option, Some, None, nat_eq, nat_lt, nat_le, ◌&&◌, ◌||◌, if◌then◌else◌}
use Rattle.masm_names.specs.declared.refusal.Refusal.{Refusal}
use Rattle.masm_names.specs.Causes.{order}

-- by the line, then the column, then the cause
abbrev pub is_no_later : Refusal → Refusal → Bool
is_no_later a b =
    nat_lt a.at.line b.at.line
    || (nat_eq a.at.line b.at.line
    && (nat_lt a.at.column b.at.column || (nat_eq a.at.column b.at.column && nat_le (order a.cause) (order b.cause))))

abbrev pub earlier : Option Refusal → Option Refusal → Option Refusal
earlier None b = b
earlier (Some a) None = Some a
earlier (Some a) (Some b) = if is_no_later a b then Some a else Some b
