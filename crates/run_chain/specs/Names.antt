-- The names of a list and of the words that name it, and which of them clash.
use Rattle.std.specs.Prelude.{ℕ, Bool, true, false, ◌&&◌, ◌||◌, List, [], ◌∷◌, map, Option, Some, None}
use Rattle.std.specs.List.{list_any, zip}
use Rattle.std.specs.Str.{bytes_eq}
use Rattle.run_chain.specs.declared.naming.Role.{Role}
use Rattle.run_chain.specs.declared.naming.Role.TheVariants.{Input, Output}

-- The words behind which a list is read: the names of the parameters and of the list, which are read, and for a chain that of the
-- evidence, which is written.
pub record Given : Type 0 where
  pub params : List ℕ
  pub list : List ℕ
  pub evidence : Option (List ℕ)

-- a name, and what becomes of its file
pub record Named : Type 0 where
  pub role : Role
  pub name : List ℕ

abbrev pub named : Role → List ℕ → Named
named role name = record { role = role; name = name }

abbrev pub evidence_named : Option (List ℕ) → List Named
evidence_named None = []
evidence_named (Some evidence) = named Output evidence ∷ []

-- the names of the words
abbrev pub names_of_words : Given → List Named
names_of_words given = named Input given.params ∷ named Input given.list ∷ evidence_named given.evidence

-- The names of a line: for a chain TABLE STATEMENT, both of which are read; for runs SOURCE INPUTS TABLE STATEMENT, of which the last two
-- are written.
abbrev pub roles_for : Option (List ℕ) → List Role
roles_for (Some evidence) = Input ∷ Input ∷ []
roles_for None = Input ∷ Input ∷ Output ∷ Output ∷ []

-- the names of a line with their roles
abbrev pub with_roles : List Role → List (List ℕ) → List Named
with_roles roles names = map (λ p. named p.0 p.1) (zip roles names)

abbrev pub is_output : Role → Bool
is_output Input = false
is_output Output = true

-- one file, which is written, has both names
abbrev pub is_clash : Named → Named → Bool
is_clash a b = (is_output a.role || is_output b.role) && bytes_eq a.name b.name

-- two of the names clash
abbrev pub has_clash : List Named → Bool
has_clash [] = false
has_clash (name ∷ names) = list_any (is_clash name) names || has_clash names
