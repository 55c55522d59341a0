-- What the kinds mean that tuples of some buses have (docs/CONSTRAINTS.md, "Buses").
use Rattle.std.specs.Prelude.{ℕ, ◌==◌, if◌then◌else◌, List, [], ◌∷◌, ◌++◌, map, codes, decimal, slice_get, Option, Some, None}
use Rattle.buses.specs.declared.bus.Bus.{Bus}
use Rattle.buses.specs.declared.bus.Bus.TheVariants as bus
use Rattle.show_constraints.specs.declared.meanings.Kinds as declared

-- where in a tuple its kind stands, that field's name, and the kinds with what each means
pub record Kinds : Type 0 where
  pub place : ℕ
  pub name : List ℕ
  pub meanings : List (ℕ × List ℕ)

-- as the code has them
abbrev pub kinds_as_said : declared.Kinds → Kinds
kinds_as_said kinds =
    record { place = kinds.place; name = kinds.name.now; meanings = map (λ meaning. (meaning.0, meaning.1.now)) kinds.meanings.now }

abbrev pub block_kinds : Kinds
block_kinds = record {
  place = 2;
  name = codes "kind";
  meanings =
      (0, codes "a JOIN, a SPLIT, a DYN, or a LOOP with s0 = 0")
      ∷ (1, codes "a LOOP with s0 = 1")
      ∷ (2, codes "a SPAN")
      ∷ (3, codes "a CALL")
      ∷ (4, codes "a SYSCALL")
      ∷ [];
}

abbrev pub child_kinds : Kinds
child_kinds = record {
  place = 5;
  name = codes "more";
  meanings = (0, codes "a child behind which no block starts") ∷ (1, codes "the first child of a JOIN, behind which the second one starts") ∷ [];
}

abbrev pub hash_kinds : Kinds
hash_kinds = record {
  place = 0;
  name = codes "tag";
  meanings =
      (1, codes "the beginning of a hash")
      ∷ (2, codes "a permutation with which a hash goes on")
      ∷ (3, codes "the end of a hash")
      ∷ (4, codes "the beginning of a permutation of HPERM")
      ∷ (5, codes "the end of a permutation of HPERM")
      ∷ [];
}

abbrev pub access_kinds : Kinds
access_kinds = record {
  place = 0;
  name = codes "kind";
  meanings =
      (0, codes "a word that is read") ∷ (1, codes "a word that is written") ∷ (2, codes "a word of which element 0 is written") ∷ [];
}

-- of the buses whose tuples have a kind
unfoldable pub kinds_of : Bus → Option Kinds
kinds_of bus.Blocks = Some block_kinds
kinds_of bus.Children = Some child_kinds
kinds_of bus.Loops = None
kinds_of bus.Groups = None
kinds_of bus.Overflow = None
kinds_of bus.Hasher = Some hash_kinds
kinds_of bus.Bitwise = None
kinds_of bus.Memory = Some access_kinds
kinds_of bus.Range = None
kinds_of bus.Kernel = None

-- what a kind means, where it is one of these
unfoldable pub meaning_in : ℕ → List (ℕ × List ℕ) → Option (List ℕ)
meaning_in kind [] = None
meaning_in kind ((known, meaning) ∷ meanings) = if kind == known then Some meaning else meaning_in kind meanings

-- a kind by the name of its field, with what it means
abbrev pub told_meaning : List ℕ → ℕ → Option (List ℕ) → List ℕ
told_meaning name kind None = []
told_meaning name kind (Some meaning) = codes "where " ++ name ++ codes " " ++ decimal kind ++ codes " is " ++ meaning ++ codes "\n"

abbrev pub kind_text : Kinds → Option ℕ → List ℕ
kind_text kinds None = []
kind_text kinds (Some kind) = told_meaning kinds.name kind (meaning_in kind kinds.meanings)

-- what the kind of a tuple means, where it has one
abbrev pub meaning_line : Option Kinds → List ℕ → List ℕ
meaning_line None tuple = []
meaning_line (Some kinds) tuple = kind_text kinds (slice_get tuple kinds.place)
