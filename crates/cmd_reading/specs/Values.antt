-- What the texts of words give: names of files, and numbers of a range.
use Rattle.std.specs.Prelude.{ℕ, List, Option, option_and_then, option_map, unwrap_or}
use Rattle.cmd_words.specs.Words.{file_name_of, number_of_word, optional}
use Rattle.cmd_reading.specs.Meaning.{text_at}

-- the file name at a place
abbrev pub name_in : ℕ → List (Option (List ℕ)) → Option (List ℕ)
name_in i texts = option_and_then file_name_of (text_at i texts)

-- the number at a place
abbrev pub number_in : ℕ → ℕ → ℕ → List (Option (List ℕ)) → Option ℕ
number_in least most i texts = option_and_then (number_of_word least most) (text_at i texts)

-- the file name that an option gives, and none where its text is no file name
abbrev pub option_name : ℕ → List (Option (List ℕ)) → Option (Option (List ℕ))
option_name i texts = optional file_name_of (text_at i texts)

-- the number that an option gives, and none where its text is no such number
abbrev pub option_number : ℕ → ℕ → ℕ → List (Option (List ℕ)) → Option (Option ℕ)
option_number least most i texts = optional (number_of_word least most) (text_at i texts)

-- the same, and the greatest such number where the option does not stand
abbrev pub option_number_or_most : ℕ → ℕ → ℕ → List (Option (List ℕ)) → Option ℕ
option_number_or_most least most i texts = option_map (λ number. unwrap_or number most) (option_number least most i texts)
