-- The source and the advice that are made for a number of turns (docs/FORMATS.md, "Workloads").
use Rattle.std.specs.Prelude.{ℕ, zero, suc, ◌*◌, List, [], ◌∷◌, ◌++◌, codes, decimal}

-- so many turns may be asked for
abbrev pub most_turns : ℕ
most_turns = 1000

-- the lines before the number of turns, and what stands before it in its own line
unfoldable pub text_before : List ℕ
text_before =
    codes "proc.bump\n"
    ++ codes "  push.1 u32wrapping_add\n"
    ++ codes "end\n"
    ++ codes "begin\n"
    ++ codes "  push.0\n"
    ++ codes "  push."

-- the end of that line, and the lines behind it
unfoldable pub text_behind : List ℕ
text_behind =
    codes "\n"
    ++ codes "  dup.0 neq.0\n"
    ++ codes "  while.true\n"
    ++ codes "    dup.0 movup.2 u32wrapping_add\n"
    ++ codes "    adv_push.1 u32checked_xor\n"
    ++ codes "    call.bump\n"
    ++ codes "    dup.0 is_odd\n"
    ++ codes "    if.true\n"
    ++ codes "      push.1 u32checked_xor\n"
    ++ codes "    else\n"
    ++ codes "      push.2 u32checked_xor\n"
    ++ codes "    end\n"
    ++ codes "    dup.0 mem_store.7\n"
    ++ codes "    padw padw padw hperm dropw dropw dropw\n"
    ++ codes "    swap sub.1\n"
    ++ codes "    dup.0 neq.0\n"
    ++ codes "  end\n"
    ++ codes "  drop\n"
    ++ codes "end\n"

-- the source of so many turns
unfoldable pub source_text : ℕ → List ℕ
source_text turns = text_before ++ decimal turns ++ text_behind

-- the squares 1, 4, .. of the numbers from 1 to n
abbrev pub squares : ℕ → List ℕ
squares zero = []
squares (suc n) = squares n ++ suc n * suc n ∷ []
