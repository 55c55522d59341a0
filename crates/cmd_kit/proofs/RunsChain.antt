-- What `runs` wrote is a good chain: each statement follows the one before, and each trace is accepted for it.
use Rattle.std.proofs.lemmas.Bool.{false_from_ne_true}
use Rattle.cmd_kit.proofs.Words.{◌≡◌, ◌≢◌, ℕ, suc, ◌+◌, ◌-◌, ◌≤◌, false, List, [], ◌∷◌, ◌++◌, length, length-append, map, arith, append-nil}
use Rattle.cmd_kit.proofs.Words.{Option, Some, None, Ok, refl, sym, ap, subst, ◌∙◌, get, insert, AllByRecursion, flat_map, join_with_byte, list_all, list_any}
use Rattle.cmd_kit.proofs.Words.{IfSome, bytes_eq, and_parts, length-map, bytes_eq-Decides, is_file_name, least_depth, start, Input, Output, first_stack}
use Rattle.cmd_kit.proofs.Words.{IsLine, IsList, line_text, list_text, reads-its-text, Stated, statement_of, Files, ShelfState, SinkState, get_beside}
use Rattle.cmd_kit.proofs.Words.{get_put, ChainLink, chain_given, chain_link, FollowsOn, IsGoodChain, LinksSay, AreLinksApart, IsBeside, IsUnwritten, RunLink}
use Rattle.cmd_kit.proofs.Words.{run_link, runs_given, Judged}
use Rattle.run_chain.specs.Names.{Named, has_clash, is_clash, named, roles_for, with_roles}
use Rattle.cmd_kit.specs.RunsLaws.{HoldWritten, LinkWritten, LinksWritten, none_yet, one_more, RunsStand, checked_names, claim_of_link, list_of_written}
use Rattle.cmd_kit.proofs.RunsNames.{is_list, lines_apart, params_unwritten}

-- a name that no link writes stands as it stood
stays : (constants : List ℕ) (name : List ℕ) (links : List RunLink) (left behind : Option (List ℕ)) (m n : Files)
    → LinksWritten constants links left m behind n → AllByRecursion (IsUnwritten name) links → get n name ≡ get m name
stays constants name [] left behind m n none_yet apart = refl
stays constants name (link ∷ links) left behind m n (one_more _ last table statement written rest) apart =
    stays constants name links (Some last.core.stack) behind (insert (insert m link.outputs.table table) link.outputs.statement statement) n rest apart.1
    ∙ get_beside (insert m link.outputs.table table) link.outputs.statement statement name apart.0.statement
    ∙ get_beside m link.outputs.table table name apart.0.table

-- what is beside a name is not written under it
unwritten : (name : List ℕ) (links : List RunLink) → AllByRecursion (IsBeside name) links → AllByRecursion (IsUnwritten name) links
unwritten name [] beside = tt
unwritten name (link ∷ links) beside = (record { table = beside.0.table; statement = beside.0.statement }, unwritten name links beside.1)

-- the files of a link for a chain
abbrev chained : RunLink → ChainLink
chained link = record { table = link.outputs.table; statement = link.outputs.statement }

abbrev Held : Files → Files → RunLink → Type 0
Held n h link = (get h link.outputs.table ≡ get n link.outputs.table) × (get h link.outputs.statement ≡ get n link.outputs.statement)

-- Each claim has sixteen outputs at least.
module _ (full : (bytes : List ℕ) (claim : Stated) → statement_of bytes ≡ Ok claim → least_depth ≤ length claim.outputs) where
  -- so many cells are a stack with which a run starts
  is_whole : (cells : List ℕ) → 16 ≤ length cells → cells ≡ first_stack cells
  unfolding start
  is_whole cells many = let none : 16 - length cells ≡ 0 = omega (arith, many) in rw none (sym (append-nil cells))

  follows : (left : Option (List ℕ)) (constants : List ℕ) (link : RunLink) (m : Files) (last : _) (table statement : List ℕ)
      (written : LinkWritten m constants left link last table statement) → IfSome left (λ cells. 16 ≤ length cells)
      → FollowsOn left (claim_of_link constants written.ran.program written.ran.begin last)
  follows None constants link m last table statement written many = tt
  follows (Some cells) constants link m last table statement written many =
      is_whole cells many ∙ ap (λ g. first_stack g.stack) (sym written.ran.begins.1)

  links_say : (constants : List ℕ) (links : List RunLink) (left behind : Option (List ℕ)) (m n h : Files)
      → LinksWritten constants links left m behind n → AreLinksApart links → AllByRecursion (Held n h) links
      → IfSome left (λ cells. 16 ≤ length cells) → (judged : List Judged) × LinksSay h constants left (map chained links) judged
  links_say constants [] left behind m n h none_yet apart held many = ([], tt)
  links_say constants (link ∷ links) left behind m n h (one_more _ last table statement written rest) apart held many =
      let claim : Stated = claim_of_link constants written.ran.program written.ran.begin last in
      let now : Files = insert (insert m link.outputs.table table) link.outputs.statement statement in
      let deep = full statement claim written.claims.reads in
      let later = links_say constants links (Some last.core.stack) behind now n h rest apart.3 held.1 deep in
      let table_stands = held.0.0 ∙ stays constants link.outputs.table links (Some last.core.stack) behind now n rest
      (unwritten link.outputs.table links apart.1)
      ∙ get_beside (insert m link.outputs.table table) link.outputs.statement statement link.outputs.table apart.0
      ∙ get_put m link.outputs.table table in
      let statement_stands = held.0.1 ∙ stays constants link.outputs.statement links (Some last.core.stack) behind now n rest
      (unwritten link.outputs.statement links apart.2)
      ∙ get_put (insert m link.outputs.table table) link.outputs.statement statement in (
        record { claim = claim; trace = written.shows.trace } ∷ later.0,
        (
          record {
            table_says = record { bytes = table; stands = table_stands; short = written.shows.short; says = written.shows.reads };
            statement_says = record { bytes = statement; stands = statement_stands; short = written.claims.short; says = written.claims.reads };
            follows = follows left constants link m last table statement written many;
            found = λ p is. written.accepted p is.params is.statement;
          },
          later.1,
        ),
      )

-- ---- the list of the files

-- names that are read alone do not clash
module _ (evidence : List ℕ) where
  abbrev input_lines : List (List (List ℕ)) → List Named
  input_lines lines = flat_map (with_roles (roles_for (Some evidence))) lines

  same_name : (a b : List ℕ) → a ≢ b → bytes_eq a b ≡ false
  same_name a b other = false_from_ne_true (bytes_eq a b) (λ is. other ((bytes_eq-Decides a b).0 is))

  abbrev written : List (List (List ℕ)) → List (List (List ℕ))
  written lines = map (λ names. checked_names (run_link names)) lines

  no_input_clashes : (name : List ℕ) (lines : List (List (List ℕ))) → list_any (is_clash (named Input name)) (input_lines (written lines)) ≡ false
  no_input_clashes name [] = refl
  no_input_clashes name (names ∷ lines) = no_input_clashes name lines

  inputs_apart : (lines : List (List (List ℕ))) → has_clash (input_lines (written lines)) ≡ false
  inputs_apart [] = refl
  inputs_apart (names ∷ lines) =
      let link = run_link names in
      rw (no_input_clashes link.outputs.table lines, no_input_clashes link.outputs.statement lines, inputs_apart lines) refl

  evidence_apart : (lines : List (List (List ℕ))) → AllByRecursion (IsUnwritten evidence) (map run_link lines)
      → list_any (is_clash (named Output evidence)) (input_lines (written lines)) ≡ false
  evidence_apart [] apart = refl
  evidence_apart (names ∷ lines) apart =
      rw (same_name evidence _ apart.0.table, same_name evidence _ apart.0.statement, evidence_apart lines apart.1) refl

  all_apart : (params checked : List ℕ) (lines : List (List (List ℕ))) → params ≢ evidence → checked ≢ evidence
      → AllByRecursion (IsUnwritten evidence) (map run_link lines)
      → has_clash (named Input params ∷ named Input checked ∷ named Output evidence ∷ input_lines (written lines)) ≡ false
  all_apart params checked lines one other apart =
      rw (
        same_name params evidence one,
        same_name checked evidence other,
        no_input_clashes params lines,
        no_input_clashes checked lines,
        evidence_apart lines apart,
        inputs_apart lines,
      ) refl

  two_of_four : (lines : List (List (List ℕ))) → AllByRecursion (IsLine 4) lines → AllByRecursion (IsLine 2) (written lines)
  two_of_four [] each = tt
  two_of_four ((s ∷ i ∷ t ∷ u ∷ []) ∷ lines) each =
      let a = and_parts (is_file_name s) (list_all is_file_name (i ∷ t ∷ u ∷ [])) each.0.names_of_files in
      let b = and_parts (is_file_name i) (list_all is_file_name (t ∷ u ∷ [])) a.1 in
      (record { many = refl; names_of_files = b.1 }, two_of_four lines each.1)
  two_of_four (names ∷ lines) each = absurd (omega (arith, each.0.many))

  some_written : (lines : List (List (List ℕ))) → lines ≢ [] → written lines ≢ []
  some_written [] some = λ e. some refl
  some_written (names ∷ lines) some = λ e. absurd (cc (e))

  shorter : (lines : List (List (List ℕ))) → AllByRecursion (IsLine 4) lines → length (list_text (written lines)) ≤ length (list_text lines)
  shorter [] each = omega arith
  shorter ((s ∷ i ∷ t ∷ u ∷ []) ∷ lines) each =
      let rest = shorter lines each.1 in
      let a = length-append (line_text (t ∷ u ∷ [])) (list_text (written lines)) in
      let b = length-append (line_text (s ∷ i ∷ t ∷ u ∷ [])) (list_text lines) in
      let c = line_length (t ∷ u ∷ []) in
      let d = line_length (s ∷ i ∷ t ∷ u ∷ []) in
      let e = joined_two t u in
      let f = joined_four s i t u in
      omega (arith, rest, a, b, c, d, e, f)
    where
      line_length : (names : List (List ℕ)) → length (line_text names) ≡ length (join_with_byte 32 names) + 1
      line_length names = length-append (join_with_byte 32 names) (10 ∷ [])

      joined_two : (t u : List ℕ) → length (join_with_byte 32 (t ∷ u ∷ [])) ≡ length t + suc (length u)
      joined_two t u = length-append t (32 ∷ u)

      joined_four : (s i t u : List ℕ) → length (join_with_byte 32 (s ∷ i ∷ t ∷ u ∷ []))
          ≡ length s + suc (length i + suc (length t + suc (length u)))
      joined_four s i t u =
          length-append s (32 ∷ (i ++ (32 ∷ (t ++ (32 ∷ u)))))
          ∙ ap (λ k. length s + suc k) (length-append i (32 ∷ (t ++ (32 ∷ u))) ∙ ap (λ k. length i + suc k) (length-append t (32 ∷ u)))
  shorter (names ∷ lines) each = absurd (omega (arith, each.0.many))

  same_links : (lines : List (List (List ℕ))) → map chained (map run_link lines) ≡ map chain_link (written lines)
  same_links [] = refl
  same_links (names ∷ lines) = ap (λ links. chained (run_link names) ∷ links) (same_links lines)

all_held : (n h : Files) (lines : List (List (List ℕ)))
    → AllByRecursion (λ names. AllByRecursion (λ name. get h name ≡ get n name) (checked_names (run_link names))) lines
    → AllByRecursion (Held n h) (map run_link lines)
all_held n h [] stay = tt
all_held n h (names ∷ lines) stay = ((stay.0.0, stay.0.1.0), all_held n h lines stay.1)

-- the files that `runs` left are a good chain, wherever they are held
pub good_chain : ((bytes : List ℕ) (claim : Stated) → statement_of bytes ≡ Ok claim → least_depth ≤ length claim.outputs)
    → (params list checked evidence : List ℕ) (m h : Files) (mid : ShelfState) (a b : SinkState) (run : RunsStand params list m mid a b)
    → HoldWritten params checked run.good.lines run.files_now h → AllByRecursion (IsUnwritten evidence) (map run_link run.good.lines)
    → params ≢ evidence → checked ≢ evidence → IsGoodChain h params checked evidence
good_chain full params list checked evidence m h mid a b run hold apart one other =
    let good = run.good in
    let lines = good.lines in
    let l = good.list_says in
    let p = good.params_say in
    let says = is_list params list l.bytes lines l.says in
    let text = ((reads-its-text (runs_given params list) l.bytes lines).0 l.says).1 in
    let short = shorter evidence lines says.each in
    let whole = l.short in
    let chain = links_say full good.constants (map run_link lines) None run.left m run.files_now h run.written
    (lines_apart params list l.bytes lines l.says) (all_held run.files_now h lines hold.outputs_stay) tt in
    let is_chain : IsList (chain_given params checked evidence) (written evidence lines) = record {
      some = some_written evidence lines says.some;
      few = let few = says.few in let count = length-map lines (λ (names : List (List ℕ)). checked_names (run_link names)) in omega (arith, few, count);
      each = two_of_four evidence lines says.each;
      apart = all_apart evidence params checked lines one other apart;
    } in
    record {
      constants = good.constants;
      lines = written evidence lines;
      judged = chain.0;
      params_say =
          record {
            bytes = p.bytes;
            stands = hold.params_stay
                ∙ stays good.constants params (map run_link lines) None run.left m run.files_now run.written
                (params_unwritten params list l.bytes lines l.says) ∙ p.stands;
            short = p.short;
            says = p.says;
          };
      list_says =
          record {
            bytes = list_of_written lines;
            stands = hold.list_stands;
            short = let long = ap length text in omega (arith, short, whole, long);
            says = (reads-its-text (chain_given params checked evidence) (list_of_written lines) (written evidence lines)).1 (is_chain, refl);
          };
      links_say = subst (λ links. LinksSay h good.constants None links chain.0) (same_links evidence lines) chain.1;
    }
