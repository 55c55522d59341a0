-- The machine's answer is the tree where no token is refused, and else the least refusal.
use Rattle.masm_parse.proofs.Words.{◌≡◌, ℕ, zero, suc, Bool, true, false, ◌+◌, ◌<◌, ◌≤◌, List, [], ◌∷◌, ◌++◌, length, drop, Option, Some, None, Result, Ok}
use Rattle.masm_parse.proofs.Words.{Err, inl, inr, refl, ap, sym, subst, ◌∙◌, append_assoc, append-nil, arith, length-append, map-append, option_map, Const}
use Rattle.masm_parse.proofs.Words.{Cursor, Token, place_after, text_of, Cause, ParseError, Bad, Memory, Terminal, Symbol, order, Context, known_after}
use Rattle.masm_parse.proofs.Words.{classify, Procedure, Source, Configuration, Top, Inside, Behind, Parse, shift, is_too_deep, advance, moved, step, at_of}
use Rattle.masm_parse.proofs.Words.{ended, parse_from, start, parsed, constants}
use Rattle.std.proofs.lemmas.Bool.Decides.{leb_tells}
use Rattle.masm_tree.specs.declared.refusal.Cause.TheVariants as causes
use Rattle.masm_tree.specs.declared.terminal.Terminal.TheVariants as terminals
use Rattle.masm_parse.specs.Grammar.{none, SpellsParts, IsSource}
use Rattle.masm_parse.specs.Refusals.{symbols_of, terminals_of, source_symbols, FitsAfter, IsTooDeep, HasCause, RefusesToken, Parses, at_first, IsParseAnswer, LeastRefusal, ParsesOnce}
use Rattle.masm_parse.proofs.Complete.{run, run-append, last_configuration, whole_runs, dies}
use Rattle.masm_parse.proofs.Standing.{Standing, StandingIf, kept, Finishes, finish, finished_source, fits}
use Rattle.masm_parse.proofs.Depth.{Counts, CountsIf, counts_kept, deep_stands, deep_found}
use Rattle.masm_parse.proofs.Settling.{Settles, settle_least, none_some}

some_same : {X : Type 0} (a b : X) → Some a ≡ Some b → a ≡ b
some_same a b e = cc

mapped_some : {X Y : Type 0} (f : X → Y) (o : Option X) (y : Y) → option_map f o ≡ Some y → (x : X) × (o ≡ Some x) × (f x ≡ y)
mapped_some f None y e = absurd (none_some y e)
mapped_some f (Some x) y e = (x, refl, some_same (f x) y e)

mapped_none : {X Y : Type 0} (f : X → Y) (o : Option X) → option_map f o ≡ None → o ≡ None
mapped_none f None e = refl
mapped_none f (Some x) e = absurd (none_some (f x) (sym e))

-- two splits of a list at one place are one
same_split : (xs ys : List Symbol) (x y : Symbol) (more others : List Symbol) → xs ++ x ∷ more ≡ ys ++ y ∷ others → length xs ≡ length ys
    → (xs ≡ ys) × (x ≡ y)
same_split [] [] x y more others e n = let same : x ≡ y = cc in (refl, same)
same_split [] (b ∷ ys) x y more others e n = let wrong : ⊥ = omega (arith, n) in absurd wrong
same_split (a ∷ xs) [] x y more others e n = let wrong : ⊥ = omega (arith, n) in absurd wrong
same_split (a ∷ xs) (b ∷ ys) x y more others e n =
    let first : a ≡ b = cc in
    let later : xs ++ x ∷ more ≡ ys ++ y ∷ others = cc in
    let count : length xs ≡ length ys = omega (arith, n) in
    let rest : (xs ≡ ys) × (x ≡ y) = same_split xs ys x y more others later count in
    (ap (λ c. c ∷ xs) first ∙ ap (λ zs. b ∷ zs) rest.0, rest.1)

drop_next : (n : ℕ) (xs : List Token) (y : Token) (ys : List Token) → drop n xs ≡ y ∷ ys → drop (suc n) xs ≡ ys
drop_next zero [] y ys e = cc
drop_next zero (x ∷ xs) y ys e = cc
drop_next (suc n) [] y ys e = cc
drop_next (suc n) (x ∷ xs) y ys e = drop_next n xs y ys e

constants_append : (ts : List Terminal) (t : Terminal) → constants (ts ++ t ∷ []) ≡ constants ts ++ constants (t ∷ [])
constants_append [] t = refl
constants_append (terminals.Const c ∷ ts) t = ap (λ cs. c ∷ cs) (constants_append ts t)
constants_append (x ∷ ts) t = constants_append ts t

known_consts : (context : Context) (t : Terminal) → context.consts ++ constants (t ∷ []) ≡ (known_after context t).consts
known_consts context (terminals.Const c) = refl
known_consts context t = append-nil context.consts

terminals_snoc : (before : List Symbol) (w : Symbol) → terminals_of (before ++ w ∷ []) ≡ terminals_of before ++ w.terminal ∷ []
terminals_snoc before w = map-append (λ symbol. symbol.terminal) before (w ∷ [])

length_snoc : (before : List Symbol) (w : Symbol) → length (before ++ w ∷ []) ≡ suc (length before)
length_snoc before w = length-append before (w ∷ []) ∙ omega arith

-- a refused token is one of the tokens
past : (k : Bool) (ws : List Symbol) (i : ℕ) (c : Cause) → RefusesToken k ws i c → i < length ws
past k ws i c x =
    let count : length ws ≡ length x.before + length (x.symbol ∷ x.more) = ap length x.split ∙ length-append x.before (x.symbol ∷ x.more) in
    omega (arith, count, x.place)

-- a refusal at the place of a token is one of that token
stands_here : (k : Bool) (ws before more : List Symbol) (w : Symbol) (i : ℕ) (c : Cause) → ws ≡ before ++ w ∷ more → i ≡ length before
    → RefusesToken k ws i c → HasCause k (terminals_of before) w c
stands_here k ws before more w i c split place x =
    let same : (x.before ≡ before) × (x.symbol ≡ w) =
    same_split x.before before x.symbol w x.more more (sym x.split ∙ split) (x.place ∙ place) in
    subst (λ z. HasCause k (terminals_of before) z c) same.1 (subst (λ z. HasCause k (terminals_of z) x.symbol c) same.0 x.stands)

-- the last configuration of a source is the one that its tokens lead to
is_last : (k : Bool) (s : Configuration) (procs : List Procedure) (main : Option Procedure) (ts : List Terminal) → run k (Some (Top [])) ts ≡ Some s
    → SpellsParts k procs main ts → s ≡ last_configuration procs main
is_last k s procs main ts so whole = some_same s (last_configuration procs main) (sym so ∙ whole_runs k procs main ts whole)

early_kernel : (s : Configuration) (procs : List Procedure) (main : Option Procedure) (ts : List Terminal) → ((ps : List Procedure) → s ≡ Top ps → ⊥)
    → run true (Some (Top [])) ts ≡ Some s → SpellsParts true procs main ts → ⊥
early_kernel s procs None ts never so whole = never procs (is_last true s procs None ts so whole)
early_kernel s procs (Some main) ts never so whole = whole

early_program : (s : Configuration) (procs : List Procedure) (main : Option Procedure) (ts : List Terminal)
    → ((ps : List Procedure) (m : Procedure) → s ≡ Behind ps m → ⊥)
    → run false (Some (Top [])) ts ≡ Some s → SpellsParts false procs main ts → ⊥
early_program s procs None ts never so whole = whole
early_program s procs (Some main) ts never so whole = never procs main (is_last false s procs (Some main) ts so whole)

-- the source ends early
early : (k : Bool) (end : Cursor) (all : List Token) (before : List Symbol) (s : Configuration)
    → ((procs : List Procedure) (main : Option Procedure) → SpellsParts k procs main (terminals_of before) → ⊥)
    → Standing k s (terminals_of before) → ((i : ℕ) (c : Cause) → RefusesToken k before i c → length before ≤ i) → drop (length before) all ≡ []
    → IsParseAnswer k end all before (Err (Bad end.line end.column causes.Syntax))
early k end all before s never standing clear over =
    let finishes : Finishes k (terminals_of before) = finish k s (terminals_of before) standing in (
      length before,
      record {
        there = inr (
          refl,
          refl,
          record {
            more = finishes.2;
            source = record { consts = constants (terminals_of before ++ finishes.2); procs = finishes.0; main = finishes.1 };
            goes_on = finished_source k (terminals_of before) finishes;
            is_none = λ other x. never other.procs other.main x.whole;
          },
        );
        first_place = clear;
        first_cause = λ c x. let no_token : ⊥ = omega (arith, past k before (length before) c x) in absurd no_token;
      },
      ap (λ ts. at_first ts end) over,
    )

at_end : (k : Bool) (end : Cursor) (all : List Token) (before : List Symbol) (s : Configuration) (cs : List Const)
    → run k (Some (Top [])) (terminals_of before) ≡ Some s → Standing k s (terminals_of before) → constants (terminals_of before) ≡ cs
    → ((i : ℕ) (c : Cause) → RefusesToken k before i c → length before ≤ i) → drop (length before) all ≡ []
    → IsParseAnswer k end all before (ended k end cs s)
at_end true end all before (Top ps) cs so standing consts clear over =
    record {
      spelled = record { consts = sym consts; whole = standing };
      is_clear = λ i c x. omega (arith, past true before i c x, clear i c x);
    }
at_end false end all before (Behind ps main) cs so standing consts clear over =
    record {
      spelled = record { consts = sym consts; whole = standing.1 };
      is_clear = λ i c x. omega (arith, past false before i c x, clear i c x);
    }
at_end true end all before (Inside ps h os b) cs so standing consts clear over =
    early true end all before (Inside ps h os b)
    (λ procs main. early_kernel (Inside ps h os b) procs main (terminals_of before) (λ qs e. cc) so) standing clear over
at_end true end all before (Behind ps m) cs so standing consts clear over =
    early true end all before (Behind ps m)
    (λ procs main. early_kernel (Behind ps m) procs main (terminals_of before) (λ qs e. cc) so) standing clear over
at_end false end all before (Top ps) cs so standing consts clear over =
    early false end all before (Top ps)
    (λ procs main. early_program (Top ps) procs main (terminals_of before) (λ qs m e. cc) so) standing clear over
at_end false end all before (Inside ps h os b) cs so standing consts clear over =
    early false end all before (Inside ps h os b)
    (λ procs main. early_program (Inside ps h os b) procs main (terminals_of before) (λ qs m e. cc) so) standing clear over

-- what settles a token, in the machine's terms
settles : (k : Bool) (r : Parse) (before : List Terminal) (w : Symbol) → run k (Some (Top [])) before ≡ Some r.configuration
    → Standing k r.configuration before
    → Counts r.configuration before
    → Settles w.fault (FitsAfter k before w.terminal → ⊥) (IsTooDeep before w.terminal) (advance k r w.terminal) (moved k r w)
unfolding moved
settles k r before w so standing counts =
    settle_least w.fault (is_too_deep r.configuration w.terminal) (advance k r w.terminal) (FitsAfter k before w.terminal → ⊥)
    (IsTooDeep before w.terminal)
    (λ e f. dies k before f.more r.configuration w.terminal f.source.procs f.source.main so
    (mapped_none _ (shift k r.configuration w.terminal) e) f.spelled.whole)
    (λ now e no. let some : (s : Configuration) × (shift k r.configuration w.terminal ≡ Some s)
    × (record { context = known_after r.context w.terminal; configuration = s } ≡ now) = mapped_some _
    (shift k r.configuration w.terminal) now e in
    no (fits k w.terminal before (finish k some.0 (before ++ w.terminal ∷ [])
    (subst (λ o. StandingIf k o (before ++ w.terminal ∷ [])) some.1 (kept k r.configuration w.terminal before standing)))))
    (deep_stands r.configuration w.terminal before counts)
    (deep_found r.configuration w.terminal before counts)

-- no refusal stands before the next token
still_clear : (k : Bool) (ws before more : List Symbol) (w : Symbol) → ws ≡ before ++ w ∷ more
    → ((c : Cause) → HasCause k (terminals_of before) w c → ⊥)
    → ((i : ℕ) (c : Cause) → RefusesToken k ws i c → length before ≤ i)
    → (i : ℕ) (c : Cause) → RefusesToken k ws i c → length (before ++ w ∷ []) ≤ i
still_clear k ws before more w split none_here clear i c x =
    elim (leb_tells (length before + 1) i) [
      | inl later ↦ omega (arith, length_snoc before w, later.1)
      | inr here ↦
          let place : i ≡ length before = omega (arith, here.1, clear i c x) in
          absurd (none_here c (stands_here k ws before more w i c split place x))
    ]

-- what stands behind the tokens so far
pub record Going (k : Bool) (source : List ℕ) (all : List Token) (ws : List Symbol) (ts : List Token) (before : List Symbol)
    (r : Parse) : Type 0 where
  pub split : ws ≡ before ++ symbols_of k source r.context ts
  pub so : run k (Some (Top [])) (terminals_of before) ≡ Some r.configuration
  pub standing : Standing k r.configuration (terminals_of before)
  pub counts : Counts r.configuration (terminals_of before)
  pub consts : constants (terminals_of before) ≡ r.context.consts
  pub clear : (i : ℕ) (c : Cause) → RefusesToken k ws i c → length before ≤ i
  pub left : drop (length before) all ≡ ts

further : (k : Bool) (source : List ℕ) (all : List Token) (ws : List Symbol) (t : Token) (ts : List Token) (before : List Symbol)
    (r : Parse) (w : Symbol) (s : Configuration)
    → w ≡ classify k r.context (at_of t) (text_of source t)
    → Going k source all ws (t ∷ ts) before r → shift k r.configuration w.terminal ≡ Some s → ((c : Cause) → HasCause k (terminals_of before) w c → ⊥)
    → Going k source all ws ts (before ++ w ∷ []) (record { context = known_after r.context w.terminal; configuration = s })
further k source all ws t ts before r w s is g e none_here =
    let split : ws ≡ before ++ w ∷ symbols_of k source (known_after r.context w.terminal) ts =
    g.split ∙ ap (λ x. before ++ x ∷ symbols_of k source (known_after r.context x.terminal) ts) (sym is) in
    record {
      split = split ∙ sym (append_assoc before (w ∷ []) (symbols_of k source (known_after r.context w.terminal) ts));
      so =
          ap (λ x. run k (Some (Top [])) x) (terminals_snoc before w)
          ∙ run-append k (Some (Top [])) (terminals_of before) (w.terminal ∷ [])
          ∙ ap (λ o. run k o (w.terminal ∷ [])) g.so ∙ e;
      standing =
          subst (λ x. Standing k s x) (sym (terminals_snoc before w))
          (subst (λ o. StandingIf k o (terminals_of before ++ w.terminal ∷ [])) e
          (kept k r.configuration w.terminal (terminals_of before) g.standing));
      counts =
          subst (λ x. Counts s x) (sym (terminals_snoc before w))
          (subst (λ o. CountsIf o (terminals_of before ++ w.terminal ∷ [])) e
          (counts_kept k r.configuration w.terminal (terminals_of before) g.counts));
      consts =
          ap constants (terminals_snoc before w) ∙ constants_append (terminals_of before) w.terminal
          ∙ ap (λ cs. cs ++ constants (w.terminal ∷ [])) g.consts ∙ known_consts r.context w.terminal;
      clear = still_clear k ws before (symbols_of k source (known_after r.context w.terminal) ts) w split none_here g.clear;
      left = ap (λ n. drop n all) (length_snoc before w) ∙ drop_next (length before) all t ts g.left;
    }

abbrev pub LeadsOn : Bool → List ℕ → List Token → List Symbol → Token → List Token → Result Parse Cause → Type 0
LeadsOn k source all ws t ts (Ok now) = IsParseAnswer k (place_after source) all ws (parse_from k source now ts)
LeadsOn k source all ws t ts (Err cause) = IsParseAnswer k (place_after source) all ws (Err (Bad t.line t.column cause))

led : (k : Bool) (source : List ℕ) (all : List Token) (ws : List Symbol) (t : Token) (ts : List Token) (res : Result Parse Cause)
    → LeadsOn k source all ws t ts res
    → IsParseAnswer k (place_after source) all ws (elim res [ Ok now ↦ parse_from k source now ts | Err cause ↦ Err (Bad t.line t.column cause) ])
led k source all ws t ts (Ok now) x = x
led k source all ws t ts (Err cause) x = x

-- a token that is refused
refused : (k : Bool) (source : List ℕ) (all : List Token) (ws : List Symbol) (t : Token) (ts : List Token) (before : List Symbol)
    (r : Parse) (w : Symbol) (cause : Cause)
    → w ≡ classify k r.context (at_of t) (text_of source t)
    → Going k source all ws (t ∷ ts) before r → HasCause k (terminals_of before) w cause
    → ((c : Cause) → HasCause k (terminals_of before) w c → order cause ≤ order c)
    → IsParseAnswer k (place_after source) all ws (Err (Bad t.line t.column cause))
refused k source all ws t ts before r w cause is g stands least =
    let split : ws ≡ before ++ w ∷ symbols_of k source (known_after r.context w.terminal) ts =
    g.split ∙ ap (λ x. before ++ x ∷ symbols_of k source (known_after r.context x.terminal) ts) (sym is) in (
      length before,
      record {
        there = inl (record {
          before = before;
          symbol = w;
          more = symbols_of k source (known_after r.context w.terminal) ts;
          split = split;
          place = refl;
          stands = stands;
        });
        first_place = g.clear;
        first_cause =
            λ c x. least c (stands_here k ws before (symbols_of k source (known_after r.context w.terminal) ts) w (length before) c
            split refl x);
      },
      ap (λ x. at_first x (place_after source)) g.left,
    )

-- the token decides: it is refused, or the machine goes on
chosen : (k : Bool) (source : List ℕ) (all : List Token) (ws : List Symbol) (t : Token) (ts : List Token) (before : List Symbol)
    (r : Parse) (w : Symbol)
    → w ≡ classify k r.context (at_of t) (text_of source t)
    → Going k source all ws (t ∷ ts) before r
    → ((later : List Symbol) (now : Parse) → Going k source all ws ts later now → IsParseAnswer k (place_after source) all ws (parse_from k source now ts))
    → (res : Result Parse Cause)
    → Settles w.fault (FitsAfter k (terminals_of before) w.terminal → ⊥) (IsTooDeep (terminals_of before) w.terminal) (advance k r w.terminal) res
    → LeadsOn k source all ws t ts res
chosen k source all ws t ts before r w is g more (Ok now) (e, none_here) =
    let some : (s : Configuration) × (shift k r.configuration w.terminal ≡ Some s)
    × (record { context = known_after r.context w.terminal; configuration = s } ≡ now) = mapped_some _
    (shift k r.configuration w.terminal) now e in
    subst (λ x. IsParseAnswer k (place_after source) all ws (parse_from k source x ts)) some.2
    (more (before ++ w ∷ []) (record { context = known_after r.context w.terminal; configuration = some.0 })
    (further k source all ws t ts before r w some.0 is g some.1 none_here))
chosen k source all ws t ts before r w is g more (Err cause) (stands, least) =
    refused k source all ws t ts before r w cause is g stands least

goes : (k : Bool) (source : List ℕ) (all : List Token) (ws : List Symbol) (ts : List Token) (before : List Symbol) (r : Parse)
    → Going k source all ws ts before r → IsParseAnswer k (place_after source) all ws (parse_from k source r ts)
unfolding step
goes k source all ws [] before r g =
    let same : ws ≡ before = g.split ∙ append-nil before in
    subst (λ x. IsParseAnswer k (place_after source) all x (ended k (place_after source) r.context.consts r.configuration)) (sym same)
    (at_end k (place_after source) all before r.configuration r.context.consts g.so g.standing g.consts
    (subst (λ x. (i : ℕ) (c : Cause) → RefusesToken k x i c → length before ≤ i) same g.clear) g.left)
goes k source all ws (t ∷ ts) before r g =
    led k source all ws t ts (step k source r t)
    (chosen k source all ws t ts before r (classify k r.context (at_of t) (text_of source t)) refl g
    (λ later now x. goes k source all ws ts later now x) (step k source r t)
    (settles k r (terminals_of before) (classify k r.context (at_of t) (text_of source t)) g.so g.standing g.counts))

pub least_refusal : LeastRefusal
unfolding parsed
least_refusal k source tokens =
    goes k source tokens (source_symbols k source tokens) tokens [] start
    (record {
      split = refl;
      so = refl;
      standing = none;
      counts = refl;
      consts = refl;
      clear = λ i c x. omega arith;
      left = refl;
    })

-- the parts of a last configuration
parts_same : (ps qs : List Procedure) (m n : Option Procedure) → last_configuration ps m ≡ last_configuration qs n → (ps ≡ qs) × (m ≡ n)
parts_same ps qs None None e = (cc, refl)
parts_same ps qs None (Some n) e = let wrong : ⊥ = cc in absurd wrong
parts_same ps qs (Some m) None e = let wrong : ⊥ = cc in absurd wrong
parts_same ps qs (Some m) (Some n) e = (cc, cc)

-- tokens spell one source
same_source : (k : Bool) (ts : List Terminal) (a b : Source) → IsSource k a ts → IsSource k b ts → a ≡ b
same_source k ts a b x y =
    let parts : (a.procs ≡ b.procs) × (a.main ≡ b.main) =
    parts_same a.procs b.procs a.main b.main
    (some_same (last_configuration a.procs a.main) (last_configuration b.procs b.main)
    (sym (whole_runs k a.procs a.main ts x.whole) ∙ whole_runs k b.procs b.main ts y.whole)) in
    let consts : a.consts ≡ b.consts = x.consts ∙ sym y.consts in
    λ i. record { consts = consts i; procs = parts.0 i; main = parts.1 i }

once : (k : Bool) (end : Cursor) (all : List Token) (ws : List Symbol) (tree : Source) (res : Result Source ParseError)
    → IsParseAnswer k end all ws res → Parses k ws tree → res ≡ Ok tree
once k end all ws tree (Ok other) a x = ap Ok (same_source k (terminals_of ws) other tree a.spelled x.spelled)
once k end all ws tree (Err Memory) a x = absurd a
once k end all ws tree (Err (Bad line column cause)) (i, least, place) x =
    elim least.there [
      | inl r ↦ absurd (x.is_clear i cause r)
      | inr e ↦ absurd (e.2.is_none tree x.spelled)
    ]

pub parses_once : ParsesOnce
parses_once k source tokens tree x =
    once k (place_after source) tokens (source_symbols k source tokens) tree (parsed k source tokens) (least_refusal k source tokens) x
