-- A row of a block, and what the row behind it keeps of the function, the frame pointer and the blocks.
use Rattle.complete_rows.proofs.Words
use Words.{◌≡◌, ℕ, ◌+◌, ◌-◌, ◌^◌, ◌<◌, ◌≤◌, Bool, true, false, not, ◌||◌, eqb, List, [], ◌∷◌, ◌++◌, length, slice_index, None, refl, sym, ap, ◌∙◌, arith, lit<}
use Words.{eqb-true, ltb-true, ne_eqb, get_or_append_left, most_cycles, Core, zero_word, ◌⊞◌, ◌⊟◌, code_of, is_ordinary_op, is_start_op, kind_of, Seen, bit_of}
use Words.{Op, h, s, sys, is_op, is_call_op, never, off, Decoder, address_of, Shows, ordinary-below}
use Words.ops
use Rattle.vm_ops.specs.Values.{fmp_after, trap_of, unless}
use Rattle.vm_ops.specs.declared.cause.Cause.TheVariants.{NotInSyscall}
use Rattle.vm_ops.proofs.FrameLemmas.{fmp_after-same}
use Rattle.facts_main.specs.Blocks.{IsBlockRow, KeepsBlock, keeps_block, keeps_frame, level_after}
use Rattle.complete_rows.proofs.AgreeLemmas.{HasFlags, has_flags}
use Rattle.complete_rows.proofs.ColumnLemmas.{below_four}
use Rattle.vm_ops.proofs.CodeLemmas.{code_of-different, ordinary-starts-none}

-- ---- an ordinary operation is none of blocks

apart_from : (op other : Op) → is_ordinary_op op ≡ true → 70 ≤ code_of other → is_op op other ≡ false
apart_from op other is high =
    let low : code_of op < 70 = ltb-true (code_of op) 70 (sym (ordinary-below op) ∙ is) in ne_eqb (code_of op) (code_of other) (λ e. omega (arith, low, high, e))

no_start : (op : Op) → is_ordinary_op op ≡ true → is_start_op op ≡ false
no_start op is = ordinary-starts-none (kind_of op) is

pub record IsNoBlock (op : Op) : Type 0 where
  pub start : is_start_op op ≡ false
  pub split : is_op op ops.Split ≡ false
  pub loop : is_op op ops.Loop ≡ false
  pub span : is_op op ops.Span ≡ false
  pub call : is_op op ops.Call ≡ false
  pub syscall : is_op op ops.Syscall ≡ false
  pub dyn : is_op op ops.Dyn ≡ false
  pub end : is_op op ops.End ≡ false
  pub again : is_op op ops.Repeat ≡ false
  pub respan : is_op op ops.Respan ≡ false
  pub halt : is_op op ops.Halt ≡ false

pub no_block : (op : Op) → is_ordinary_op op ≡ true → IsNoBlock op
no_block op is = record {
  start = no_start op is;
  split = apart_from op ops.Split is (omega arith);
  loop = apart_from op ops.Loop is (omega arith);
  span = apart_from op ops.Span is (omega arith);
  call = apart_from op ops.Call is (omega arith);
  syscall = apart_from op ops.Syscall is (omega arith);
  dyn = apart_from op ops.Dyn is (omega arith);
  end = apart_from op ops.End is (omega arith);
  again = apart_from op ops.Repeat is (omega arith);
  respan = apart_from op ops.Respan is (omega arith);
  halt = apart_from op ops.Halt is (omega arith);
}

pub op_same : (a b : Op) → is_op a b ≡ true → a ≡ b
op_same a b is = code_of-different a b (eqb-true (code_of a) (code_of b) is)

-- ---- a row by itself

either : {A : Type 0} (a b : Bool) → a ≡ false → b ≡ false → a || b ≡ true → A
either a b not_a not_b is = let none : a || b ≡ false = rw (not_a, not_b) refl in never (sym is ∙ none)

none_of : {A : Type 0} (a b c d : Bool) → a ≡ false → b ≡ false → c ≡ false → d ≡ false → a || (b || c) || d ≡ true → A
none_of a b c d not_a not_b not_c not_d is =
    let none : a || (b || c) || d ≡ false = rw (not_a, not_b, not_c, not_d) refl in never (sym is ∙ none)

caller_inside : (op : Op) (v : Seen) → is_op op ops.Caller ≡ true → trap_of op v ≡ None → v.in_syscall ≡ true
unfolding trap_of
caller_inside ops.Caller v is none = go v.in_syscall none
  where
    go : (b : Bool) → unless b NotInSyscall ≡ None → b ≡ true
    go true e = refl
    go false e = cc
caller_inside op v is none = off is

pub ordinary_row : (op : Op) (x : List ℕ) (v : Seen) → is_ordinary_op op ≡ true → trap_of op v ≡ None → sys x ≡ bit_of v.in_syscall
    → IsBlockRow op x
ordinary_row op x v is none shows =
    let apart = no_block op is in
    record {
      condition = λ b. either (is_op op ops.Split) (is_op op ops.Loop) apart.split apart.loop b;
      again = λ b. never (sym b ∙ apart.again);
      ends = λ b. never (sym b ∙ apart.end);
      single = λ b. none_of (is_op op ops.Loop) (is_op op ops.Call) (is_op op ops.Syscall) (is_op op ops.Dyn) apart.loop apart.call
          apart.syscall apart.dyn b;
      outside = λ b. either (is_op op ops.Call) (is_op op ops.Syscall) apart.call apart.syscall b;
      inside = λ b. shows ∙ ap bit_of (caller_inside op v b none);
      closed = λ b. never (sym b ∙ apart.halt);
    }

-- the elements behind a digest, as a row shows them
pub behind_digest : (digest : List ℕ) (i j k l : ℕ) (x : List ℕ) → length digest ≡ 4
    → ((n : ℕ) → n < 8 → h x n ≡ slice_index (digest ++ i ∷ j ∷ k ∷ l ∷ []) n)
    → (h x 4 ≡ i) × (h x 5 ≡ j) × (h x 6 ≡ k) × (h x 7 ≡ l)
behind_digest digest i j k l x size hash =
    let has : HasFlags (digest ++ i ∷ j ∷ k ∷ l ∷ []) i j k l = has_flags digest i j k l size in
    (hash 4 (lit< tt) ∙ has.loop, hash 5 (lit< tt) ∙ has.span, hash 6 (lit< tt) ∙ has.call, hash 7 (lit< tt) ∙ has.syscall)

pub four_zeros : (digest x : List ℕ) → length digest ≡ 4 → ((n : ℕ) → n < 8 → h x n ≡ slice_index (digest ++ zero_word) n)
    → (j : ℕ) → j < 4 → h x (4 + j) ≡ 0
four_zeros digest x size hash =
    let z = behind_digest digest 0 0 0 0 x size hash in below_four (λ j. h x (4 + j) ≡ 0) z.0 z.1 z.2 z.3

pub end_row : (digest : List ℕ) (i j k l : ℕ) (x : List ℕ) → length digest ≡ 4
    → ((n : ℕ) → n < 8 → h x n ≡ slice_index (digest ++ i ∷ j ∷ k ∷ l ∷ []) n)
    → i + j + k + l ≤ 1 → (i ≡ 1 → s x 0 ≡ 0) → IsBlockRow ops.End x
end_row digest i j k l x size hash most stops =
    let z = behind_digest digest i j k l x size hash in
    record {
      condition = off;
      again = off;
      ends = λ b. record {
        bits = below_four (λ n. h x (4 + n) < 2) (omega (arith, z.0, most)) (omega (arith, z.1, most)) (omega (arith, z.2, most))
            (omega (arith, z.3, most));
        most = rw (z.0, z.1, z.2, z.3) most;
        stops = λ e. stops (sym z.0 ∙ e);
      };
      single = off;
      outside = off;
      inside = off;
      closed = off;
    }

-- a row of none of END, CALLER and HALT
pub start_row : {op : Op} {x : List ℕ} → is_op op ops.End ≡ false → is_op op ops.Caller ≡ false → is_op op ops.Halt ≡ false
    → (is_op op ops.Split || is_op op ops.Loop ≡ true → s x 0 < 2) → (is_op op ops.Repeat ≡ true → s x 0 ≡ 1)
    → (is_op op ops.Loop || is_call_op op || is_op op ops.Dyn ≡ true → (j : ℕ) → j < 4 → h x (4 + j) ≡ 0) → (is_call_op op ≡ true → sys x ≡ 0)
    → IsBlockRow op x
start_row no_end no_caller no_halt condition again single outside = record {
  condition = condition;
  again = again;
  ends = λ b. never (sym b ∙ no_end);
  single = single;
  outside = outside;
  inside = λ b. never (sym b ∙ no_caller);
  closed = λ b. never (sym b ∙ no_halt);
}

-- ---- the row behind it

-- the state behind is in the same function
abbrev pub SameFunction : Core → Core → Type 0
SameFunction b c = (b.context ≡ c.context) × (b.in_syscall ≡ c.in_syscall) × (b.digest ≡ c.digest)

pub kept_block : {op next : Op} {x y : List ℕ} {d after : Decoder} {c b : Core} → Shows op d c x → Shows next after b y
    → is_op op ops.Call ≡ false → is_op op ops.Syscall ≡ false → SameFunction b c
    → (keeps_frame op x ≡ true → b.fmp ≡ c.fmp) → (is_op op ops.FmpUpdate ≡ true → b.fmp ≡ c.fmp ⊞ slice_index c.stack 0)
    → (keeps_block op ≡ true → address_of after.blocks ≡ address_of d.blocks) → b.nesting ≡ level_after op c.nesting
    → KeepsBlock op x y
kept_block {op = op} sx sy no_call no_syscall same frame moves block nesting = record {
  call = λ is. never (sym is ∙ no_call);
  syscall = λ is. never (sym is ∙ no_syscall);
  function = λ is. (sy.context ∙ same.0 ∙ sym sx.context, sy.syscall ∙ ap bit_of same.1 ∙ sym sx.syscall);
  digest = λ is j low. sy.digest j low ∙ ap (λ v. slice_index v j) same.2 ∙ sym (sx.digest j low);
  frame = λ is. sy.frame ∙ frame is ∙ sym sx.frame;
  frame_moves = λ is. sy.frame ∙ moves is ∙ rw (sx.frame, sx.cells 0 (lit< tt)) refl;
  block = λ is. sy.address ∙ block is ∙ sym sx.address;
  level = sy.level ∙ nesting ∙ ap (level_after op) (sym sx.level);
}

pub one_more : (n : ℕ) → n < 1024 → n + 1 ≡ n ⊞ 1
one_more n few = omega (arith, few)

pub one_less : (n : ℕ) → 0 < n → n ≤ 1024 → n - 1 ≡ n ⊟ 1
one_less n some few = omega (arith, some, few)

pub tick : (clock : ℕ) → clock < most_cycles → clock + 1 ≡ clock ⊞ 1
tick clock early = omega (arith, early)

pub ordinary_level : (op : Op) (n : ℕ) → is_ordinary_op op ≡ true → n ≡ level_after op n
ordinary_level op n is = let apart = no_block op is in rw (apart.start, apart.end) refl

-- an operation moves the frame pointer where it is FMPUPDATE
pub frame_stays : (op : Op) (x : List ℕ) (v : Seen) → keeps_frame op x ≡ true → fmp_after op v ≡ v.fmp
frame_stays op x v keeps = fmp_after-same op v (λ e. never (sym keeps ∙ ap (λ o. keeps_frame o x) e))

pub frame_moved : (op : Op) (v : Seen) → is_op op ops.FmpUpdate ≡ true → fmp_after op v ≡ v.fmp ⊞ slice_index v.cells 0
frame_moved ops.FmpUpdate v is = refl
frame_moved op v is = off is

-- the row behind the END of a call
pub ended_call : {next : Op} {x y : List ℕ} {d after : Decoder} {c b : Core} → Shows ops.End d c x → Shows next after b y
    → h x 6 ⊞ h x 7 ≡ 1 → b.nesting ≡ level_after ops.End c.nesting → KeepsBlock ops.End x y
ended_call {x = x} sx sy flags nesting =
    let ends : eqb (h x 6 ⊞ h x 7) 1 ≡ true = rw flags refl in
    record {
      call = off;
      syscall = off;
      function = λ is. never (sym is ∙ ap not ends);
      digest = λ is. never (sym is ∙ ap not ends);
      frame = λ is. never (sym is ∙ ap (λ t. not (t || false)) ends);
      frame_moves = off;
      block = off;
      level = sy.level ∙ nesting ∙ ap (level_after ops.End) (sym sx.level);
    }

-- the row behind a call
pub entered_call : (callee : List ℕ) {next : Op} {x y : List ℕ} {d after : Decoder} {c b : Core} → Shows ops.Call d c x → Shows next after b y
    → ((n : ℕ) → n < 8 → h x n ≡ slice_index (callee ++ zero_word) n) → length callee ≡ 4 → c.clock < most_cycles
    → b.context ≡ c.clock + 1 → b.fmp ≡ 2 ^ 30 → b.in_syscall ≡ false → b.digest ≡ callee → b.nesting ≡ level_after ops.Call c.nesting
    → KeepsBlock ops.Call x y
entered_call callee {c = c} sx sy hash size early context frame syscall digest nesting = record {
  call = λ is. record {
    context = sy.context ∙ context ∙ tick c.clock early ∙ ap (λ n. n ⊞ 1) (sym sx.clock);
    frame = sy.frame ∙ frame;
    syscall = sy.syscall ∙ ap bit_of syscall;
    digest = λ j low. sy.digest j low ∙ ap (λ v. slice_index v j) digest ∙ sym (get_or_append_left callee zero_word 0 j (rw size low))
        ∙ sym (hash j (omega (arith, low)));
  };
  syscall = off;
  function = off;
  digest = off;
  frame = off;
  frame_moves = off;
  block = off;
  level = sy.level ∙ nesting ∙ ap (level_after ops.Call) (sym sx.level);
}

-- and behind a syscall, which keeps the digest of the function
pub entered_syscall : {next : Op} {x y : List ℕ} {d after : Decoder} {c b : Core} → Shows ops.Syscall d c x → Shows next after b y
    → b.context ≡ 0 → b.fmp ≡ 2 ^ 31 → b.in_syscall ≡ true → b.digest ≡ c.digest → b.nesting ≡ level_after ops.Syscall c.nesting
    → KeepsBlock ops.Syscall x y
entered_syscall sx sy context frame syscall digest nesting = record {
  call = off;
  syscall = λ is. record { context = sy.context ∙ context; frame = sy.frame ∙ frame; syscall = sy.syscall ∙ ap bit_of syscall };
  function = off;
  digest = λ is j low. sy.digest j low ∙ ap (λ v. slice_index v j) digest ∙ sym (sx.digest j low);
  frame = off;
  frame_moves = off;
  block = off;
  level = sy.level ∙ nesting ∙ ap (level_after ops.Syscall) (sym sx.level);
}
