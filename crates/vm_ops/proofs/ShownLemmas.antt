-- What an operation computes, and when it traps, depends on what its row shows.
use Rattle.std.proofs.Common.{◌≡◌, ℕ, false, List, refl, ap, ◌∙◌}
use Rattle.vm_ops.specs.Codes.{reads_elsewhere}
use Rattle.vm_ops.specs.declared.op.Op.{Op}
use Rattle.vm_ops.specs.declared.op.Op.TheVariants as ops
use Rattle.vm_ops.specs.Stepping.{ShowTheSame}
use Rattle.vm_ops.specs.Values.{Seen, computed, trap_of}

-- what is seen, with these parts in place of those that no row shows
abbrev Behind : List ℕ → ℕ → List ℕ → List ℕ → Seen → Seen
Behind constants immediate advice word s = record s { constants = constants; immediate = immediate; advice = advice; word = word }

shown_in : (op : Op) (constants advice word : List ℕ) (immediate : ℕ) (s : Seen) → reads_elsewhere op ≡ false
    → computed op s ≡ computed op (Behind constants immediate advice word s)
unfolding computed
shown_in ops.MLoad constants advice word immediate s e = cc
shown_in ops.MLoadW constants advice word immediate s e = cc
shown_in ops.AdvPop constants advice word immediate s e = cc
shown_in ops.AdvPopW constants advice word immediate s e = cc
shown_in ops.Push constants advice word immediate s e = cc
shown_in ops.HPerm constants advice word immediate s e = cc
shown_in ops.Noop constants advice word immediate s e = refl
shown_in _ constants advice word immediate s e = refl

trap_in : (op : Op) (constants advice word : List ℕ) (immediate : ℕ) (s : Seen)
    → trap_of op s ≡ trap_of op (Behind constants immediate advice word s)
unfolding trap_of
trap_in ops.Noop constants advice word immediate s = refl
trap_in _ constants advice word immediate s = refl

behind-same : (a b : Seen) → ShowTheSame a b → Behind b.constants b.immediate b.advice b.word a ≡ b
behind-same a b same = λ i. record {
  constants = b.constants;
  immediate = b.immediate;
  advice = b.advice;
  word = b.word;
  clock = same.clock i;
  fmp = same.fmp i;
  in_syscall = same.in_syscall i;
  digest = same.digest i;
  depth = same.depth i;
  cells = same.cells i;
}

pub computed-shown : (op : Op) (a b : Seen) → reads_elsewhere op ≡ false → ShowTheSame a b → computed op a ≡ computed op b
computed-shown op a b e same =
    shown_in op b.constants b.advice b.word b.immediate a e ∙ ap (computed op) (behind-same a b same)

pub trap_of-shown : (op : Op) (a b : Seen) → ShowTheSame a b → trap_of op a ≡ trap_of op b
trap_of-shown op a b same = trap_in op b.constants b.advice b.word b.immediate a ∙ ap (trap_of op) (behind-same a b same)
