-- The law of nesting.
use Rattle.sound_blocks.proofs.Words.{◌<◌, length, arith, claim_of, GrantedNesting}
use Rattle.sound_blocks.proofs.Words.ops
use Rattle.sound_blocks.proofs.Rows.{starts_at}
use Rattle.sound_blocks.proofs.Names.{Known, follows_at}
use Rattle.sound_blocks.proofs.FirstChildren.{after_first, after_second}
use Rattle.sound_blocks.proofs.OtherChildren.{after_only, after_root, after_turn, enters, skips, starts_inside}

pub nesting_granted : GrantedNesting
nesting_granted p t some_row g = record {
  begins = starts_at g.rows 0 some (g.rows.first some).start.starts;
  join = λ j here. starts_inside known here (follows_at known ops.Join here);
  split = λ j here. starts_inside known here (follows_at known ops.Split here);
  call = λ j here. starts_inside known here (follows_at known ops.Call here);
  syscall = λ j here. starts_inside known here (follows_at known ops.Syscall here);
  dyn = λ j here. starts_inside known here (follows_at known ops.Dyn here);
  loop_enters = enters known;
  loop_skips = skips known;
  after_first = after_first known;
  after_second = after_second known;
  after_only = after_only known;
  after_turn = after_turn known;
  after_root = after_root known some;
}
  where
    known : Known (claim_of p t) t.main p.statement.digest
    known = record { shows = g.rows; blocks = g.blocks; children = g.children }

    some : 0 < length t.main
    some = omega (arith, some_row)
