-- Each row shows the decoder and the state before it, and its event's hash.
use Rattle.complete_rows.proofs.Words
use Words.{◌≡◌, List, slice_index, ap, ◌∙◌, lit<, get_or-take, bit_of, Core, visible_of, Event, Visible, Decoder, hash_by, line_of, row_of, Shows}
use Rattle.complete_rows.proofs.AgreeLemmas.{kind_is}
use Rattle.complete_rows.proofs.ColumnLemmas.{col_clk, col_fmp, col_ctx, col_sys, col_f, col_addr, col_h, col_gc, col_ox, col_s, col_depth, col_key, col_ha}
use Rattle.complete_rows.proofs.ColumnLemmas.{col_lv}

pub shows_row : (d : Decoder) (e : Event) (n : Visible) (later : List Event) (core : Core) → e.before ≡ visible_of core
    → Shows e.op d core (row_of d e n later)
shows_row d e n later core before =
    record {
      clock = col_clk (line_of d e n later) ∙ ap (λ v. v.clock) before;
      frame = col_fmp (line_of d e n later) ∙ ap (λ v. v.fmp) before;
      context = col_ctx (line_of d e n later) ∙ ap (λ v. v.context) before;
      syscall = col_sys (line_of d e n later) ∙ ap (λ v. bit_of v.in_syscall) before;
      digest = λ j low. col_f (line_of d e n later) j low ∙ ap (λ v. slice_index v.digest j) before;
      level = col_lv (line_of d e n later) ∙ ap (λ v. v.nesting) before;
      cells = λ j low. col_s (line_of d e n later) j low ∙ ap (λ v. slice_index v.cells j) before ∙ get_or-take 16 core.stack j 0 low;
      deep = col_depth (line_of d e n later) ∙ ap (λ v. v.depth) before;
      address = col_addr (line_of d e n later);
      batch = col_ha (line_of d e n later);
      left = col_gc (line_of d e n later);
      place = col_ox (line_of d e n later);
      key_is = col_key (line_of d e n later);
      number = λ is. col_h (line_of d e n later) 0 (lit< tt) ∙ ap (λ k. slice_index (hash_by k d e) 0) (kind_is e.op is);
    }
