-- The columns of a row that is laid out from its parts.
use Rattle.complete_rows.proofs.Words
use Words.{◌≡◌, ℕ, zero, suc, ◌<◌, ◌==◌, slice_index, refl, arith, felt_inv, ◌⊟◌, is_ordinary_op}
use Words.{bit_of, clk, ctx, sys, f, addr, b, h, sp, gc, ox, c, s, depth, key, inv, ha, lv, w, t, Line, code_bit, laid_out}
use Rattle.vm_table.specs.MainColumns.{fmp}

-- what is so of each number below another one
abbrev pub EachBelow : ℕ → (ℕ → Type 0) → Type 0
EachBelow zero P = Unit {0}
EachBelow (suc n) P = P 0 × EachBelow n (λ j. P (suc j))

pub below_by : (n : ℕ) (P : ℕ → Type 0) → EachBelow n P → (j : ℕ) → j < n → P j
below_by zero P each j low = absurd (omega (arith, low))
below_by (suc n) P each zero low = each.0
below_by (suc n) P each (suc j) low = below_by n (λ k. P (suc k)) each.1 j (omega (arith, low))

pub below_four : (P : ℕ → Type 0) → P 0 → P 1 → P 2 → P 3 → (j : ℕ) → j < 4 → P j
below_four P p0 p1 p2 p3 = below_by 4 P (p0, (p1, (p2, (p3, tt))))

pub col_clk : (l : Line) → clk (laid_out l) ≡ l.seen.clock
unfolding laid_out
col_clk l = refl

pub col_fmp : (l : Line) → fmp (laid_out l) ≡ l.seen.fmp
unfolding laid_out
col_fmp l = refl

pub col_ctx : (l : Line) → ctx (laid_out l) ≡ l.seen.context
unfolding laid_out
col_ctx l = refl

pub col_sys : (l : Line) → sys (laid_out l) ≡ bit_of l.seen.in_syscall
unfolding laid_out
col_sys l = refl

pub col_addr : (l : Line) → addr (laid_out l) ≡ l.address
unfolding laid_out
col_addr l = refl

pub col_sp : (l : Line) → sp (laid_out l) ≡ bit_of (is_ordinary_op l.op)
unfolding laid_out
col_sp l = refl

pub col_gc : (l : Line) → gc (laid_out l) ≡ l.left
unfolding laid_out
col_gc l = refl

pub col_ox : (l : Line) → ox (laid_out l) ≡ l.place
unfolding laid_out
col_ox l = refl

pub col_depth : (l : Line) → depth (laid_out l) ≡ l.seen.depth
unfolding laid_out
col_depth l = refl

pub col_key : (l : Line) → key (laid_out l) ≡ l.key
unfolding laid_out
col_key l = refl

pub col_inv : (l : Line) → inv (laid_out l) ≡ felt_inv (l.seen.depth ⊟ 16)
unfolding laid_out
col_inv l = refl

pub col_ha : (l : Line) → ha (laid_out l) ≡ l.ha
unfolding laid_out
col_ha l = refl

pub col_lv : (l : Line) → lv (laid_out l) ≡ l.seen.nesting
unfolding laid_out
col_lv l = refl

pub col_f : (l : Line) (j : ℕ) → j < 4 → f (laid_out l) j ≡ slice_index l.seen.digest j
unfolding laid_out
col_f l = below_four (λ j. f (laid_out l) j ≡ slice_index l.seen.digest j) refl refl refl refl

pub col_b : (l : Line) (j : ℕ) → j < 7 → b (laid_out l) j ≡ code_bit l.op j
unfolding laid_out
col_b l = below_by 7 (λ j. b (laid_out l) j ≡ code_bit l.op j) (refl, (refl, (refl, (refl, (refl, (refl, (refl, tt)))))))

pub col_h : (l : Line) (j : ℕ) → j < 8 → h (laid_out l) j ≡ slice_index l.hash j
unfolding laid_out
col_h l = below_by 8 (λ j. h (laid_out l) j ≡ slice_index l.hash j) (refl, (refl, (refl, (refl, (refl, (refl, (refl, (refl, tt))))))))

pub col_s : (l : Line) (j : ℕ) → j < 16 → s (laid_out l) j ≡ slice_index l.seen.cells j
unfolding laid_out
col_s l =
    below_by 16 (λ j. s (laid_out l) j ≡ slice_index l.seen.cells j)
    (refl, (refl, (refl, (refl, (refl, (refl, (refl, (refl, (refl, (refl, (refl, (refl, (refl, (refl, (refl, (refl, tt))))))))))))))))

pub col_w : (l : Line) (j : ℕ) → j < 4 → w (laid_out l) j ≡ slice_index l.witnesses j
unfolding laid_out
col_w l = below_four (λ j. w (laid_out l) j ≡ slice_index l.witnesses j) refl refl refl refl

pub col_t : (l : Line) (j : ℕ) → j < 10 → t (laid_out l) j ≡ slice_index l.limbs j
unfolding laid_out
col_t l = below_by 10 (λ j. t (laid_out l) j ≡ slice_index l.limbs j)
    (refl, (refl, (refl, (refl, (refl, (refl, (refl, (refl, (refl, (refl, tt))))))))))

pub col_c0 : (l : Line) → c (laid_out l) 0 ≡ bit_of (l.in_use == 8)
unfolding laid_out
col_c0 l = refl

pub col_c1 : (l : Line) → c (laid_out l) 1 ≡ bit_of (l.in_use == 4)
unfolding laid_out
col_c1 l = refl

pub col_c2 : (l : Line) → c (laid_out l) 2 ≡ bit_of (l.in_use == 2)
unfolding laid_out
col_c2 l = refl
