-- Method 2: its steps are sound and end at the number, how many there are, their counts, and the bits of the largest size. Assumes nothing.
use mathlib.Core.Path.{◌≡◌, refl, sym, ap, subst, ◌∙◌}
use mathlib.Core.Bool.{cond}
use Prim.Native.Nat.{ℕ, zero, suc, ◌+◌, ◌*◌, ◌-◌, ◌/◌, ◌^◌, ◌<◌, ◌≤◌}
use borrow.Author.Tests.{ltb-true, ltb-false, lt-ltb, le-ltb}
use native.Mathlib.Nat.{lt_of_not-le, not-le_of_lt, add-zero, add-mul, mul-zero, mul-suc, mul-le-mul_left, mul-le-mul_right, mod-lt, mul-div-le, lt-mul-div-succ, le-div_iff_mul-le, div-le_self, div-zero, lt-suc_self}
use native.Mathlib.Omega.{arith}
use lib.Dec.{ltb, eqb, eqb-suc-zero}
use lib.ListN.{length}
use lib.Pow.{pow_pos, pow_mono, shr-shr, shr_mod, split}
use Rattle.signed_digits.proofs.Parts.{cond_cases}
use Rattle.rules.specs.Limits.{plan_steps}
use Rattle.chains.specs.Steps.{Step, add}
use Rattle.chains.specs.Counts.{counts, counts_of, total, NoHiddenDoubling}
use Rattle.chains.specs.Largest.{largest_bits}
use Rattle.chains.proofs.Counts.{position_counts, positions_counted, unhidden_counts}
use Rattle.methods.specs.PartialPlan.{PartialPlan, doubled, down_from}
use Rattle.integers.specs.Bits.{bit_length}
use Rattle.methods.specs.Widths.{fixed_window_bits}
use Rattle.methods.specs.FixedWindows.{multiples, window, top_window, at_fixed_window, window_steps, fixed_window_steps}
use Rattle.methods.specs.Tables.{table_counts}
use Rattle.methods.specs.Forecast.{nonzero_windows, fixed_window_counts}
use Rattle.integers.proofs.Bits.{bit_length_iff, above_top, quotient_le, quotient_none}
use Rattle.methods.proofs.Counted.{counts_in, counts_add, counts_doubled, counts_cond, not_before_doubled}
use Rattle.methods.proofs.Laws.{Holds, Stands, Made, Fit, Plannable, plannable_below, stands_followed, stands_doubled, latest_followed, length_followed, length_doubled, latest_doubled, add_holds, doubled_holds, down_from_lem, made, own_bits}
use Rattle.methods.proofs.Tables.{tabled, length_table, table_holds, table_counts_lem, table_total, no_subtractions}

-- ---- the multiples

-- n steps of the table, and the latest at position p
abbrev pub multiplied : ℕ → ℕ → PartialPlan
multiplied n p = tabled (λ i. 0) n p

pub length_multiples : (n : ℕ) → length (multiples n) ≡ n
length_multiples n = length_table (λ i. 0) n

-- value p + 1 stands at position p
multiples_holds : {limit : ℕ} (n : ℕ) → suc n < limit → (p : ℕ) → p ≤ n → Holds limit (multiplied n p) (suc p)
multiples_holds = table_holds (λ i. 0) suc refl (λ n. omega arith) (λ n. omega arith)

multiples_counts : (n : ℕ) → position_counts (multiples n) ≡ table_counts n
multiples_counts = table_counts_lem (λ i. 0) refl (λ n. omega arith)

-- ---- the windows

-- one window down: the quotient moved up by d places, and the window
window_down : (e d i : ℕ) → e / 2 ^ (d * i) ≡ e / 2 ^ (d * suc i) * 2 ^ d + window e d i
window_down e d i = rw (mul-suc d i, ← shr-shr e (d * i) d) (sym (split (e / 2 ^ (d * i)) d))

window_small : (e d i : ℕ) → window e d i < 2 ^ d
window_small e d i = mod-lt (e / 2 ^ (d * i)) (pow_pos d)

-- the lower windows lie below the top bit
windows_below_top : (e d : ℕ) → d * top_window e d ≤ bit_length e - 1
windows_below_top e d = mul-div-le (bit_length e - 1) d

module _ (e d : ℕ) (some : 0 < e) (wide : 1 ≤ d) where
  -- at and below the top window something is left
  above_top_window : (i : ℕ) → i ≤ top_window e d → 0 < e / 2 ^ (d * i)
  above_top_window i h = above_top e some (d * i) (omega (arith, mul-le-mul_left d h, windows_below_top e d))

  -- the top window alone
  top_window_lem : window e d (top_window e d) ≡ e / 2 ^ (d * top_window e d)
  top_window_lem =
      let t : ℕ = top_window e d in
      shr_mod d (d * t) ((bit_length_iff e (d + d * t)).0 (omega (arith, lt-mul-div-succ (bit_length e - 1) wide, mul-suc d t)))

  -- and it is not zero
  pub top_window_some : 0 < window e d (top_window e d)
  top_window_some = rw top_window_lem (above_top_window (top_window e d) (omega arith))

  lower_window : 2 ^ d ≤ e → 0 < top_window e d
  lower_window h =
      let more : d < bit_length e = lt_of_not-le (λ l. not-le_of_lt ((bit_length_iff e d).0 l) h) in
      (le-div_iff_mul-le wide).1 (omega arith)

module _ (e d : ℕ) (wide : 1 ≤ d) where
  -- a number below 2 ^ d has one window
  pub one_window : top_window e d ≡ 0 → e < 2 ^ d
  one_window z =
      let few : bit_length e - 1 < d * (top_window e d + 1) = lt-mul-div-succ (bit_length e - 1) wide in
      (bit_length_iff e d).0 (omega (arith, rw z at few))

  pub fixed_one : top_window e d ≡ 0 → fixed_window_steps e d ≡ multiples (e - 1)
  unfolding fixed_window_steps
  fixed_one z = rw (lt-ltb e (2 ^ d) (one_window z))

  -- any other has more
  pub more_windows : 0 < top_window e d → 2 ^ d ≤ e
  more_windows some =
      let low : e < 2 ^ d → ⊥ = λ l. omega (arith, (bit_length_iff e d).1 l, mul-le-mul_left d some, windows_below_top e d) in
      omega arith

  pub fixed_more : 0 < top_window e d → fixed_window_steps e d ≡ window_steps e d
  unfolding fixed_window_steps
  fixed_more some = rw (le-ltb e (2 ^ d) (more_windows some))

-- how many steps a window takes
pub length_at_window : (d v : ℕ) (b : PartialPlan) → length (at_fixed_window d v b).steps ≡ length b.steps + d + cond (eqb v 0) 0 1
length_at_window d zero b = omega (arith, length_doubled d b)
length_at_window d (suc p) b = rw (eqb-suc-zero p) (omega (arith, length_doubled d b, length_followed (doubled d b) (add (doubled d b).latest p)))

-- ---- the values

-- Above window i: the latest holds the windows from i on, and the table stands. Once a lower window is done, the latest is the last position.
record Above (limit e d i : ℕ) (b : PartialPlan) : Type 0 where
  holds : Holds limit b (e / 2 ^ (d * i))
  table : (p : ℕ) → p + 2 ≤ 2 ^ d → Stands b p (suc p)
  latest : i < top_window e d → b.latest ≡ length b.steps

module _ (e d : ℕ) (some : 0 < e) (wide : 1 ≤ d) {limit : ℕ} (small : e < limit) (more : 2 ^ d ≤ e) where
  at_window : (i v : ℕ) (b : PartialPlan) → i < top_window e d → window e d i ≡ v → Above limit e d (suc i) b → Above limit e d i (at_fixed_window d v b)
  at_window i v b l y a = go v y
    where
      q : ℕ
      q = e / 2 ^ (d * suc i)

      down : e / 2 ^ (d * i) ≡ q * 2 ^ d + window e d i
      down = window_down e d i

      part_small : (w : ℕ) → w ≤ e / 2 ^ (d * i) → w < limit
      part_small w h = omega (arith, quotient_le e (d * i))

      moved : Holds limit (doubled d b) (q * 2 ^ d)
      moved = doubled_holds d b q a.holds (above_top_window e d some wide (suc i) l) (part_small (q * 2 ^ d) (omega (arith, down)))

      -- a window is below what stands above it
      above : 2 ^ d ≤ q * 2 ^ d
      above = omega (arith, mul-le-mul_right (2 ^ d) (above_top_window e d some wide (suc i) l))

      kept : (p : ℕ) → p + 2 ≤ 2 ^ d → Stands (doubled d b) p (suc p)
      kept p h = stands_doubled d b p (suc p) (a.table p h)

      go : (v : ℕ) → window e d i ≡ v → Above limit e d i (at_fixed_window d v b)
      go zero y =
          let w : e / 2 ^ (d * i) ≡ q * 2 ^ d = omega (arith, down) in
          record { holds = rw w moved; table = kept; latest = λ h. latest_doubled d b wide }
      go (suc p) y =
          let w : e / 2 ^ (d * i) ≡ q * 2 ^ d + suc p = omega (arith, down) in
          let s : Step = add (doubled d b).latest p in
          record {
            holds = rw w (add_holds (doubled d b) p (q * 2 ^ d) (suc p) moved (kept p (omega (arith, window_small e d i))) (λ o. omega (arith, window_small e d i, above)) (omega arith) (part_small (q * 2 ^ d + suc p) (omega arith)));
            table = λ r h. stands_followed (doubled d b) s r (suc r) (kept r h);
            latest = λ h. latest_followed (doubled d b) s;
          }

  all : Above limit e d 0 (down_from (λ i b. at_fixed_window d (window e d i) b) (top_window e d) (multiplied (2 ^ d - 2) (window e d (top_window e d) - 1)))
  all = down_from_lem (Above limit e d) (λ i b. at_fixed_window d (window e d i) b) (top_window e d) _ (λ i b l a. at_window i (window e d i) b l refl a) start
    where
      t : ℕ
      t = top_window e d

      entry : (p : ℕ) → p ≤ 2 ^ d - 2 → Holds limit (multiplied (2 ^ d - 2) p) (suc p)
      entry = multiples_holds (2 ^ d - 2) (omega (arith, pow_pos d))

      start : Above limit e d t (multiplied (2 ^ d - 2) (window e d t - 1))
      start =
          let p : ℕ = window e d t - 1 in
          let v : suc p ≡ e / 2 ^ (d * t) = omega (arith, top_window_lem e d some wide, above_top_window e d some wide t (omega arith)) in
          record {
            holds = subst (Holds limit (multiplied (2 ^ d - 2) p)) v (entry p (omega (arith, window_small e d t)));
            table = λ r h. let s = entry r (omega arith) in record { filled = s.within; value = s.value };
            latest = λ h. absurd (omega arith);
          }

-- ---- the counts

nonzero_windows_le : (e d n : ℕ) → nonzero_windows e d n ≤ n
unfolding nonzero_windows
nonzero_windows_le e d zero = omega arith
nonzero_windows_le e d (suc i) =
    let one : cond (eqb (window e d i) 0) 0 1 ≤ 1 = cond_cases (eqb (window e d i) 0) 0 1 (λ n. n ≤ 1) (λ t. omega arith) (λ t. omega arith) in
    omega (arith, nonzero_windows_le e d i)

-- a lower window: d doublings, and an addition where it is not zero
at_window_counts : (d v : ℕ) (b : PartialPlan) (x y : ℕ) → v < 2 ^ d → 2 ^ d ≤ x + y + 2 → counts_in b ≡ counts x y 0
    → counts_in (at_fixed_window d v b) ≡ counts (x + d) (y + cond (eqb v 0) 0 1) 0
at_window_counts d zero b x y l h c = counts_doubled d b x y 0 c ∙ simp add-zero
at_window_counts zero (suc p) b x y l h c = absurd (omega arith)
at_window_counts (suc d) (suc p) b x y l h c =
    let filled : length b.steps ≡ x + y + 0 = positions_counted b.steps ∙ ap total c in
    rw (eqb-suc-zero p)
    (counts_add (doubled (suc d) b) (x + suc d) y 0 (counts_doubled (suc d) b x y 0 c) p (not_before_doubled (suc d) b p (omega arith) (omega arith)))

windows_counts : (e d n : ℕ) (b : PartialPlan) (x y : ℕ) → 2 ^ d ≤ x + y + 2 → counts_in b ≡ counts x y 0
    → counts_in (down_from (λ i b. at_fixed_window d (window e d i) b) n b) ≡ counts (x + d * n) (y + nonzero_windows e d n) 0
unfolding down_from nonzero_windows
windows_counts e d zero b x y h c = c ∙ simp (mul-zero, add-zero)
windows_counts e d (suc i) b x y h c =
    let v : ℕ = window e d i in
    let one : ℕ = cond (eqb v 0) 0 1 in
    let f : x + d * suc i ≡ x + d + d * i = omega (arith, mul-suc d i) in
    let g : y + (nonzero_windows e d i + one) ≡ y + one + nonzero_windows e d i = omega arith in
    rw (f, g) (windows_counts e d i (at_fixed_window d v b) (x + d) (y + one) (omega arith) (at_window_counts d v b x y (window_small e d i) h c))

module _ (e d : ℕ) where
  fixed_positions : position_counts (fixed_window_steps e d) ≡ fixed_window_counts e d
  unfolding fixed_window_steps window_steps
  fixed_positions =
      let n : ℕ = 2 ^ d - 2 in
      let t : ℕ = top_window e d in
      let long : 2 ^ d ≤ (table_counts n).doublings + (table_counts n).additions + 2 = omega (arith, table_total n, ap total (no_subtractions n)) in
      counts_cond (ltb e (2 ^ d)) (multiples (e - 1)) (window_steps e d)
      ∙ rw (multiples_counts (e - 1), windows_counts e d t (multiplied n (window e d t - 1)) (table_counts n).doublings (table_counts n).additions long (multiples_counts n ∙ no_subtractions n))

  -- Brauer's bound: the table, and for each lower window d doublings and at most one addition
  fixed_brauer : length (fixed_window_steps e d) ≤ 2 ^ d - 2 + (d + 1) * top_window e d
  fixed_brauer =
      rw (positions_counted (fixed_window_steps e d), fixed_positions)
      (cond_cases (ltb e (2 ^ d)) _ _ (λ c. total c ≤ 2 ^ d - 2 + (d + 1) * top_window e d)
      (λ t. omega (arith, table_total (e - 1), ltb-true e (2 ^ d) t))
      (λ t. omega (arith, table_total (2 ^ d - 2), add-mul d 1 (top_window e d), nonzero_windows_le e d (top_window e d))))

module _ (e d : ℕ) (some : 0 < e) (wide : 1 ≤ d) where
  -- a table is made only for numbers above its values, so it needs no limit of its own
  pub fixed_made : {limit : ℕ} → e < limit → Made limit (fixed_window_steps e d) e
  unfolding fixed_window_steps window_steps
  fixed_made {limit} small =
      let last : ℕ = e - 1 in
      let v : suc last ≡ e = omega arith in
      cond_cases (ltb e (2 ^ d)) (multiples last) (window_steps e d) (λ steps. Made limit steps e)
      (λ t. made (multiplied last last) e (subst (Holds limit (multiplied last last)) v (multiples_holds last (rw v small) last (omega arith))) (sym (length_multiples last)))
      (λ t.
      let more : 2 ^ d ≤ e = ltb-false e (2 ^ d) t in
      let a = all e d some wide small more in
      rw (mul-zero d, quotient_none e) at (made _ (e / 2 ^ (d * 0)) a.holds (a.latest (lower_window e d some wide more))))

  -- so no size has more bits than the number
  pub fixed_largest : largest_bits (fixed_window_steps e d) ≡ bit_length e
  fixed_largest = own_bits some fixed_made

  -- the table, and at most two steps for each bit below the top
  pub fixed_short : length (fixed_window_steps e d) ≤ 2 ^ d + 2 * (bit_length e - 1)
  fixed_short = omega (arith, fixed_brauer e d, add-mul d 1 (top_window e d), windows_below_top e d, div-le_self (bit_length e - 1) d)

-- no steps for zero, nor by windows of no bits
zero_empty : (d : ℕ) → length (fixed_window_steps 0 d) ≡ 0
unfolding fixed_window_steps
zero_empty d = rw (lt-ltb 0 (2 ^ d) (pow_pos d)) (length_multiples 0)

narrow_empty : (e : ℕ) → length (fixed_window_steps e 0) ≡ 0
narrow_empty e = let z : top_window e 0 ≡ 0 = div-zero (bit_length e - 1) in omega (arith, rw z at (fixed_brauer e 0))

pub fixed_unhidden : (e d : ℕ) → NoHiddenDoubling (fixed_window_steps e d)
fixed_unhidden zero d n h = absurd (omega (arith, zero_empty d))
fixed_unhidden (suc e) zero n h = absurd (omega (arith, narrow_empty (suc e)))
fixed_unhidden (suc e) (suc d) n h = (fixed_made (suc e) (suc d) (omega arith) (omega arith) (lt-suc_self (suc e))).unhidden n h

-- multiples alone; or the table, d doublings for each lower window, and an addition for each that is not zero
pub fixed_counts : (e d : ℕ) → counts_of (fixed_window_steps e d) ≡ fixed_window_counts e d
fixed_counts e d = unhidden_counts (fixed_window_steps e d) (fixed_unhidden e d) ∙ fixed_positions e d

module _ (e d : ℕ) (plannable : Plannable e) (wide : 1 ≤ d) (narrow : d ≤ fixed_window_bits) where
  pub fixed_few : length (fixed_window_steps e d) ≤ plan_steps
  fixed_few = omega (arith, fixed_short e d plannable.some wide, plannable.bits, pow_mono {i = d} {j = fixed_window_bits} narrow)

  pub fixed_fit : Fit (fixed_window_steps e d) e
  fixed_fit = record { made = fixed_made e d plannable.some wide (plannable_below plannable); few = fixed_few }
