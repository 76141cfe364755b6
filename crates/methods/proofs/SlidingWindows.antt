-- Method 3: its steps are sound and end at the number, how many there are, their counts, and the bits of the largest size. Assumes nothing.
use mathlib.Core.Path.{◌≡◌, refl, sym, ap, ◌∙◌, subst}
use mathlib.Core.Logic.{◌≢◌}
use mathlib.Core.List.{List}
use Prim.Native.Nat.{ℕ, zero, suc, ◌+◌, ◌*◌, ◌-◌, ◌/◌, ◌%◌, ◌^◌, ◌<◌, ◌≤◌}
use borrow.Author.Tests.{eq-eqb, ne_eqb, le-leb, lt-leb, lt-ltb, le-ltb}
use native.Mathlib.Decide.{dec_le, dec_lt, ℕ_discrete}
use native.Mathlib.Nat.{add-zero, sub-zero, mul-le-mul_right, mod-lt, lt_of_lt_of_le, le_of_lt}
use native.Mathlib.Numerals.{add-one}
use native.Mathlib.Omega.{arith}
use lib.ListN.{length}
use lib.Pow.{pow_pos, pow_mono, mod-mod-pow}
use Rattle.rules.specs.declared.Counts.{Counts}
use Rattle.rules.specs.Limits.{plan_steps}
use Rattle.chains.specs.Steps.{Step, add}
use Rattle.chains.specs.Counts.{counts, counts_of, NoHiddenDoubling}
use Rattle.chains.specs.Largest.{largest_bits}
use Rattle.chains.proofs.Counts.{position_counts, unhidden_counts}
use Rattle.methods.specs.PartialPlan.{PartialPlan, double, add_at, doubled}
use Rattle.integers.specs.Bits.{bit, bit_length}
use Rattle.methods.specs.Tables.{table_counts}
use Rattle.methods.specs.OddMultiples.{odd_second, odd_table, odd_position, table_length}
use Rattle.methods.specs.Widths.{sliding_window_bits}
use Rattle.methods.specs.SlidingWindows.{longest, window_value, slide, scan_from, sliding_window_steps}
use Rattle.methods.specs.Forecast.{later_windows, scan_counts, sliding_window_counts}
use Rattle.methods.specs.Largest.{sliding_largest_bits}
use Rattle.integers.proofs.Bits.{bit_length_iff, some_bits, top_bit, place_down, places_down, bit_small, quotient_le, quotient_none}
use Rattle.methods.proofs.Counted.{counts_in, counts_double, counts_add, counts_doubled}
use Rattle.methods.proofs.Laws.{power_small, Holds, Stands, Made, Fit, Plannable, plannable_below, double_holds, doubled_add, stands_followed, stands_doubled, latest_followed, latest_doubled, length_followed, length_doubled, made, made_bits, own_bits, stands_bits}
use Rattle.methods.proofs.Tables.{tabled, no_subtractions}
use Rattle.methods.proofs.OddMultiples.{odd_length, table_value, position_less, position_value, odd_counts, entry_holds, Entry, halved, table_last, table_narrow, last_entry, entry_in_table}

-- ---- windows

-- l bits from place n down, at most d, that end in 1
pub record Window (e n d l : ℕ) : Type 0 where
  pub some : 1 ≤ l
  pub narrow : l ≤ d
  pub within : l ≤ suc n
  pub ends : bit e (suc n - l) ≡ 1

window_wider : {e n d l : ℕ} → Window e n d l → Window e n (suc d) l
window_wider w = record { some = w.some; narrow = omega (arith, w.narrow); within = w.within; ends = w.ends }

pub longest_window : (e n d : ℕ) → bit e n ≡ 1 → 1 ≤ d → Window e n d (longest e n d)
unfolding longest
longest_window e n zero b h = absurd (omega arith)
longest_window e n (suc l) b h =
    elim (dec_le l n) [
      | yes t ↦ rw (le-leb l n t) (elim (ℕ_discrete (bit e (n - l)) 1) [
        | yes o ↦
            let s : suc n - suc l ≡ n - l = omega arith in
            rw (eq-eqb (bit e (n - l)) 1 o) (record { some = omega arith; narrow = omega arith; within = omega arith; ends = rw s o })
        | no z ↦
            let p : l ≢ 0 = λ q. z (rw (q, sub-zero n) b) in
            rw (ne_eqb (bit e (n - l)) 1 z) (window_wider (longest_window e n l b (omega arith)))
      ])
      | no t ↦ rw (lt-leb l n (omega arith)) (window_wider (longest_window e n l b (omega arith)))
    ]

pub low_bit : (x l : ℕ) → 1 ≤ l → x % 2 ^ l % 2 ≡ x % 2
low_bit x zero h = absurd (omega arith)
low_bit x (suc k) h = rw add-one at (mod-mod-pow x k 1)

module _ {e n d l : ℕ} (w : Window e n d l) where
  pub window_entry : Entry d (window_value e n l)
  unfolding bit
  window_entry = record {
    odd = low_bit (e / 2 ^ (suc n - l)) l w.some ∙ w.ends;
    narrow = lt_of_lt_of_le (mod-lt (e / 2 ^ (suc n - l)) (pow_pos l)) (pow_mono w.narrow);
  }

  window_down : e / 2 ^ (suc n - l) ≡ e / 2 ^ suc n * 2 ^ l + window_value e n l
  window_down =
      let s : suc n - l + l ≡ suc n = omega (arith, w.within) in
      rw s at (places_down e (suc n - l) l)

-- a window down to place 0
reaches : (e n d : ℕ) → n < d → bit e 0 ≡ 1 → longest e n d ≡ suc n
unfolding longest
reaches e n zero h b = absurd (omega arith)
reaches e n (suc l) h b =
    elim (dec_le l n) [
      | yes t ↦
          let s : l ≡ n = omega arith in
          let z : n - l ≡ 0 = omega arith in
          rw (le-leb l n t, z, eq-eqb (bit e 0) 1 b, s)
      | no t ↦ rw (lt-leb l n (omega arith)) (reaches e n l (omega arith) b)
    ]

-- ---- the scan

-- the place below the window that begins at place n, and the plan after that window
abbrev pub below_window : ℕ → ℕ → ℕ → ℕ
below_window e d n = suc n - longest e n d

abbrev past_window : ℕ → ℕ → ℕ → PartialPlan → PartialPlan
past_window e d n b = add_at (odd_position (window_value e n (longest e n d))) (doubled (longest e n d) b)

-- `slide` without its fuel: from place i and b the scan comes to c, and meets w windows
data Scan (e d : ℕ) : ℕ → PartialPlan → ℕ → PartialPlan → Type 0 where
  done : {b : PartialPlan} → Scan e d 0 b 0 b
  window : (n : ℕ) (b : PartialPlan) {w : ℕ} {c : PartialPlan} → bit e n ≡ 1 → Scan e d (below_window e d n) (past_window e d n b) w c → Scan e d (suc n) b (suc w) c
  zero_bit : (n : ℕ) (b : PartialPlan) {w : ℕ} {c : PartialPlan} → bit e n ≢ 1 → Scan e d n (double b) w c → Scan e d (suc n) b w c

-- At place i: the latest holds the bits from i on, and each entry of the table stands. At place 0 the latest is the position filled last.
record Reached (limit e d i : ℕ) (b : PartialPlan) : Type 0 where
  holds : Holds limit b (e / 2 ^ i)
  positive : 0 < e / 2 ^ i
  stands : (v : ℕ) → Entry d v → Stands b (odd_position v) v
  last : i ≡ 0 → b.latest ≡ length b.steps

module _ (e d : ℕ) (wide : 1 ≤ d) where
  scan : (f i : ℕ) (b : PartialPlan) → i ≤ f → Scan e d i b (later_windows e d f i) (slide e d f i b)
  unfolding slide later_windows
  scan zero zero b h = done
  scan zero (suc n) b h = absurd (omega arith)
  scan (suc f) zero b h = done
  scan (suc f) (suc n) b h =
      elim (ℕ_discrete (bit e n) 1) [
        | yes o ↦ rw (eq-eqb (bit e n) 1 o) (window n b o (scan f (below_window e d n) (past_window e d n b) (omega (arith, (longest_window e n d o wide).some))))
        | no z ↦ rw (ne_eqb (bit e n) 1 z) (zero_bit n b z (scan f n (double b) (omega arith)))
      ]

  -- fuel beyond the place changes nothing
  pub scan_fuel : (f g i : ℕ) (b : PartialPlan) → i ≤ f → i ≤ g → (later_windows e d f i ≡ later_windows e d g i) × (slide e d f i b ≡ slide e d g i b)
  unfolding slide later_windows
  scan_fuel zero zero i b h k = (refl, refl)
  scan_fuel zero (suc g) zero b h k = (refl, refl)
  scan_fuel zero (suc g) (suc n) b h k = absurd (omega arith)
  scan_fuel (suc f) zero zero b h k = (refl, refl)
  scan_fuel (suc f) zero (suc n) b h k = absurd (omega arith)
  scan_fuel (suc f) (suc g) zero b h k = (refl, refl)
  scan_fuel (suc f) (suc g) (suc n) b h k =
      elim (ℕ_discrete (bit e n) 1) [
        | yes o ↦
            let less = (longest_window e n d o wide).some in
            let r = scan_fuel f g (below_window e d n) (past_window e d n b) (omega arith) (omega arith) in
            rw (eq-eqb (bit e n) 1 o) (ap suc r.0, r.1)
        | no z ↦ rw (ne_eqb (bit e n) 1 z) (scan_fuel f g n (double b) (omega arith) (omega arith))
      ]

  length_window : (n : ℕ) (b : PartialPlan) → length (past_window e d n b).steps ≡ length b.steps + longest e n d + 1
  length_window n b = length_followed (doubled (longest e n d) b) _ ∙ ap (λ (m : ℕ). m + 1) (length_doubled (longest e n d) b)

  -- steps are only added
  scan_grows : {i w : ℕ} {b c : PartialPlan} → Scan e d i b w c → length b.steps ≤ length c.steps
  scan_grows done = omega arith
  scan_grows (window n b o s) = omega (arith, scan_grows s, length_window n b)
  scan_grows (zero_bit n b z s) = omega (arith, scan_grows s, length_followed b (add b.latest b.latest))

  pub slide_grows : (f i : ℕ) (b : PartialPlan) → i ≤ f → length b.steps ≤ length (slide e d f i b).steps
  slide_grows f i b h = scan_grows (scan f i b h)

  -- at most two steps for each bit
  scan_short : {i w : ℕ} {b c : PartialPlan} → Scan e d i b w c → length c.steps ≤ length b.steps + 2 * i
  scan_short done = omega arith
  scan_short (window n b o s) = let w = longest_window e n d o wide in omega (arith, scan_short s, length_window n b)
  scan_short (zero_bit n b z s) = omega (arith, scan_short s, length_followed b (add b.latest b.latest))

  -- a doubling for each bit, and an addition for each window
  scan_counted : {i w : ℕ} {b c : PartialPlan} → Scan e d i b w c → table_length d ≤ length b.steps
      → (x y : ℕ) → counts_in b ≡ counts x y 0 → counts_in c ≡ counts (x + i) (y + w) 0
  scan_counted done t x y q = q ∙ simp add-zero
  scan_counted (window n b {w} o s) t x y q =
      let l : ℕ = longest e n d in
      let v : Window e n d l = longest_window e n d o wide in
      let f : x + suc n ≡ x + l + (suc n - l) = omega arith in
      let g : y + suc w ≡ y + 1 + w = omega arith in
      let apart : (doubled l b).latest ≢ odd_position (window_value e n l) = omega (arith, latest_doubled l b v.some, length_doubled l b, (entry_in_table d wide (window_value e n l) (window_entry v)).within) in
      rw (f, g) (scan_counted s (omega (arith, length_window n b)) (x + l) (y + 1) (counts_add (doubled l b) (x + l) y 0 (counts_doubled l b x y 0 q) _ apart))
  scan_counted (zero_bit n b z s) t x y q =
      let f : x + suc n ≡ x + 1 + n = omega arith in
      rw f (scan_counted s (omega (arith, length_followed b (add b.latest b.latest))) (x + 1) y (counts_double b x y 0 q))

  module _ {limit : ℕ} (small : e < limit) where
    at_window : (n : ℕ) (b : PartialPlan) → bit e n ≡ 1 → Reached limit e d (suc n) b → Reached limit e d (below_window e d n) (past_window e d n b)
    at_window n b o r = record {
      holds =
          subst (λ (v : ℕ). Holds limit (past_window e d n b) v) (sym down)
          (doubled_add l b (odd_position x) (e / 2 ^ suc n) x r.holds (r.stands x entry) (omega (arith, above)) r.positive (omega (arith, down, quotient_le e (suc n - l))));
      positive = omega (arith, down, entry.odd);
      stands = λ v t. stands_followed (doubled l b) _ (odd_position v) v (stands_doubled l b (odd_position v) v (r.stands v t));
      last = λ z. latest_followed (doubled l b) _;
    }
      where
        l : ℕ
        l = longest e n d

        x : ℕ
        x = window_value e n l

        entry : Entry d x
        entry = window_entry (longest_window e n d o wide)

        -- a window is below what stands above it
        above : x < e / 2 ^ suc n * 2 ^ l
        above = lt_of_lt_of_le (mod-lt (e / 2 ^ (suc n - l)) (pow_pos l)) (omega (arith, mul-le-mul_right (2 ^ l) r.positive))

        down : e / 2 ^ (suc n - l) ≡ e / 2 ^ suc n * 2 ^ l + x
        down = window_down (longest_window e n d o wide)

    at_zero : (n : ℕ) (b : PartialPlan) → bit e n ≢ 1 → Reached limit e d (suc n) b → Reached limit e d n (double b)
    at_zero n b z r =
        let down : e / 2 ^ n ≡ 2 * (e / 2 ^ suc n) = omega (arith, place_down e n, bit_small e n) in
        record {
          holds = rw down (double_holds b (e / 2 ^ suc n) r.holds r.positive (omega (arith, quotient_le e n)));
          positive = omega (arith, r.positive);
          stands = λ v t. stands_followed b _ (odd_position v) v (r.stands v t);
          last = λ z. latest_followed b _;
        }

    scan_reached : {i w : ℕ} {b c : PartialPlan} → Scan e d i b w c → Reached limit e d i b → Reached limit e d 0 c
    scan_reached done r = r
    scan_reached (window n b o s) r = scan_reached s (at_window n b o r)
    scan_reached (zero_bit n b z s) r = scan_reached s (at_zero n b z r)

-- the whole table's bits, where they are more, or the number's own
pub largest_cases : (e d : ℕ) (P : ℕ → Type 0) → (e % 2 ≡ 0 → bit_length e < d → P d) → ((bit_length e < d → e % 2 ≡ 1) → P (bit_length e)) → P (sliding_largest_bits e d)
largest_cases e d P table own =
    elim (ℕ_discrete (e % 2) 0) [
      | yes z ↦ rw (eq-eqb (e % 2) 0 z) (elim (dec_lt (bit_length e) d) [
        | yes l ↦ rw (lt-ltb (bit_length e) d l) (table z l)
        | no m ↦ rw (le-ltb (bit_length e) d (omega arith)) (own (λ l. absurd (m l)))
      ])
      | no o ↦ rw (ne_eqb (e % 2) 0 o) (own (λ l. omega arith))
    ]

-- ---- from the top bit

abbrev pub top : ℕ → ℕ
top e = bit_length e - 1

-- the table, and latest set to the position of the first window
abbrev at_first : ℕ → ℕ → PartialPlan
at_first e d = tabled odd_second (table_length d) (odd_position (window_value e (top e) (longest e (top e) d)))

module _ (e d : ℕ) (some : 0 < e) (wide : 1 ≤ d) where
  first_one : bit e (top e) ≡ 1
  first_one = omega (arith, place_down e (top e), top_bit e some, bit_small e (top e))

  pub first_window : Window e (top e) d (longest e (top e) d)
  first_window = longest_window e (top e) d first_one wide

  pub first_value : e / 2 ^ below_window e d (top e) ≡ window_value e (top e) (longest e (top e) d)
  first_value =
      let z : e / 2 ^ suc (top e) ≡ 0 = omega (arith, place_down e (top e), top_bit e some) in
      omega (arith, rw z at (window_down first_window))

  -- a number that is one window is an entry of the table
  pub whole_entry : below_window e d (top e) ≡ 0 → Entry d e
  unfolding bit
  whole_entry z =
      let w = first_window in
      record { odd = omega (arith, rw z at w.ends); narrow = (bit_length_iff e d).0 (omega arith) }

  -- and an entry of the table is one window
  pub entry_whole : Entry d e → below_window e d (top e) ≡ 0
  unfolding bit
  entry_whole t =
      let n : bit_length e ≤ d = (bit_length_iff e d).1 t.narrow in
      omega (arith, reaches e (top e) d (omega (arith, some_bits e some)) (omega (arith, t.odd)))

  first_reached : {limit : ℕ} → (Entry d e → ⊥) → 2 ^ d ≤ limit → Reached limit e d (below_window e d (top e)) (at_first e d)
  first_reached {limit} more small-table = record {
    holds = subst (λ (v : ℕ). Holds limit (at_first e d) v) (sym first_value) (holds _ (window_entry first_window));
    positive = omega (arith, first_value, (window_entry first_window).odd);
    stands = λ v t. record { filled = (holds v t).within; value = (holds v t).value };
    last = λ z. absurd (more (whole_entry z));
  }
    where
      holds : (v : ℕ) → Entry d v → Holds limit (tabled odd_second (table_length d) (odd_position v)) v
      holds v t = entry_holds (table_length d) v (omega (arith, table_last d wide, pow_pos d)) (entry_in_table d wide v t)

  scan_all : Scan e d (below_window e d (top e)) (at_first e d) (later_windows e d (top e) (below_window e d (top e))) (slide e d (top e) (below_window e d (top e)) (at_first e d))
  scan_all = scan e d wide (top e) (below_window e d (top e)) (at_first e d) (omega (arith, first_window.some))

  -- the method's two cases, with the counts of each
  pub entry_or_scan : (P : List Step → Counts → Type 0) → (Entry d e → P (odd_table (odd_position e)) (table_counts (odd_position e)))
      → ((Entry d e → ⊥) → P (scan_from e d (top e)) (scan_counts e d (top e)))
      → P (sliding_window_steps e d) (sliding_window_counts e d)
  unfolding sliding_window_steps sliding_window_counts
  entry_or_scan P whole more =
      elim (dec_lt e (2 ^ d)) [
        | yes l ↦ rw (lt-ltb e (2 ^ d) l) (elim (ℕ_discrete (e % 2) 1) [
          | yes o ↦ rw (eq-eqb (e % 2) 1 o) (whole (record { odd = o; narrow = l }))
          | no z ↦ rw (ne_eqb (e % 2) 1 z) (more (λ t. z t.odd))
        ])
        | no m ↦ rw (le-ltb e (2 ^ d) (omega arith)) (more (λ t. m t.narrow))
      ]

  -- the whole scan
  scanned : {limit : ℕ} → e < limit → (Entry d e → ⊥) → 2 ^ d ≤ limit → Reached limit e d 0 (slide e d (top e) (below_window e d (top e)) (at_first e d))
  scanned small more small-table = scan_reached e d wide small scan_all (first_reached more small-table)

  -- only a plan that scans has the whole table, which needs a limit of its own
  pub sliding_made : {limit : ℕ} → e < limit → ((Entry d e → ⊥) → 2 ^ d ≤ limit) → Made limit (sliding_window_steps e d) e
  sliding_made {limit} small small-table = entry_or_scan (λ s c. Made limit s e) from_table from_scan
    where
      from_table : Entry d e → Made limit (odd_table (odd_position e)) e
      from_table t =
          let p : ℕ = odd_position e in
          let v : table_value p ≡ e = position_value e t.odd in
          made (tabled odd_second p p) e (entry_holds p e (rw v small) (record { odd = t.odd; within = omega arith })) (sym (odd_length p))

      from_scan : (Entry d e → ⊥) → Made limit (scan_from e d (top e)) e
      from_scan more =
          let r = scanned small more (small-table more) in
          made _ e (rw (quotient_none e) at r.holds) (r.last refl)

  -- at most 2 ^ d steps for the table, and two for each bit below the top
  pub sliding_short : length (sliding_window_steps e d) ≤ 2 ^ d + 2 * (bit_length e - 1)
  sliding_short =
      entry_or_scan (λ s c. length s ≤ 2 ^ d + 2 * (bit_length e - 1))
      (λ t. omega (arith, odd_length (odd_position e), position_less (odd_position e), position_value e t.odd, t.narrow))
      (λ more. omega (arith, scan_short e d wide scan_all, first_window.some, odd_length (table_length d), position_less (table_length d), table_narrow d wide))

  sliding_positions : position_counts (sliding_window_steps e d) ≡ sliding_window_counts e d
  sliding_positions =
      entry_or_scan (λ s c. position_counts s ≡ c)
      (λ t. odd_counts (odd_position e))
      (λ more. scan_counted e d wide scan_all (omega (arith, odd_length (table_length d))) _ _ (odd_counts (table_length d) ∙ no_subtractions (table_length d)))

  pub sliding_unhidden : NoHiddenDoubling (sliding_window_steps e d)
  sliding_unhidden = (sliding_made {limit = suc (e + 2 ^ d)} (omega arith) (λ more. omega arith)).unhidden

  -- each bit below the first window takes a doubling, each later window an addition
  pub sliding_counts : counts_of (sliding_window_steps e d) ≡ sliding_window_counts e d
  sliding_counts = unhidden_counts (sliding_window_steps e d) sliding_unhidden ∙ sliding_positions

  -- ---- the bits of the largest size

  -- the number's own, but for an even number shorter than a window
  own_largest : (bit_length e < d → e % 2 ≡ 1) → largest_bits (sliding_window_steps e d) ≡ bit_length e
  own_largest odd =
      own_bits some (λ small. sliding_made small (λ more.
      let long : bit_length e < d → ⊥ = λ l. more (record { odd = odd l; narrow = (bit_length_iff e d).0 (omega arith) }) in
      pow_mono {i = d} {j = bit_length e} (omega arith)))

  -- in whose plan the table's last value stands
  table_largest : e % 2 ≡ 0 → bit_length e < d → largest_bits (sliding_window_steps e d) ≡ d
  table_largest even l = omega (arith, no_less, made_bits wide (sliding_made small (λ more. omega arith)))
    where
      small : e < 2 ^ d
      small = (bit_length_iff e d).0 (omega arith)

      last_stands : (more : Entry d e → ⊥) → d - 1 < largest_bits (scan_from e d (top e))
      last_stands more = stands_bits _ _ (2 ^ d - 1) ((scanned small more (omega arith)).stands (2 ^ d - 1) (last_entry d wide)) (omega (arith, halved d wide, pow_pos (d - 1)))

      no_less : d - 1 < largest_bits (sliding_window_steps e d)
      no_less = entry_or_scan (λ s c. d - 1 < largest_bits s) (λ t. absurd (omega (arith, t.odd))) last_stands

  pub sliding_largest : largest_bits (sliding_window_steps e d) ≡ sliding_largest_bits e d
  sliding_largest = largest_cases e d (λ bits. largest_bits (sliding_window_steps e d) ≡ bits) table_largest own_largest

module _ (e d : ℕ) (plannable : Plannable e) (wide : 1 ≤ d) (narrow : d ≤ sliding_window_bits) where
  pub sliding_few : length (sliding_window_steps e d) ≤ plan_steps
  sliding_few = omega (arith, sliding_short e d plannable.some wide, plannable.bits, pow_mono {i = d} {j = sliding_window_bits} narrow)

  pub sliding_fit : Fit (sliding_window_steps e d) e
  sliding_fit = record { made = sliding_made e d plannable.some wide (plannable_below plannable) (λ more. le_of_lt (power_small d (omega arith))); few = sliding_few }
