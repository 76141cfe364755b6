-- The scan by what it takes at once, and where it starts. Assumes nothing.
use mathlib.Core.Path.{◌≡◌, refl, sym, ap, subst, ◌∙◌}
use mathlib.Core.Logic.{◌≢◌}
use mathlib.Core.List.{List, ◌++◌}
use Rattle.std.specs.Prelude.{Option, Some, None}
use Prim.Native.Nat.{ℕ, zero, suc, ◌+◌, ◌*◌, ◌-◌, ◌^◌, ◌<◌, ◌≤◌}
use borrow.Author.Tests.{eq-eqb, ne_eqb}
use native.Mathlib.Nat.{zero-add, add-zero, suc-add, lt_of_lt_of_le}
use native.Mathlib.Omega.{arith}
use lib.ListN.{length, drop}
use lib.Pow.{pow_mono}
use Rattle.rules.specs.Limits.{number_bytes}
use Rattle.integers.specs.Positional.{bytes_value, words_value}
use Rattle.integers.proofs.Positional.{Below}
use Rattle.integers.specs.Bits.{bit, bit_length}
use Rattle.integers.proofs.Bits.{quotient_none, bit_length_iff, bytes_length}
use Rattle.rules.specs.declared.Counts.{Counts}
use Rattle.numbers.specs.Admission.{Positive}
use Rattle.chains.specs.Steps.{Step, plan_bytes_of}
use Rattle.chains.specs.Counts.{counts, counts_of, total}
use Rattle.methods.specs.PartialPlan.{PartialPlan, none, double, doubled, add_at}
use Rattle.methods.specs.Widths.{sliding_window_bits}
use Rattle.methods.specs.Tables.{table_counts}
use Rattle.methods.specs.OddMultiples.{odd_table, odd_position, table_length}
use Rattle.methods.specs.SlidingWindows.{longest, window_value, slide, scan_from, sliding_window_steps}
use Rattle.methods.specs.Forecast.{later_windows, scan_counts, sliding_window_counts}
use Rattle.chains.proofs.Counts.{length_counted}
use Rattle.methods.proofs.Laws.{length_followed, length_doubled}
use Rattle.methods.proofs.Tables.{no_subtractions}
use Rattle.methods.proofs.OddMultiples.{odd_length, Entry}
use Rattle.methods.proofs.SlidingWindows.{scan_fuel, slide_grows, below_window, top, longest_window, first_window, first_value, whole_entry, entry_whole, entry_or_scan, sliding_short, sliding_counts}
use Rattle.plan_writing.proofs.Underway.{Unfinished, finished}
use Rattle.plan_writing.specs.declared.Cursor.{Cursor}
use Rattle.plan_writing.specs.Writing.{Writing}
use Rattle.method_sliding_windows.specs.declared.Window.{Window}
use Rattle.method_sliding_windows.specs.declared.Taken.{Taken}
use Rattle.method_sliding_windows.specs.declared.Start.{Start}
use Rattle.method_sliding_windows.proofs.Bits.{bits_zero, first_in_lem}
use Rattle.method_sliding_windows.specs.Scan.{window_at, bits_down, first_in, whole_window, at_value, windows_in, at_sliding_window, Turn, start_from, start_of}

-- ---- a number and its words

-- the number within the limit that words hold, and the place n of its top bit
pub record InWords (number words : List ℕ) (n : ℕ) : Type 0 where
  pub same : words_value words ≡ bytes_value number
  pub some : 0 < words_value words
  pub top : n ≡ bit_length (words_value words) - 1
  pub few : bit_length (words_value words) ≤ 8 * number_bytes

pub in_words : (number words : List ℕ) (k : ℕ) → Below 256 number → Positive number → words_value words ≡ bytes_value number → k ≡ bit_length (bytes_value number) → InWords number words (k - 1)
in_words number words k b p same l =
    record {
      same = same;
      some = omega (arith, p.nonzero);
      top = rw (l, same);
      few = rw same (bytes_length number number_bytes b p.admitted.short);
    }

-- ---- one turn

doubled_more : (z l : ℕ) (b : PartialPlan) → doubled l (doubled z b) ≡ doubled (z + l) b
unfolding doubled
doubled_more zero l b = rw zero-add
doubled_more (suc z) l b = rw suc-add (doubled_more z l (double b))

length_at : (t : Taken) (b : PartialPlan) → length (at_sliding_window t b).steps ≡ length b.steps + t.bits + windows_in t.value
length_at t b = omega (arith, go t.value (doubled t.bits b), length_doubled t.bits b)
  where
    go : (o : Option ℕ) (b : PartialPlan) → length (at_value o b).steps ≡ length b.steps + windows_in o
    go None b = omega arith
    go (Some v) b = length_followed b _

-- the bits from place m up to i are zeros
abbrev Zeros : ℕ → ℕ → ℕ → Type 0
Zeros e m i = (j : ℕ) → m ≤ j → j < i → bit e j ≡ 0

module _ (e d : ℕ) (wide : 1 ≤ d) where
  -- k zeros are k doublings
  over_zeros : (k m : ℕ) → Zeros e m (m + k) → (b : PartialPlan) → (slide e d (m + k) (m + k) b ≡ slide e d m m (doubled k b)) × (later_windows e d (m + k) (m + k) ≡ later_windows e d m m)
  unfolding slide later_windows doubled
  over_zeros zero m z b = let s : m + 0 ≡ m = omega arith in rw s (refl, refl)
  over_zeros (suc k) m z b =
      let none : bit e (m + k) ≢ 1 = omega (arith, z (m + k) (omega arith) (omega arith)) in
      let s : m + suc k ≡ suc (m + k) = omega arith in
      rw (s, ne_eqb (bit e (m + k)) 1 none) (over_zeros k m (λ j h l. z j h (omega arith)) (double b))

  module _ (n : ℕ) (one : bit e n ≡ 1) where
    -- bits and value of the window at place n
    abbrev l : ℕ
    l = longest e n d

    abbrev v : ℕ
    v = window_value e n l

    at_one : (b : PartialPlan) → (slide e d (suc n) (suc n) b ≡ slide e d (suc n - l) (suc n - l) (add_at (odd_position v) (doubled l b))) × (later_windows e d (suc n) (suc n) ≡ suc (later_windows e d (suc n - l) (suc n - l)))
    unfolding slide later_windows
    at_one b =
        let w = longest_window e n d one wide in
        let same = scan_fuel e d wide n (suc n - l) (suc n - l) (add_at (odd_position v) (doubled l b)) (omega arith) (omega arith) in
        rw (eq-eqb (bit e n) 1 one) (same.1, ap suc same.0)

    turn_window : (z : ℕ) → Zeros e (suc n) (suc n + z) → Turn e d (suc n + z) (record { bits = z + l; value = Some v })
    turn_window z zeros =
        let w = longest_window e n d one wide in
        let left : suc n + z - (z + l) ≡ suc n - l = omega (arith, w.within) in
        record {
          some = omega (arith, w.some);
          within = omega (arith, w.within);
          steps = λ b. rw (left, ← doubled_more z l b) ((over_zeros z (suc n) zeros b).0 ∙ (at_one (doubled z b)).0);
          windows = rw left (omega (arith, (over_zeros z (suc n) zeros none).1, (at_one none).1));
        }

  turn_zeros : (i k : ℕ) → 1 ≤ k → k ≤ i → Zeros e (i - k) i → Turn e d i (record { bits = k; value = None })
  turn_zeros i k some within zeros =
      let s : i - k + k ≡ i = omega arith in
      let over = over_zeros k (i - k) (λ j h l. zeros j h (omega arith)) in
      record {
        some = some;
        within = within;
        steps = λ b. rw s at (over b).0;
        windows = omega (arith, rw s at (over none).1);
      }

  -- the same of the 64 bits x from place i - 1 down
  module _ (narrow : d ≤ sliding_window_bits) (i : ℕ) (more : 1 ≤ i) (x : ℕ) (bits : x ≡ bits_down e (i - 1)) where
    pub next_zeros : (k : ℕ) → x < 2 ^ sliding_window_bits → 1 ≤ k → k ≤ i → k ≤ 64 - sliding_window_bits → Turn e d i (record { bits = k; value = None })
    next_zeros k low some within few =
        turn_zeros i k some within (λ j h l. bits_zero e (i - 1) j (j + 63 - (i - 1)) (omega arith) (omega arith) ((bit_length_iff (bits_down e (i - 1)) (j + 63 - (i - 1))).1 (lt_of_lt_of_le (rw bits at low) (pow_mono {i = sliding_window_bits} (omega arith)))))

    pub next_window : 2 ^ sliding_window_bits ≤ x → Turn e d i (whole_window (first_in x d))
    next_window big =
        let f = first_in_lem e (i - 1) d wide narrow (rw bits at big) in
        let n : ℕ = f.place in
        let z : ℕ = 64 - bit_length (bits_down e (i - 1)) in
        let s : i ≡ suc n + z = omega (arith, f.below) in
        let t = turn_window n f.one z (λ j h l. f.zeros j h (omega arith)) in
        subst (λ (w : Window). Turn e d i (whole_window w)) (sym (ap (λ (x : ℕ). first_in x d) bits ∙ f.window)) (subst (λ (k : ℕ). Turn e d k (record { bits = z + longest e n d; value = Some (window_value e n (longest e n d)) })) (sym s) t)

-- ---- a loop that writes: the places below i are to come

abbrev pub Sliding : List ℕ → List ℕ → Cursor → ℕ → ℕ → ℕ → List Step → Type 0
Sliding lent here c e d i all = Unfinished lent here c (slide e d i i) all

module _ (lent here : List ℕ) (c : Cursor) (e d : ℕ) (all : List Step) where
  pub sliding_end : Sliding lent here c e d 0 all → here ≡ plan_bytes_of all ++ drop (length (plan_bytes_of all)) lent
  unfolding slide
  sliding_end u = finished u

  module _ (wide : 1 ≤ d) (i : ℕ) (u : Sliding lent here c e d i all) (w : Taken) (t : Turn e d i w) where
    turn : (slide e d (i - w.bits) (i - w.bits) (at_sliding_window w u.partial)).steps ≡ all
    turn = rw (← t.steps u.partial) u.rest

    -- the steps of the next turn are among all
    pub sliding_room : c.steps + w.bits + windows_in w.value ≤ length all
    sliding_room =
        omega (arith, slide_grows e d wide (i - w.bits) (i - w.bits) (at_sliding_window w u.partial) (omega arith), ap length turn, length_at w u.partial, u.writing.steps)

    pub sliding_next : (next : List ℕ) (k : Cursor) → Writing lent next k (at_sliding_window w u.partial) → Sliding lent next k e d (i - w.bits) all
    sliding_next next k v = record { partial = at_sliding_window w u.partial; writing = v; rest = turn }

-- ---- where the scan starts

-- the plan that the scan goes on with
abbrev pub begun : Start → PartialPlan
begun s = record { steps = odd_table s.table; latest = s.position }

abbrev steps_from : ℕ → ℕ → Start → List Step
steps_from e d s = (slide e d s.below s.below (begun s)).steps

abbrev counts_from : ℕ → ℕ → Start → Counts
counts_from e d s =
    counts ((table_counts s.table).doublings + s.below) ((table_counts s.table).additions + later_windows e d s.below s.below) 0

module _ (e d : ℕ) (some : 0 < e) (wide : 1 ≤ d) where
  -- what is taken at the top bit is a window
  abbrev at_top_lem : Start
  at_top_lem = start_from (top e) d (window_at e (top e) d)

  started : start_of e d ≡ at_top_lem
  unfolding start_of
  started = refl

  -- the method's two cases: one window, and more than one
  by_start : (sliding_window_steps e d ≡ steps_from e d at_top_lem) × (sliding_window_counts e d ≡ counts_from e d at_top_lem)
  unfolding slide later_windows
  by_start = entry_or_scan e d some wide (λ s c. (s ≡ steps_from e d at_top_lem) × (c ≡ counts_from e d at_top_lem)) whole more
    where
      left : ℕ
      left = below_window e d (top e)

      whole : Entry d e → (odd_table (odd_position e) ≡ steps_from e d at_top_lem) × (table_counts (odd_position e) ≡ counts_from e d at_top_lem)
      whole t =
          let z : left ≡ 0 = entry_whole e d some wide t in
          let v : window_value e (top e) (longest e (top e) d) ≡ e = sym (first_value e d some wide) ∙ rw z (quotient_none e) in
          rw (v, z) (refl, simp add-zero (no_subtractions (odd_position e)))

      more : (Entry d e → ⊥) → (scan_from e d (top e) ≡ steps_from e d at_top_lem) × (scan_counts e d (top e) ≡ counts_from e d at_top_lem)
      more m =
          let some_left : left ≢ 0 = λ z. m (whole_entry e d some wide z) in
          let b : PartialPlan = record { steps = odd_table (table_length d); latest = odd_position (window_value e (top e) (longest e (top e) d)) } in
          let same = scan_fuel e d wide (top e) left left b (omega (arith, (first_window e d some wide).some)) (omega arith) in
          rw (ne_eqb left 0 some_left) (ap (λ (c : PartialPlan). c.steps) same.1, rw same.0)

  module _ (s : Start) (start : s ≡ start_of e d) where
    steps_start : sliding_window_steps e d ≡ steps_from e d s
    steps_start = rw (start ∙ started) by_start.0

    -- the table is among all steps
    pub table_room : s.table ≤ length (sliding_window_steps e d)
    table_room =
        omega (arith, slide_grows e d wide s.below s.below (begun s) (omega arith), ap length steps_start, odd_length s.table)

    -- a loop that writes from here on writes all
    pub sliding_all : (lent here : List ℕ) (c : Cursor) (i : ℕ) → Sliding lent here c e d i (steps_from e d s) → Sliding lent here c e d i (sliding_window_steps e d)
    sliding_all lent here c i u = rw steps_start u

    -- the counts, and that they are few
    module _ (t : Counts) (windows : ℕ) (table : t ≡ table_counts s.table) (later : windows ≡ later_windows e d s.below s.below) where
      pub counted : counts (t.doublings + s.below) (t.additions + windows) 0 ≡ counts_of (sliding_window_steps e d)
      counted = sym (sliding_counts e d some wide ∙ rw (table, later, start ∙ started) by_start.1)

      pub few : (n : ℕ) → bit_length e ≤ n → d ≤ sliding_window_bits → (t.doublings + s.below) + (t.additions + windows) ≤ 2 ^ sliding_window_bits + 2 * n
      few n h narrow =
          omega (arith, ap total counted, length_counted (sliding_window_steps e d), sliding_short e d some wide, pow_mono {i = d} {j = sliding_window_bits} narrow)
