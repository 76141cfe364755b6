-- The scan for the first byte that does not pass a test, one place more, and what its end says. Assumes nothing.
use mathlib.Core.Path.{◌≡◌, refl, sym, ◌∙◌}
use mathlib.Core.Bool.{Bool, true, false, cond, not, ◌&&◌, and-eq-true_iff, true≢false}
use mathlib.Core.List.{List, [], ◌∷◌}
use Prim.Native.Nat.{ℕ, zero, suc, ◌+◌, ◌-◌, ◌<◌, ◌≤◌}
use native.Mathlib.Decide.{dec_lt}
use native.Mathlib.Numerals.{add-one}
use native.Mathlib.Nat.{zero-add}
use native.Mathlib.Omega.{arith}
use Rattle.std.specs.Prelude.{Option, Some, None, MatchOption, ltb}
use borrow.Author.Tests.{lt-ltb, le-ltb}
use lib.ListN.{length, get_or, take, drop, length-take, length-drop, get_or-eq_default}
use lib.Seq.{drop-cons, drop-drop, drop-length, take_all}
use Rattle.std.specs.List.{position_or_len}
use Rattle.std.proofs.lemmas.List.Recursion.{is_position_or_len}
use Rattle.rules.specs.Limits.{string_digits}
use Rattle.digit_strings.specs.Admission.{is_digit, first_failing, first_bad, DigitString, LowestBad}
use Rattle.digit_strings.specs.Internal.{PassFor, failing_place}
use Rattle.digit_strings.proofs.Digits.{zero_digit}

not_both : {b : Bool} → b ≡ true → b ≡ false → ⊥
not_both e f = true≢false (sym e ∙ f)

module _ (test : ℕ → Bool) (s : List ℕ) where
  pub fails_here : (i : ℕ) → i < length s → test (get_or s i 0) ≡ false → first_failing test (drop i s) ≡ 0
  unfolding first_failing
  fails_here i h b = rw (drop-cons s i 0, b)

  pub passes_here : (i : ℕ) → i < length s → test (get_or s i 0) ≡ true → first_failing test (drop i s) ≡ suc (first_failing test (drop (i + 1) s))
  unfolding first_failing
  passes_here i h b = rw (add-one, drop-cons s i 0, b)

  pub none_above : first_failing test (drop (length s) s) ≡ 0
  unfolding first_failing
  none_above = rw drop-length

  pub none_yet : (from : ℕ) → PassFor test s from 0
  none_yet from =
      let e : from + 0 ≡ from = omega arith in
      rw e (omega arith)

  -- a byte more
  pub one_more : (from n : ℕ) → from + n < length s → test (get_or s (from + n) 0) ≡ true → PassFor test s from n → PassFor test s from (n + 1)
  one_more from n h b e =
      let l = passes_here (from + n) h b in
      let f : from + n + 1 ≡ from + (n + 1) = omega arith in
      omega (arith, e, rw f at l)

  -- this many more
  pub pass_joined : (n m : ℕ) → PassFor test s 0 n → PassFor test s n m → PassFor test s 0 (n + m)
  pass_joined n m e f =
      let g : 0 + n ≡ n = omega arith in
      let k : 0 + (n + m) ≡ n + m = omega arith in
      rw k (omega (arith, rw g at e, f))

-- a block that passes as a whole
passes_whole : (test : ℕ → Bool) (n : ℕ) (s : List ℕ) → first_failing test (take n s) ≡ n → first_failing test s ≡ n + first_failing test (drop n s)
unfolding first_failing
passes_whole test zero s e = sym (zero-add _)
passes_whole test (suc n) [] e = absurd (omega arith)
passes_whole test (suc n) (b ∷ s) e = go (test b) e (passes_whole test n s)
  where
    go : (t : Bool) → cond t (suc (first_failing test (take n s))) 0 ≡ suc n → (first_failing test (take n s) ≡ n → first_failing test s ≡ n + first_failing test (drop n s)) → cond t (suc (first_failing test s)) 0 ≡ suc n + first_failing test (drop n s)
    go true e l = let r = l (omega arith) in omega (arith, r)
    go false e l = absurd (omega arith)

pub block_joined : (test : ℕ → Bool) (s : List ℕ) (i : ℕ) → PassFor test s 0 i → i + 8 ≤ length s → first_failing test (take 8 (drop i s)) ≡ length (take 8 (drop i s)) → PassFor test s 0 (i + 8)
block_joined test s i p h e =
    let n : length (take 8 (drop i s)) ≡ 8 = omega (arith, length-take 8 (drop i s), length-drop i s) in
    pass_joined test s i 8 p (rw drop-drop at (passes_whole test 8 (drop i s) (e ∙ n)))

-- below the place that is found every byte passes, and at it none does
below_bad : (test : ℕ → Bool) (s : List ℕ) (i : ℕ) → i < first_failing test s → test (get_or s i 0) ≡ true
unfolding first_failing
below_bad test [] i h = absurd (omega arith)
below_bad test (b ∷ s) i h = go (test b) refl i h (λ k. below_bad test s k)
  where
    go : (t : Bool) → test b ≡ t → (i : ℕ) → i < cond t (suc (first_failing test s)) 0 → ((k : ℕ) → k < first_failing test s → test (get_or s k 0) ≡ true) → test (get_or (b ∷ s) i 0) ≡ true
    go true e zero h rest = e
    go true e (suc i) h rest = rest i (omega arith)
    go false e i h rest = absurd (omega arith)

at_bad : (test : ℕ → Bool) (s : List ℕ) → first_failing test s < length s → test (get_or s (first_failing test s) 0) ≡ false
unfolding first_failing
at_bad test [] h = absurd (omega arith)
at_bad test (b ∷ s) h = go (test b) refl h (λ k. at_bad test s k)
  where
    go : (t : Bool) → test b ≡ t → cond t (suc (first_failing test s)) 0 < length (b ∷ s) → (first_failing test s < length s → test (get_or s (first_failing test s) 0) ≡ false) → test (get_or (b ∷ s) (cond t (suc (first_failing test s)) 0) 0) ≡ false
    go true e h rest = rest (omega arith)
    go false e h rest = e

module _ (w : ℕ) (s : List ℕ) where
  pub bad_is : first_bad w s < length s → LowestBad w s (first_bad w s)
  bad_is h = record { within = h; bad = at_bad (is_digit w) s h; lowest = below_bad (is_digit w) s }

  -- no other place is so
  pub bad_only : {p : ℕ} → LowestBad w s p → first_bad w s ≡ p
  bad_only {p} l = go (dec_lt (first_bad w s) p) (dec_lt p (first_bad w s))
    where
      go : Dec (first_bad w s < p) → Dec (p < first_bad w s) → first_bad w s ≡ p
      go (yes h) _ = absurd (not_both (l.lowest (first_bad w s) h) (at_bad (is_digit w) s (omega (arith, l.within))))
      go (no h) (yes k) = absurd (not_both (below_bad (is_digit w) s p k) l.bad)
      go (no h) (no k) = omega arith

  -- where the scan finds nothing, the string is one of digits
  pub all_digits : length s ≤ string_digits → length s ≤ first_bad w s → DigitString w s
  all_digits h l = record { within = h; digits = λ i p. below_bad (is_digit w) s i (omega arith) }

  pub none_bad : DigitString w s → length s ≤ first_bad w s
  none_bad d = go (dec_lt (first_bad w s) (length s))
    where
      go : Dec (first_bad w s < length s) → length s ≤ first_bad w s
      go (yes h) = absurd (not_both (d.digits (first_bad w s) h) (at_bad (is_digit w) s h))
      go (no h) = omega arith

-- the digits of a string, and 0 above it
pub digit_at_lem : {w : ℕ} {s : List ℕ} → DigitString w s → (i : ℕ) → is_digit w (get_or s i 0) ≡ true
digit_at_lem {w} {s} d i = go (dec_lt i (length s))
  where
    go : Dec (i < length s) → is_digit w (get_or s i 0) ≡ true
    go (yes h) = d.digits i h
    go (no h) = rw (get_or-eq_default s 0 {n = i} (omega arith)) (zero_digit w)

-- ---- what the code's loops need

-- a byte more of a block, if all so far were digits and so is this one
pub byte_more : (test : ℕ → Bool) (s : List ℕ) (n : ℕ) (all : Bool) → (all ≡ true → PassFor test s 0 n) → n < length s → (all && test (get_or s n 0)) ≡ true → PassFor test s 0 (n + 1)
byte_more test s n all p h e =
    let b = (and-eq-true_iff all _).0 e in
    let z : 0 + n ≡ n = omega arith in
    one_more test s 0 n (rw z h) (rw z b.1) (p b.0)

-- the scan by the library's word
failing_is : (test : ℕ → Bool) (s : List ℕ) → first_failing test s ≡ position_or_len (λ b. not (test b)) s
unfolding first_failing
failing_is test s = is_position_or_len (first_failing test) (λ b. not (test b)) refl (λ b bs. go (test b) (first_failing test bs)) s
  where
    go : (t : Bool) (n : ℕ) → cond t (suc n) 0 ≡ cond (not t) 0 (1 + n)
    go true n = omega arith
    go false n = refl

module _ (test : ℕ → Bool) (s : List ℕ) (i : ℕ) (q : PassFor test s 0 i) (h : i ≤ length s) where
  p : first_failing test s ≡ i + first_failing test (drop i s)
  p = let z : 0 + i ≡ i = omega arith in rw z at q

  -- of the bytes from place i on, below which all pass, the first that does not
  pub first_of_rest : (r : Option ℕ) → r ≡ failing_place test (take (length s - i) (drop i s)) → MatchOption r (length s ≤ first_failing test s) (λ n. (i + n ≡ first_failing test s) × (i + n < length s))
  unfolding failing_place
  first_of_rest r e = go (dec_lt m n) (rw (take_all (length s - i) (drop i s) (omega (arith, length-drop i s))) at e)
    where
      m : ℕ
      m = position_or_len (λ b. not (test b)) (drop i s)

      n : ℕ
      n = length (drop i s)

      go : Dec (m < n) → r ≡ cond (ltb m n) (Some m) None → MatchOption r (length s ≤ first_failing test s) (λ k. (i + k ≡ first_failing test s) × (i + k < length s))
      go (yes l) e = rw (e, lt-ltb m n l) (omega (arith, p, failing_is test (drop i s)), omega (arith, length-drop i s))
      go (no l) e = rw (e, le-ltb m n (omega arith)) (omega (arith, p, failing_is test (drop i s), length-drop i s))

-- a block of which every byte passes
pub whole_block : (test : ℕ → Bool) (s : List ℕ) → PassFor test s 0 (length s) → first_failing test s ≡ length s
whole_block test s p = let z : 0 + length s ≡ length s = omega arith in omega (arith, rw z at p, none_above test s)
