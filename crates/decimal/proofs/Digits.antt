-- The digits that a text begins with, and the number of a part of them. Assumes nothing.
use mathlib.Core.Path.{◌≡◌, refl, sym, ap}
use mathlib.Core.Bool.{Bool, true, false, cond}
use mathlib.Core.List.{List, [], ◌∷◌, ◌++◌}
use Prim.Native.Nat.{ℕ, zero, suc, ◌+◌, ◌-◌, ◌*◌, ◌^◌, ◌<◌, ◌≤◌}
use native.Mathlib.Nat.{pow-zero, pow-succ', zero-mul, add-mul, mul_assoc, pow-le-pow_left, pow-le-pow_right}
use native.Mathlib.Numerals.{add-one}
use native.Mathlib.Omega.{arith}
use native.Mathlib.Decide.{dec_lt}
use borrow.Author.Tests.{lt-ltb, le-ltb, le-leb, lt-leb, ltb-true, ltb-false, leb-true}
use lib.Arith.{digits_lt}
use lib.Dec.{ltb, leb}
use lib.ListN.{length, get_or, take, drop, length-append, length-drop, drop_of_length-le}
use lib.Pow.{pow-add}
use lib.Seq.{drop-cons, take-suc, take-add, length-take-le}
use Rattle.std.specs.Prelude.{Some, None, not}
use Rattle.std.specs.Char.{is_ascii_digit}
use Rattle.std.specs.List.{position_or_len, position}
use Rattle.integers.proofs.Powers.{power_of_power}
use Rattle.decimal.specs.Decimal.{is_digit, leading, decimal_value, byte_count}

-- std's test
pub ascii_digit : (c : ℕ) → is_ascii_digit c ≡ is_digit c
unfolding is_digit
ascii_digit c = go (dec_lt c 48)
  where
    go : Dec (c < 48) → is_ascii_digit c ≡ cond (ltb c 48) false (leb c 57)
    go (yes h) = simp (lt-ltb c 48 h, lt-leb 48 c h)
    go (no h) = simp (le-ltb c 48 (omega arith), le-leb 48 c (omega arith))

pub leading_within : (text : List ℕ) → leading text ≤ length text
unfolding leading
leading_within [] = omega arith
leading_within (c ∷ text) = go (is_digit c) (leading_within text)
  where
    go : (b : Bool) → leading text ≤ length text → cond b (suc (leading text)) 0 ≤ suc (length text)
    go true h = omega arith
    go false h = omega arith

-- where the first byte stands that is no digit
abbrev pub other : ℕ → Bool
other c = not (is_digit c)

leading_is : (text : List ℕ) → leading text ≡ position_or_len other text
unfolding leading
leading_is [] = refl
leading_is (c ∷ text) = go (is_digit c) (leading_is text)
  where
    go : (b : Bool) → leading text ≡ position_or_len other text → cond b (suc (leading text)) 0 ≡ cond (not (not b)) (1 + position_or_len other text) 0
    go true e = omega arith
    go false e = refl

pub stops_at : (text : List ℕ) (i : ℕ) → position other text ≡ Some i → (leading text ≡ i) × (i < length text)
stops_at text i = rw (← leading_is text) (go (ltb (leading text) (length text)) refl)
  where
    go : (b : Bool) → ltb (leading text) (length text) ≡ b → cond b (Some (leading text)) None ≡ Some i → (leading text ≡ i) × (i < length text)
    go true l e = let same : leading text ≡ i = cc in (same, omega (arith, ltb-true (leading text) (length text) l))
    go false l e = cc

pub stops_nowhere : (text : List ℕ) → position other text ≡ None → leading text ≡ length text
stops_nowhere text = rw (← leading_is text) (go (ltb (leading text) (length text)) refl)
  where
    go : (b : Bool) → ltb (leading text) (length text) ≡ b → cond b (Some (leading text)) None ≡ None → leading text ≡ length text
    go true l e = cc
    go false l e = omega (arith, leading_within text, ltb-false (leading text) (length text) l)

-- one digit more, or a byte that is none
pub digit_passed : (text : List ℕ) (i : ℕ) → i < length text → is_digit (get_or text i 0) ≡ true → leading (drop i text) ≡ suc (leading (drop (i + 1) text))
unfolding leading
digit_passed text i h e = rw (add-one, drop-cons text i 0) (simp e)

pub none_passed : (text : List ℕ) (i : ℕ) → i < length text → is_digit (get_or text i 0) ≡ false → leading (drop i text) ≡ 0
unfolding leading
none_passed text i h e = rw (drop-cons text i 0) (simp e)

pub all_passed : (text : List ℕ) (i : ℕ) → length text ≤ i → leading (drop i text) ≡ 0
unfolding leading
all_passed text i h = rw (drop_of_length-le text {i = i} h)

-- those that the text begins with are digits, and the next byte is none
first_of : (b : Bool) (m n : ℕ) → n < cond b (suc m) 0 → b ≡ true
first_of true m n h = refl
first_of false m n h = absurd (omega arith)

pub leading_digits : (text : List ℕ) (i : ℕ) → i < leading text → is_digit (get_or text i 0) ≡ true
unfolding leading
leading_digits [] i h = absurd (omega arith)
leading_digits (c ∷ text) zero h = first_of (is_digit c) (leading text) 0 h
leading_digits (c ∷ text) (suc i) h = leading_digits text i (more (is_digit c) h)
  where
    more : (b : Bool) → suc i < cond b (suc (leading text)) 0 → i < leading text
    more true h = omega arith
    more false h = absurd (omega arith)

pub leading_end : (text : List ℕ) → leading text < length text → is_digit (get_or text (leading text) 0) ≡ false
unfolding leading
leading_end [] h = absurd (omega arith)
leading_end (c ∷ text) h = go (is_digit c) refl h (λ k. leading_end text k)
  where
    go : (b : Bool) → is_digit c ≡ b → cond b (suc (leading text)) 0 < suc (length text) → (leading text < length text → is_digit (get_or text (leading text) 0) ≡ false)
        → is_digit (get_or (c ∷ text) (cond b (suc (leading text)) 0) 0) ≡ false
    go true e h rest = rest (omega arith)
    go false e h rest = e

-- of digits in two parts, both are digits
pub leading_parts : (a b : List ℕ) → leading (a ++ b) ≡ length (a ++ b) → (leading a ≡ length a) × (leading b ≡ length b)
unfolding leading
leading_parts [] b e = (refl, e)
leading_parts (c ∷ a) b e = go (is_digit c) e (λ h. leading_parts a b h)
  where
    go : (d : Bool) → cond d (suc (leading (a ++ b))) 0 ≡ suc (length (a ++ b)) → (leading (a ++ b) ≡ length (a ++ b) → (leading a ≡ length a) × (leading b ≡ length b))
        → (cond d (suc (leading a)) 0 ≡ suc (length a)) × (leading b ≡ length b)
    go true e parts = let p = parts (omega arith) in (ap suc p.0, p.1)
    go false e parts = absurd (omega arith)

pub digit_range : (c : ℕ) → is_digit c ≡ true → (48 ≤ c) × (c ≤ 57)
unfolding is_digit
digit_range c e = let t = go (ltb c 48) (leb c 57) e in (ltb-false c 48 t.0, leb-true c 57 t.1)
  where
    go : (low high : Bool) → cond low false high ≡ true → (low ≡ false) × (high ≡ true)
    go true high e = (sym e, cc)
    go false high e = (refl, e)

-- of a text of digits, each is one
pub each_digit : (text : List ℕ) → leading text ≡ length text → (i : ℕ) → i < length text → (48 ≤ get_or text i 0) × (get_or text i 0 ≤ 57)
each_digit text e i h = digit_range (get_or text i 0) (leading_digits text i (omega arith))

-- the number of one text and another behind it
pub value_append : (a b : List ℕ) → decimal_value (a ++ b) ≡ decimal_value a * 10 ^ length b + decimal_value b
unfolding decimal_value
value_append [] b = rw zero-mul (omega arith)
value_append (c ∷ a) b =
    let Q : ℕ = 10 ^ length b in
    let long : 10 ^ length (a ++ b) ≡ 10 ^ length a * Q = rw (length-append, pow-add) in
    let e : ((c - 48) * 10 ^ length a + decimal_value a) * Q ≡ (c - 48) * 10 ^ length (a ++ b) + decimal_value a * Q = rw (long, add-mul, mul_assoc) in
    omega (arith, e, value_append a b)

-- one digit more
pub digit_more : (text : List ℕ) (i : ℕ) → i < length text → decimal_value (take (i + 1) text) ≡ decimal_value (take i text) * 10 + (get_or text i 0 - 48)
unfolding decimal_value
digit_more text i h = rw (add-one, take-suc text i 0 h, value_append) (omega (arith, pow-zero 10))

-- a part more behind those before it
pub part_more : (text : List ℕ) (from count : ℕ) → from + count ≤ length text
    → decimal_value (take (from + count) text) ≡ decimal_value (take from text) * 10 ^ count + decimal_value (take count (drop from text))
part_more text from count h =
    let long : length (take count (drop from text)) ≡ count = length-take-le count (drop from text) (omega (arith, length-drop from text)) in
    rw (take-add, value_append (take from text) (take count (drop from text)), long)

-- before the last digit of a part the power is at most this
pub power_room : (i count : ℕ) → i < count → count ≤ 16 → 10 ^ i ≤ 10 ^ 15
power_room i count h k = pow-le-pow_right (omega arith) {i = i} {j = 15} (omega arith)

pub power_limit : (i : ℕ) → i ≤ 16 → 10 ^ i ≤ 10 ^ 16
power_limit i h = pow-le-pow_right (omega arith) h

-- a text of digits stands for less than 10 to the power of its length
value_lt : (text : List ℕ) → ((i : ℕ) → i < length text → get_or text i 0 ≤ 57) → decimal_value text < 10 ^ length text
unfolding decimal_value
value_lt [] d = rw pow-zero (omega arith)
value_lt (c ∷ text) d =
    let first : c - 48 < 10 = omega (arith, d 0 (omega arith)) in
    let rest : decimal_value text < 10 ^ length text = value_lt text (λ i h. d (suc i) (omega arith)) in
    omega (arith, pow-succ' 10 (length text), digits_lt first rest)

-- so its number fits in half as many bytes
pub value_fits : (text : List ℕ) → leading text ≡ length text → decimal_value text < 256 ^ byte_count text
value_fits text e =
    let n : ℕ = byte_count text in
    let digits : 10 ^ length text ≤ 10 ^ (2 * n) = pow-le-pow_right (omega arith) (omega arith) in
    let bytes : 100 ^ n ≤ 256 ^ n = pow-le-pow_left (omega arith) n in
    let pairs : 100 ^ n ≡ 10 ^ (2 * n) = power_of_power 10 2 n in
    omega (arith, value_lt text (λ i h. (each_digit text e i h).1))
