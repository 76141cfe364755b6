-- What the answer tells: the bytes of a number are its shortest, and where there is none, why. Assumes nothing.
use mathlib.Core.Path.{◌≡◌, refl, sym, ap, ◌∙◌}
use mathlib.Core.Logic.{◌↔◌, ◌⊎◌, inl, inr}
use mathlib.Core.Bool.{Bool, true, false, cond}
use mathlib.Core.List.{List, ◌++◌}
use Prim.Native.Nat.{ℕ, ◌+◌, ◌-◌, ◌/◌, ◌^◌, ◌<◌, ◌≤◌}
use native.Mathlib.Omega.{arith}
use borrow.Author.Tests.{lt-ltb, le-ltb, ne_eqb, ltb-true, ltb-false, eqb-true, eqb-false}
use lib.Dec.{ltb, eqb}
use lib.ListN.{length, get_or, take, drop}
use lib.Seq.{length-take-le, take_at, take-append-le}
use Rattle.std.specs.Prelude.{Result, Ok, Err, Some, None}
use Rattle.std.specs.List.{position}
use Rattle.integers.specs.Positional.{bytes_value, bytes_of, low_bytes, Significant}
use Rattle.integers.proofs.LowBytes.{length_low, low_whole, low_below, low_of, low_add}
use Rattle.integers.proofs.Shortest.{bytes_value_lem, bytes_below, bytes_fit, bytes_significant}
use Rattle.decimal.specs.Decimal.{is_digit, leading, decimal_value, byte_count, no_number, parsed, parsed_buffer}
use Rattle.decimal.specs.declared.NotDecimal.{NotDecimal}
use Rattle.decimal.proofs.Digits.{other, stops_at, stops_nowhere, leading_digits, leading_end, leading_within, value_fits}

-- they stand at the start of those m
low_bytes_lem : (v m : ℕ) (rest : List ℕ) → v < 256 ^ m → take (length (bytes_of v)) (low_bytes m v ++ rest) ≡ bytes_of v
low_bytes_lem v m rest h =
    let l : List ℕ = bytes_of v in
    let n : ℕ = length l in
    let fit : n ≤ m = bytes_fit v m h in
    let parts : n + (m - n) ≡ m = omega arith in
    let within : n ≤ length (low_bytes m v) = omega (arith, length_low m v) in
    let split : low_bytes m v ≡ low_bytes n v ++ low_bytes (m - n) (v / 256 ^ n) = ap (λ (k : ℕ). low_bytes k v) (sym parts) ∙ low_add n (m - n) v in
    let shortest : low_bytes n v ≡ l = ap (low_bytes n) (sym (bytes_value_lem v)) ∙ low_of l (bytes_below v) in
    rw (take-append-le n (low_bytes m v) rest within, split, take_at (low_bytes n v) (low_bytes (m - n) (v / 256 ^ n)) n (length_low n v)) shortest

-- how many of m bytes that hold a number are significant
pub significant_length : (v m n : ℕ) (rest : List ℕ) → v < 256 ^ m → Significant (take m (low_bytes m v ++ rest)) n → n ≡ length (bytes_of v)
significant_length v m n rest h s =
    let low : take m (low_bytes m v ++ rest) ≡ low_bytes m v = take_at (low_bytes m v) rest m (length_low m v) in
    let t : Significant (low_bytes m v) n = rw low at s in
    let whole : take n (low_bytes m v) ≡ bytes_of v = bytes_significant (low_bytes m v) n (low_below m v) t ∙ ap bytes_of (low_whole m v h) in
    sym (length-take-le n (low_bytes m v) t.within) ∙ ap length whole

-- ---- the answer, by the tests that led to it

module _ (text : List ℕ) (room : ℕ) where
  pub stopped : {i : ℕ} → position other text ≡ Some i → no_number i ≡ parsed text room
  unfolding parsed
  stopped {i} e =
      let p = stops_at text i e in
      rw p.0 (simp (lt-ltb i (length text) p.1))

  module _ (none : position other text ≡ None) where
    pub unfit : (length text ≡ 0) ⊎ (room < byte_count text) → no_number (length text) ≡ parsed text room
    unfolding parsed
    unfit (inl z) = rw (stops_nowhere text none) (simp z)
    unfit (inr h) = rw (stops_nowhere text none) (simp (le-ltb (length text) (length text) (omega arith), ne_eqb (length text) 0 (λ z. omega arith), lt-ltb room (byte_count text) h))

    pub number : (length text ≡ 0 → ⊥) → byte_count text ≤ room → {n : ℕ} → n ≡ length (bytes_of (decimal_value text)) → Ok n ≡ parsed text room
    unfolding parsed
    number some h e = rw (stops_nowhere text none) (simp (le-ltb (length text) (length text) (omega arith), ne_eqb (length text) 0 some, le-ltb room (byte_count text) h) (rw e))

-- the place that an answer tells
abbrev place_of : Result ℕ NotDecimal → ℕ
place_of (Ok n) = 0
place_of (Err e) = e.digits

-- a text that is a number: all digits, and how many bytes its number has
parsed_is : (text : List ℕ) (room n : ℕ) → parsed text room ≡ Ok n → (leading text ≡ length text) × (length (bytes_of (decimal_value text)) ≡ n)
unfolding parsed
parsed_is text room n = go _ _ _ (ltb (leading text) (length text)) refl (eqb (length text) 0) (ltb room (byte_count text))
  where
    go : (a b c : ℕ) (other : Bool) → ltb (leading text) (length text) ≡ other → (none short : Bool)
        → cond other (no_number a) (cond none (no_number b) (cond short (no_number c) (Ok (length (bytes_of (decimal_value text)))))) ≡ Ok n
        → (leading text ≡ length text) × (length (bytes_of (decimal_value text)) ≡ n)
    go a b c true t none short e = let z : ◌≡◌ {A = ℕ} 0 1 = cc in absurd (omega arith)
    go a b c false t true short e = let z : ◌≡◌ {A = ℕ} 0 1 = cc in absurd (omega arith)
    go a b c false t false true e = let z : ◌≡◌ {A = ℕ} 0 1 = cc in absurd (omega arith)
    go a b c false t false false e = (omega (arith, leading_within text, ltb-false (leading text) (length text) t), cc)

-- where the answer is a number of this many bytes, they are exactly the bytes of the text's number: none of them is a high zero byte
pub parsed_bytes : (text bytes : List ℕ) (n : ℕ) → parsed text (length bytes) ≡ Ok n → take n (parsed_buffer text bytes) ≡ bytes_of (decimal_value text)
parsed_bytes text bytes n e =
    let p = parsed_is text (length bytes) n e in
    rw (e, ← p.1) (low_bytes_lem (decimal_value text) (byte_count text) (drop (byte_count text) bytes) (value_fits text p.0))

-- so they have its value
pub parsed_value : (text bytes : List ℕ) (n : ℕ) → parsed text (length bytes) ≡ Ok n → bytes_value (take n (parsed_buffer text bytes)) ≡ decimal_value text
parsed_value text bytes n e = rw (parsed_bytes text bytes n e) (bytes_value_lem (decimal_value text))

-- a byte of the text is no digit
abbrev pub Other : List ℕ → Type 0
Other text = (i : ℕ) × (i < length text) × (is_digit (get_or text i 0) ≡ false)

-- there is no number exactly where the text is empty, or has a byte that is no digit, or there is too little room
pub not_decimal : (text : List ℕ) (room : ℕ) → ((p : ℕ) × (parsed text room ≡ no_number p)) ↔ (length text ≡ 0) ⊎ Other text ⊎ (room < byte_count text)
unfolding parsed
not_decimal text room = (
  λ e. to _ _ _ _ (ltb (leading text) (length text)) refl (eqb (length text) 0) refl (ltb room (byte_count text)) refl e.0 e.1,
  from _ _ _ _ (ltb (leading text) (length text)) refl (eqb (length text) 0) refl (ltb room (byte_count text)) refl,
)
  where
    to : (a b c d : ℕ) (other : Bool) → ltb (leading text) (length text) ≡ other → (none : Bool) → eqb (length text) 0 ≡ none → (short : Bool) → ltb room (byte_count text) ≡ short
        → (p : ℕ) → cond other (no_number a) (cond none (no_number b) (cond short (no_number c) (Ok d))) ≡ no_number p
        → (length text ≡ 0) ⊎ Other text ⊎ (room < byte_count text)
    to a b c d true o none n short s p e = let h = ltb-true (leading text) (length text) o in inr (inl (leading text, h, leading_end text h))
    to a b c d false o true n short s p e = inl (eqb-true (length text) 0 n)
    to a b c d false o false n true s p e = inr (inr (ltb-true room (byte_count text) s))
    to a b c d false o false n false s p e = let z : ◌≡◌ {A = ℕ} 0 1 = cc in absurd (omega arith)

    from : (a b c d : ℕ) (other : Bool) → ltb (leading text) (length text) ≡ other → (none : Bool) → eqb (length text) 0 ≡ none → (short : Bool) → ltb room (byte_count text) ≡ short
        → (length text ≡ 0) ⊎ Other text ⊎ (room < byte_count text)
        → (p : ℕ) × (cond other (no_number a) (cond none (no_number b) (cond short (no_number c) (Ok d))) ≡ no_number p)
    from a b c d true o none n short s why = (a, refl)
    from a b c d false o true n short s why = (b, refl)
    from a b c d false o false n true s why = (c, refl)
    from a b c d false o false n false s (inl z) = absurd (eqb-false (length text) 0 n z)
    from a b c d false o false n false s (inr (inl (i, h, other))) =
        let digit : is_digit (get_or text i 0) ≡ true = leading_digits text i (omega (arith, ltb-false (leading text) (length text) o)) in
        let z : ◌≡◌ {A = ℕ} 0 1 = cc in
        absurd (omega arith)
    from a b c d false o false n false s (inr (inr h)) = absurd (omega (arith, ltb-false room (byte_count text) s))

-- where it stops before the end of the text, the byte there is no digit, and all before it are
pub not_decimal_place : (text : List ℕ) (room p : ℕ) → parsed text room ≡ no_number p → p < length text
    → (is_digit (get_or text p 0) ≡ false) × ((i : ℕ) → i < p → is_digit (get_or text i 0) ≡ true)
unfolding parsed
not_decimal_place text room p = go (ltb (leading text) (length text)) refl (eqb (length text) 0) refl (ltb room (byte_count text))
  where
    go : (other : Bool) → ltb (leading text) (length text) ≡ other → (none : Bool) → eqb (length text) 0 ≡ none → (short : Bool)
        → cond other (no_number (leading text)) (cond none (no_number 0) (cond short (no_number (length text)) (Ok (length (bytes_of (decimal_value text)))))) ≡ no_number p
        → p < length text → (is_digit (get_or text p 0) ≡ false) × ((i : ℕ) → i < p → is_digit (get_or text i 0) ≡ true)
    go true o none n short e h =
        let at : leading text ≡ p = ap place_of e in
        (rw at at (leading_end text (omega arith)), λ i k. leading_digits text i (omega arith))
    go false o true n short e h = absurd (omega (arith, eqb-true (length text) 0 n))
    go false o false n true e h = let at : length text ≡ p = ap place_of e in absurd (omega arith)
    go false o false n false e h = let z : ◌≡◌ {A = ℕ} 0 1 = cc in absurd (omega arith)

-- the place is always the first byte that is no digit, or the length where all are
pub not_decimal_leading : (text : List ℕ) (room p : ℕ) → parsed text room ≡ no_number p → p ≡ leading text
unfolding parsed
not_decimal_leading text room p = go (ltb (leading text) (length text)) refl (eqb (length text) 0) refl (ltb room (byte_count text))
  where
    go : (other : Bool) → ltb (leading text) (length text) ≡ other → (none : Bool) → eqb (length text) 0 ≡ none → (short : Bool)
        → cond other (no_number (leading text)) (cond none (no_number 0) (cond short (no_number (length text)) (Ok (length (bytes_of (decimal_value text)))))) ≡ no_number p
        → p ≡ leading text
    go true o none n short e = sym (ap place_of e)
    go false o true n short e = let at : ◌≡◌ {A = ℕ} 0 p = ap place_of e in omega (arith, leading_within text, eqb-true (length text) 0 n)
    go false o false n true e = let at : length text ≡ p = ap place_of e in omega (arith, leading_within text, ltb-false (leading text) (length text) o)
    go false o false n false e = let z : ◌≡◌ {A = ℕ} 0 1 = cc in absurd (omega arith)
