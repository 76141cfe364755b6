-- A number in the low bytes of a buffer, times a factor, plus an addend, one byte a turn. Assumes nothing.
use mathlib.Core.Path.{◌≡◌, refl, sym, ap, ◌∙◌}
use mathlib.Core.List.{List, [], ◌∷◌, ◌++◌, append_assoc, append-nil}
use Prim.Native.Nat.{ℕ, zero, suc, ◌+◌, ◌*◌, ◌/◌, ◌%◌, ◌^◌, ◌<◌, ◌≤◌}
use native.Mathlib.Nat.{pow-suc, add-mul, mul_assoc, zero-div, add-mul-div_left, div-div-eq-div-mul, div-add-mod, mul-le-mul_right}
use native.Mathlib.Numerals.{add-one}
use native.Mathlib.Omega.{arith}
use lib.ListN.{length, replicate, get_or, set, take, drop}
use lib.Seq.{drop-cons, set_at, get_or_at}
use Rattle.integers.specs.Positional.{bytes_value, low_bytes}
use Rattle.integers.proofs.Positional.{positional_take}
use Rattle.integers.proofs.LowBytes.{length_low, low_value, low_add, low_above}
use Rattle.integers.proofs.Bits.{power_positive}
use Rattle.decimal.specs.Decimal.{leading, decimal_value}
use Rattle.decimal.proofs.Digits.{leading_parts, value_append}

-- the byte above the k lowest
pub low_more : (l : List ℕ) (v k b : ℕ) → k < length l → v / 256 ^ k % 256 ≡ b → set (low_bytes k v ++ drop k l) k b ≡ low_bytes (k + 1) v ++ drop (k + 1) l
unfolding low_bytes
low_more l v k b h e =
    rw (low_add k 1 v, e, drop-cons l k 0 h, set_at (low_bytes k v) (get_or l k 0) (drop (suc k) l) b k (length_low k v), add-one)
    (simp append_assoc)

-- it is not yet written
pub low_next : (l : List ℕ) (v k : ℕ) → k < length l → get_or (low_bytes k v ++ drop k l) k 0 ≡ get_or l k 0
low_next l v k h = rw (drop-cons l k 0 h) (get_or_at (low_bytes k v) (get_or l k 0) (drop (suc k) l) 0 k (length_low k v))

-- what the k lowest bytes of l come to
abbrev pub total : List ℕ → ℕ → ℕ → ℕ → ℕ
total l factor addend k = bytes_value (take k l) * factor + addend

module _ (l : List ℕ) (factor addend k sum : ℕ) (here : get_or l k 0 * factor + total l factor addend k / 256 ^ k ≡ sum) where
  more : total l factor addend (k + 1) ≡ total l factor addend k + 256 ^ k * (get_or l k 0 * factor)
  more = rw (add-one, positional_take 256 k l, add-mul, mul_assoc) (omega arith)

  quotient : total l factor addend (k + 1) / 256 ^ k ≡ sum
  quotient = rw (more, add-mul-div_left (total l factor addend k) (get_or l k 0 * factor) (power_positive k)) (omega (arith, here))

  pub carry_more : sum / 256 ≡ total l factor addend (k + 1) / 256 ^ (k + 1)
  carry_more = rw (add-one k, pow-suc, ← div-div-eq-div-mul, ← add-one k, quotient)

  pub append_more : k < length l → set (low_bytes k (total l factor addend k) ++ drop k l) k (sum % 256) ≡ low_bytes (k + 1) (total l factor addend (k + 1)) ++ drop (k + 1) l
  append_more h =
      let same : low_bytes k (total l factor addend (k + 1)) ≡ low_bytes k (total l factor addend k) = rw more (low_above k (total l factor addend k) (get_or l k 0 * factor)) in
      rw (← same) (low_more l (total l factor addend (k + 1)) k (sum % 256) h (ap (λ (s : ℕ). s % 256) quotient))

-- a byte times the factor
pub byte_times : (b factor : ℕ) → b < 256 → b * factor ≤ 255 * factor
byte_times b factor h = mul-le-mul_right factor (omega arith)

-- the bytes above those of a number are nothing to the lowest of its product
append_low : (n v factor addend : ℕ) → low_bytes n (bytes_value (low_bytes n v) * factor + addend) ≡ low_bytes n (v * factor + addend)
append_low n v factor addend =
    let P : ℕ = 256 ^ n in
    let whole : v * factor + addend ≡ (v % P * factor + addend) + P * (v / P * factor) =
    ap (λ (x : ℕ). x * factor + addend) (sym (div-add-mod v P)) ∙ rw (add-mul, mul_assoc) (omega arith) in
    rw (low_value n v, whole, low_above n (v % P * factor + addend) (v / P * factor))

-- ---- the digits of a text, a part a turn

-- the bytes hold the number of the digits passed
pub record Underway (text bytes rest : List ℕ) : Type 0 where
  pub passed : List ℕ
  pub all : text ≡ passed ++ rest
  pub digits : leading rest ≡ length rest
  pub holds : bytes ≡ low_bytes (length bytes) (decimal_value passed)

zeros : (n : ℕ) → replicate n 0 ≡ low_bytes n 0
unfolding low_bytes
zeros zero = refl
zeros (suc n) = rw zero-div (ap (λ (l : List ℕ). 0 ∷ l) (zeros n))

pub start : (text bytes : List ℕ) (n : ℕ) → leading text ≡ length text → bytes ≡ replicate n 0 → Underway text bytes text
unfolding decimal_value
start text bytes n e b =
    let long : length bytes ≡ n = ap length (b ∙ zeros n) ∙ length_low n 0 in
    record { passed = []; all = refl; digits = e; holds = rw long (b ∙ zeros n) }

pub next_part : {text bytes rest : List ℕ} (part left : List ℕ) → Underway text bytes rest → rest ≡ part ++ left → {value power : ℕ} → value ≡ decimal_value part → power ≡ 10 ^ length part
    → {more : List ℕ} → more ≡ low_bytes (length bytes) (bytes_value bytes * power + value) → Underway text more left
next_part {text} {bytes} {rest} part left u r {value} {power} v p {more} m =
    let n : ℕ = length bytes in
    let long : length more ≡ n = ap length m ∙ length_low n (bytes_value bytes * power + value) in
    let number : decimal_value u.passed * power + value ≡ decimal_value (u.passed ++ part) = rw (v, p) (sym (value_append u.passed part)) in
    record {
      passed = u.passed ++ part;
      all = u.all ∙ ap (λ (l : List ℕ). u.passed ++ l) r ∙ sym (append_assoc u.passed part left);
      digits = (leading_parts part left (rw r at u.digits)).1;
      holds = rw long (m ∙ ap (λ (l : List ℕ). low_bytes n (bytes_value l * power + value)) u.holds ∙ append_low n (decimal_value u.passed) power value ∙ ap (low_bytes n) number);
    }

pub finish : (text bytes rest : List ℕ) → Underway text bytes rest → length rest ≡ 0 → bytes ≡ low_bytes (length bytes) (decimal_value text)
finish text bytes [] u e = let all : text ≡ u.passed = u.all ∙ append-nil u.passed in rw all u.holds
finish text bytes (c ∷ rest) u e = absurd (omega arith)
