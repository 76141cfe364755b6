-- How many canonical digits a number has, by its bits and one bit of three times it. Assumes nothing.
use Rattle.std.proofs.Common.{◌≡◌, ℕ, zero, suc, ◌+◌, ◌*◌, ◌/◌, ◌%◌, ◌^◌, ◌<◌, ◌≤◌, Bool, true, false, cond, eqb, ◌↔◌, List, length, get_or, pos, sym, refl, ◌∙◌, div-lt_iff_lt-mul, add-one, arith, pow_pos, shr-shr}
use native.Mathlib.Nat.{pow-succ'}
use mir.Val.{bool_byte}
use Rattle.integers.specs.Bits.{bit, bit_length}
use Rattle.integers.specs.Positional.{words_value}
use Rattle.integers.proofs.Bits.{bit_length_iff, bit_of_element}
use Rattle.integers.proofs.Positional.{Below}
use Rattle.signed_digits.specs.Naf.{canonical}
use Rattle.signed_digits.specs.Modified.{saved}
use Rattle.signed_digits.proofs.Leading.{leads_top}
use Rattle.signed_digits.proofs.Length.{length_at_most}

twice : (k : ℕ) → 2 ^ (k + 1) ≡ 2 * 2 ^ k
twice k = rw (add-one, pow-succ' 2 k)

-- e of n bits has n digits, or one more where 3 e has a bit above those of 2 e
digits_by_bits : (e n : ℕ) → n ≡ bit_length e → n + 3 * e / 2 ^ (n + 1) % 2 ≡ length (canonical (pos e))
digits_by_bits e n bits = go (3 * e / 2 ^ (n + 1)) refl
  where
    l : ℕ
    l = length (canonical (pos e))

    below : e < 2 ^ n
    below = (bit_length_iff e n).0 (omega arith)

    low : n ≤ l
    low = rw bits ((bit_length_iff e l).1 (omega (arith, twice l, (length_at_most e l).0 (omega arith))))

    high : l ≤ n + 1
    high = (length_at_most e (n + 1)).1 (omega (arith, twice n, twice (n + 1), below))

    quotient : (m : ℕ) → 3 * e / 2 ^ (n + 1) < m ↔ 3 * e < m * 2 ^ (n + 1)
    quotient m = div-lt_iff_lt-mul (pow_pos (n + 1))

    go : (q : ℕ) → 3 * e / 2 ^ (n + 1) ≡ q → n + q % 2 ≡ l
    go zero z = omega (arith, low, (length_at_most e n).1 (omega (arith, (quotient 1).0 (omega arith))))
    go (suc zero) z =
        let more : l ≤ n → ⊥ = λ h. omega (arith, (quotient 1).1 (omega (arith, (length_at_most e n).0 h))) in
        omega (arith, high)
    go (suc (suc q)) z = absurd (omega (arith, (quotient 2).1 (omega (arith, twice n, below))))

-- the bit, out of its word
pub count_is : (triple : List ℕ) (e n word : ℕ) → Below (2 ^ 64) triple → words_value triple ≡ 3 * e → n ≡ bit_length e → word ≡ get_or triple ((n + 1) / 64) 0
    → n + word / 2 ^ ((n + 1) % 64) % 2 ≡ length (canonical (pos e))
unfolding bit
count_is triple e n word b whole bits at =
    let top : ℕ = n + 1 in
    let place : 64 * (top / 64) + top % 64 ≡ top = omega arith in
    rw (at, bit_of_element 64 triple (top / 64) (top % 64) (omega arith) b, place, whole) (digits_by_bits e n bits)

as_byte : (b : Bool) → bool_byte b ≡ cond b 1 0
as_byte true = refl
as_byte false = refl

-- the top three bits of three times it are 100 exactly where its digits lead with 1 0 -1
pub saved_is : (e n bits : ℕ) → n ≡ length (canonical (pos e)) → bits ≡ 2 ^ 64 * (3 * e) / 2 ^ (n + 1) % 2 ^ 64 → bool_byte (eqb (bits / 2 ^ 61) 4) ≡ saved e
saved_is e n bits count at =
    let X : ℕ = 2 ^ 64 * (3 * e) in
    let q : ℕ = 8 * (3 * e) / 2 ^ (n + 1) in
    let small : q < 8 = (div-lt_iff_lt-mul (pow_pos (n + 1))).1 (omega (arith, (length_at_most e n).0 (omega arith))) in
    let s : n + 1 + 61 ≡ 61 + (n + 1) = omega arith in
    let eight : X / 2 ^ 61 ≡ 8 * (3 * e) = omega arith in
    let three : X / 2 ^ (n + 1) / 2 ^ 61 ≡ q = shr-shr X (n + 1) 61 ∙ rw s (sym (shr-shr X 61 (n + 1)) ∙ rw eight) in
    let top : bits / 2 ^ 61 ≡ q = omega arith in
    rw (top, count, leads_top e) (as_byte (eqb (8 * (3 * e) / 2 ^ (length (canonical (pos e)) + 1)) 4))
