-- One move of a recoder: the lowest digit of v + c, and what is left, by the two low bits of v. Assumes nothing.
use Rattle.std.specs.Prelude.{Some}
use mathlib.Core.Path.{◌≡◌, refl, sym, ap, ◌∙◌}
use mathlib.Core.Logic.{◌≢◌}
use mathlib.Core.Bool.{Bool, true, false}
use mathlib.Core.List.{List, [], ◌∷◌}
use Prim.Native.Nat.{ℕ, zero, suc, ◌+◌, ◌*◌, ◌/◌, ◌%◌, ◌^◌, ◌<◌, ◌≤◌}
use native.Mathlib.Omega.{arith}
use lib.Dec.{leb}
use lib.ListN.{get_or, replicate}
use mir.Val.{bool_byte}
use Rattle.rules.specs.Limits.{number_words}
use Rattle.integers.specs.Positional.{positional, words_value}
use Rattle.integers.proofs.Bits.{bool_small}
use Rattle.integers.proofs.Positional.{positional_drop}
use Rattle.signed_digits.specs.Naf.{residue, low_digit, rest}
use Rattle.signed_digits.specs.Bytes.{digit_byte}
use Rattle.signed_digits.proofs.Steps.{low_digit_2, rest_2, by_four}
use Rattle.taking.specs.declared.Recoder.{Recoder}
use Rattle.taking.specs.Take.{stands_for, take_answer, take_leaves}

-- ---- the byte of the lowest digit, by the remainder modulo 4
pub byte_at : (n : ℕ) → get_or (0 ∷ 1 ∷ 0 ∷ 255 ∷ []) (n % 4) 0 ≡ digit_byte (low_digit 2 n)
byte_at = by_four _ (λ q. (
  let e : (4 * q) % 4 ≡ 0 = omega arith in rw (e, (low_digit_2 q).0),
  let e : (4 * q + 1) % 4 ≡ 1 = omega arith in rw (e, (low_digit_2 q).1),
  let e : (4 * q + 2) % 4 ≡ 2 = omega arith in rw (e, (low_digit_2 q).2),
  let e : (4 * q + 3) % 4 ≡ 3 = omega arith in rw (e, (low_digit_2 q).3),
))

-- the digit depends on that remainder alone
same_digit : (a b : ℕ) → a % 4 ≡ b % 4 → low_digit 2 a ≡ low_digit 2 b
unfolding low_digit residue
same_digit a b h = let e : a % 2 ≡ b % 2 = omega arith in rw (e, h)

-- ---- what is left, with the next carry
moved : (v c : ℕ) → c ≤ 1 → rest 2 (v + c) ≡ v / 2 + (v % 4 % 2 + v % 4 / 2 + c) / 2
moved v c h = go (v + c) v c refl h
  where
    go : (n v c : ℕ) → v + c ≡ n → c ≤ 1 → rest 2 n ≡ v / 2 + (v % 4 % 2 + v % 4 / 2 + c) / 2
    go = by_four _ (λ q. (
      λ v c e h. omega (arith, rest_2 q),
      λ v c e h. omega (arith, rest_2 q),
      λ v c e h. omega (arith, rest_2 q),
      λ v c e h. omega (arith, rest_2 q),
    ))

carry_half : (m : ℕ) → m ≤ 3 → bool_byte (leb 2 m) ≡ m / 2
carry_half zero h = refl
carry_half (suc zero) h = refl
carry_half (suc (suc zero)) h = refl
carry_half (suc (suc (suc zero))) h = refl
carry_half (suc (suc (suc (suc m)))) h = absurd (omega arith)

-- the low word has the two low bits
low_word : (words : List ℕ) → get_or words 0 0 % 4 ≡ words_value words % 4
low_word words = omega (arith, positional_drop (2 ^ 64) words 0)

-- ---- the number of a recoder that is done
pub zero_stands : stands_for (record { words = replicate number_words 0; carry = false }) ≡ 0
unfolding stands_for positional
zero_stands = refl

-- ---- the definitions of a take, where something is left
answer_some : (n : ℕ) → n ≢ 0 → take_answer n ≡ Some (digit_byte (low_digit 2 n))
answer_some zero h = absurd (h refl)
answer_some (suc n) h = refl

leaves_some : (n : ℕ) → n ≢ 0 → take_leaves n ≡ rest 2 n
leaves_some zero h = absurd (h refl)
leaves_some (suc n) h = refl

-- ---- the parts of a take, each by what the code has there: whether something is left, then the answer and what is left
module _ (r : Recoder) where
  pub none_left : words_value r.words ≡ 0 → r.carry ≡ false → stands_for r ≡ 0
  unfolding stands_for
  none_left z n = rw (z, n)

  pub some_left : (words_value r.words ≡ 0 → r.carry ≡ false → ⊥) → 0 < stands_for r
  unfolding stands_for
  some_left h = go (words_value r.words) r.carry h
    where
      go : (v : ℕ) (b : Bool) → (v ≡ 0 → b ≡ false → ⊥) → 0 < v + bool_byte b
      go zero false k = absurd (k refl refl)
      go zero true k = omega arith
      go (suc v) b k = omega arith

  pub digit_answered : (digit : ℕ) → 0 < stands_for r → digit ≡ digit_byte (low_digit 2 (get_or r.words 0 0 % 4 + bool_byte r.carry))
      → Some digit ≡ take_answer (stands_for r)
  unfolding stands_for
  digit_answered digit some byte =
      let v : ℕ = words_value r.words in
      let c : ℕ = bool_byte r.carry in
      let word : ℕ = get_or r.words 0 0 in
      let w : word % 4 ≡ v % 4 = low_word r.words in
      let d : low_digit 2 (word % 4 + c) ≡ low_digit 2 (v + c) = same_digit (word % 4 + c) (v + c) (omega arith) in
      rw (byte, d) (sym (answer_some (v + c) (λ z. omega arith)))

  pub digit_taken_off : (half : List ℕ) (carry : Bool) → let word = get_or r.words 0 0 in
      0 < stands_for r → words_value half ≡ words_value r.words / 2 → carry ≡ leb 2 (word % 2 + word / 2 % 2 + bool_byte r.carry)
      → stands_for (record { words = half; carry = carry }) ≡ take_leaves (stands_for r)
  unfolding stands_for
  digit_taken_off half carry some halves carries =
      let v : ℕ = words_value r.words in
      let c : ℕ = bool_byte r.carry in
      let word : ℕ = get_or r.words 0 0 in
      let ones : ℕ = word % 2 + word / 2 % 2 + c in
      let small : c ≤ 1 = omega (arith, bool_small r.carry) in
      let w : word % 4 ≡ v % 4 = low_word r.words in
      let m : rest 2 (v + c) ≡ v / 2 + ones / 2 = moved v c small ∙ ap (λ (k : ℕ). v / 2 + k / 2) (sum v c word w) in
      rw (halves, carries, carry_half ones (omega arith), leaves_some (v + c) (λ z. omega arith)) (sym m)
    where
      sum : (v c word : ℕ) → word % 4 ≡ v % 4 → v % 4 % 2 + v % 4 / 2 + c ≡ word % 2 + word / 2 % 2 + c
      sum v c word w = omega arith
