-- A position that a text begins with, by the bytes passed. Assumes nothing.
use mathlib.Core.Path.{◌≡◌, refl, ap}
use mathlib.Core.Bool.{Bool, true, false, cond}
use mathlib.Core.List.{List, [], ◌∷◌, ◌++◌}
use Prim.Native.Nat.{ℕ, suc, ◌+◌, ◌-◌, ◌*◌, ◌^◌, ◌<◌, ◌≤◌}
use native.Mathlib.Nat.{one-le-pow, mul-le-mul_left}
use native.Mathlib.Omega.{arith}
use borrow.Author.Tests.{eq-eqb, ne_eqb, lt-ltb, le-ltb, eqb-true, ltb-true, ltb-false}
use lib.Dec.{eqb, ltb}
use lib.ListN.{length, get_or, take, get_or-eq_default}
use Rattle.decimal.specs.Decimal.{is_digit, leading, decimal_value}
use Rattle.decimal.proofs.Digits.{part_more, leading_within}
use Rattle.step_words.specs.Word.{position_limit, position_digits}

-- digits end where another byte follows
pub digits_end : (digits : List ℕ) (end : ℕ) (rest : List ℕ) → leading digits ≡ length digits → is_digit end ≡ false → leading (digits ++ (end ∷ rest)) ≡ length digits
unfolding leading
digits_end [] end rest e f = rw f
digits_end (c ∷ digits) end rest e f = go (is_digit c) e (λ g. digits_end digits end rest g f)
  where
    go : (b : Bool) → cond b (suc (leading digits)) 0 ≡ suc (length digits) → (leading digits ≡ length digits → leading (digits ++ (end ∷ rest)) ≡ length digits)
        → cond b (suc (leading (digits ++ (end ∷ rest)))) 0 ≡ suc (length digits)
    go true e more = ap suc (more (omega arith))
    go false e more = absurd (omega arith)

pub leading_taken : (text : List ℕ) → leading (take (leading text) text) ≡ leading text
unfolding leading
leading_taken [] = refl
leading_taken (c ∷ text) = go (is_digit c) refl (leading_taken text)
  where
    go : (b : Bool) → is_digit c ≡ b → leading (take (leading text) text) ≡ leading text → leading (take (cond b (suc (leading text)) 0) (c ∷ text)) ≡ cond b (suc (leading text)) 0
    go true e h = rw (e, h)
    go false e h = refl

-- the number of more digits is no smaller
value_grows : (text : List ℕ) (m n : ℕ) → m ≤ n → n ≤ length text → decimal_value (take m text) ≤ decimal_value (take n text)
value_grows text m n h k =
    let e : n ≡ m + (n - m) = omega arith in
    let v : ℕ = decimal_value (take m text) in
    let some : v * 1 ≤ v * 10 ^ (n - m) = mul-le-mul_left v (one-le-pow (n - m) 10 (omega arith)) in
    rw e (omega (arith, part_more text m (n - m) (omega arith)))

module _ (text : List ℕ) (end i : ℕ) where
  -- the digits end with this byte
  pub position_ends : leading text ≡ i → get_or text i 0 ≡ end → decimal_value (take i text) < position_limit → i ≡ position_digits text end
  unfolding position_digits
  position_ends l e v = rw l (simp (eq-eqb (get_or text i 0) end e, lt-ltb (decimal_value (take i text)) position_limit v))

  -- with another
  pub ends_otherwise : leading text ≡ i → (get_or text i 0 ≡ end → ⊥) → 0 ≡ position_digits text end
  unfolding position_digits
  ends_otherwise l e = rw l (simp (ne_eqb (get_or text i 0) end e))

  -- or with the text
  pub ends_nowhere : leading text ≡ i → length text ≤ i → 0 < end → 0 ≡ position_digits text end
  ends_nowhere l h some = ends_otherwise l (λ e. omega (arith, get_or-eq_default text 0 {n = i} h))

  -- the first digits are too many
  pub too_large : i ≤ leading text → position_limit ≤ decimal_value (take i text) → 0 ≡ position_digits text end
  unfolding position_digits
  too_large h v =
      let whole : position_limit ≤ decimal_value (take (leading text) text) = omega (arith, value_grows text i (leading text) h (leading_within text)) in
      simp (le-ltb (decimal_value (take (leading text) text)) position_limit whole) (go (eqb (get_or text (leading text) 0) end))
    where
      go : (b : Bool) → ◌≡◌ {A = ℕ} 0 (cond b 0 0)
      go true = refl
      go false = refl

-- ---- what a position tells

-- it is all the digits that the text begins with, and the byte is behind them
pub record Found (text : List ℕ) (end n : ℕ) : Type 0 where
  pub digits : leading text ≡ n
  pub behind : get_or text n 0 ≡ end
  pub small : decimal_value (take n text) < position_limit

pub position_is : (text : List ℕ) (end : ℕ) → (position_digits text end ≡ 0 → ⊥) → Found text end (position_digits text end)
unfolding position_digits
position_is text end = go (eqb (get_or text (leading text) 0) end) (ltb (decimal_value (take (leading text) text)) position_limit) refl refl
  where
    go : (b small : Bool) → eqb (get_or text (leading text) 0) end ≡ b → ltb (decimal_value (take (leading text) text)) position_limit ≡ small
        → (cond b (cond small (leading text) 0) 0 ≡ 0 → ⊥) → Found text end (cond b (cond small (leading text) 0) 0)
    go true true e l n = record {
      digits = refl;
      behind = eqb-true (get_or text (leading text) 0) end e;
      small = ltb-true (decimal_value (take (leading text) text)) position_limit l;
    }
    go true false e l n = absurd (n refl)
    go false small e l n = absurd (n refl)

-- so behind it there is a byte
pub position_within : (text : List ℕ) (end : ℕ) → 0 < end → (position_digits text end ≡ 0 → ⊥) → position_digits text end + 1 ≤ length text
position_within text end some n = go (ltb (position_digits text end) (length text)) refl
  where
    go : (b : Bool) → ltb (position_digits text end) (length text) ≡ b → position_digits text end + 1 ≤ length text
    go true l = omega (arith, ltb-true (position_digits text end) (length text) l)
    go false l =
        absurd (omega (arith, (position_is text end n).behind, get_or-eq_default text 0 {n = position_digits text end} (ltb-false (position_digits text end) (length text) l)))
